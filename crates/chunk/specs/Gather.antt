-- What the pages of a dump give together, in the order of their numbers.
use Rattle.std.specs.Prelude.{ℕ, zero, suc}

-- `a`, and then what each of the pages 0 to n - 1 makes of it
unfoldable pub gather : {A : Type 0} → (ℕ → A → A) → A → ℕ → A
gather f a zero = a
gather f a (suc n) = f n (gather f a n)
