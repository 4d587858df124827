-- Two numbers stand in one order or the other.
use Prim.Native.Nat.{ℕ, ◌≤◌, ◌<◌}
use mathlib.Core.Bool.{Bool, true, false}
use mathlib.Core.Logic.{◌⊎◌, inl, inr}
use mathlib.Core.Path.{◌≡◌, refl}
use lib.Dec.{leb}
use borrow.Author.Tests.{leb-true, leb-false}

by : (m n : ℕ) (t : Bool) → leb m n ≡ t → (m ≤ n) ⊎ (n < m)
by m n true e = inl (leb-true m n e)
by m n false e = inr (leb-false m n e)

pub le_or_lt : (m n : ℕ) → (m ≤ n) ⊎ (n < m)
le_or_lt m n = by m n (leb m n) refl
