-- The first number that passes a test, and how many numbers do.
use Rattle.std.specs.Prelude.{ℕ, zero, suc, ◌+◌, Bool, true, false}
use Rattle.page.specs.Choice.{pick}

-- the first of the n numbers from i that passes the test; the number behind them where none does
unfoldable pub first_from : (test : ℕ → Bool) (from count : ℕ) → ℕ
first_from test i zero = i
first_from test i (suc n) = pick (test i) i (first_from test (i + 1) n)

-- one more where the test holds
abbrev pub more : Bool → ℕ → ℕ
more true n = n + 1
more false n = n

-- how many numbers below n pass the test
unfoldable pub count : (ℕ → Bool) → ℕ → ℕ
count test zero = 0
count test (suc n) = more (test n) (count test n)
