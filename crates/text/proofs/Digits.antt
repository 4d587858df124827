-- The digits of a number: those of its tenth part, where there is one, and the last; and how many they are.
use Prim.Native.Nat.{ℕ, zero, suc, ◌+◌, ◌/◌, ◌%◌, ◌^◌, ◌≤◌, ◌<◌}
use mathlib.Core.Path.{◌≡◌}
use mathlib.Core.Logic.{⊎_elim}
use mathlib.Core.List.{[], ◌∷◌, ◌++◌}
use native.Mathlib.Omega.{arith}
use borrow.Author.Tests.{lt-ltb, le-ltb}
use lib.ListN.{length, length-append}
use Rattle.text.specs.Decimal.{zero_digit, digits, decimal}
use Rattle.text.proofs.Order.{le_or_lt}

-- more room than digits changes nothing
enough : (k j n : ℕ) → n < k → n < j → digits k n ≡ digits j n
unfolding digits
enough zero j n h g = absurd (omega arith)
enough (suc k) zero n h g = absurd (omega arith)
enough (suc k) (suc j) n h g =
    ⊎_elim (λ l. rw (le-ltb n 10 l, enough k j (n / 10) (omega arith) (omega arith))) (λ l. rw (lt-ltb n 10 l)) (le_or_lt 10 n)

pub one_digit : (n : ℕ) → n < 10 → decimal n ≡ (zero_digit + n % 10) ∷ []
unfolding decimal digits
one_digit n h = rw (lt-ltb n 10 h)

pub more_digits : (n : ℕ) → 10 ≤ n → decimal n ≡ decimal (n / 10) ++ ((zero_digit + n % 10) ∷ [])
unfolding decimal digits
more_digits n h = rw (le-ltb n 10 h, enough n (suc (n / 10)) (n / 10) (omega arith) (omega arith))

-- a number below a power of ten has no more digits than the power says
pub few : (k n : ℕ) → n < 10 ^ suc k → length (decimal n) ≤ suc k
few zero n h = rw (one_digit n h) (omega arith)
few (suc k) n h =
    ⊎_elim (λ l. rw (more_digits n l, length-append) (omega (arith, few k (n / 10) (omega arith)))) (λ l. rw (one_digit n l) (omega arith)) (le_or_lt 10 n)
