-- A number in decimal, as bytes: no leading zeros, and 0 is one digit.
use Rattle.std.specs.Prelude.{ℕ, zero, suc, ◌+◌, ◌/◌, ◌%◌, cond, List, [], ◌∷◌, ◌++◌, ltb}

-- the byte of the digit 0
abbrev pub zero_digit : ℕ
zero_digit = 48

-- at most so many digits: those of the tenth part, where there is one, and the last digit
unfoldable pub digits : (most n : ℕ) → List ℕ
digits zero n = []
digits (suc k) n = let more = digits k (n / 10) in cond (ltb n 10) [] more ++ ((zero_digit + n % 10) ∷ [])

-- all digits: a number has fewer than the number after it says
unfoldable pub decimal : ℕ → List ℕ
decimal n = digits (suc n) n
