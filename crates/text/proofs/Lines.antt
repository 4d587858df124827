-- How long a line is.
use Prim.Native.Nat.{ℕ, suc, ◌+◌, ◌^◌, ◌≤◌, ◌<◌}
use native.Mathlib.Omega.{arith}
use lib.ListN.{length, length-append}
use mathlib.Core.List.{List}
use Rattle.text.specs.Lines.{field_of, line_of}
use Rattle.text.proofs.Digits.{few}

module _ (key : List ℕ) (k n : ℕ) (h : n < 10 ^ suc k) where
  -- a key with a number below a power of ten
  pub field_length : length (field_of key n) ≤ length key + suc k
  unfolding field_of
  field_length = rw length-append (omega (arith, few k n h))

  -- the same with the end of the line
  pub line_length : length (line_of key n) ≤ length key + suc k + 1
  unfolding line_of
  line_length = rw length-append (omega (arith, field_length))
