-- The sum of the eight bytes is the low word, and the high one 2^32 times.
use Prim.Native.Nat.{◌+◌}
use mathlib.Core.Path.{◌≡◌}
use native.Mathlib.Omega.{arith}
use Rattle.page.specs.Words.{le32, le64}
use Rattle.page.proofs.word.long_at.Goals as goal

pub returns : goal.returns
unfolding le64 le32
returns c =
    let at = c.args.at in
    let one : at + 4 + 1 ≡ at + 5 = omega arith in
    let two : at + 4 + 2 ≡ at + 6 = omega arith in
    let three : at + 4 + 3 ≡ at + 7 = omega arith in
    rw (one, two, three) (omega (arith, c.from_le_bytes.ensures))
