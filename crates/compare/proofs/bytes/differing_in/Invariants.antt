-- The loop's invariant: the count is that of the first i bytes from the place on. So it is no more than i, and a block of 128 fits the count.
use mathlib.Core.Path.{◌≡◌}
use Rattle.compare.specs.Views.{byte_of}
use Rattle.compare.specs.Parts.{differing}
use Rattle.compare.proofs.bytes.differing_in.Given as goal

abbrev pub invariant-loop-i : goal.invariant-loop-i
invariant-loop-i l = l.count ≡ differing (byte_of l.a) (byte_of l.b) l.from l.i
