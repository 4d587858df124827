-- As `differing_in`, with zeros on the other side. The loop's invariant: the count is that of the first i bytes from the place on, and so no more than
-- i.
use mathlib.Core.Path.{◌≡◌}
use Rattle.compare.specs.Views.{byte_of}
use Rattle.compare.specs.Parts.{differing, zeros}
use Rattle.compare.proofs.bytes.set_in.Given as goal

abbrev pub invariant-loop-i : goal.invariant-loop-i
invariant-loop-i l = l.count ≡ differing (byte_of l.a) zeros l.from l.i
