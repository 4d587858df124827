-- Block by block: a block in which some byte is set ends the search. The loop's invariant: none of the first i bytes is set. So the rest, shorter than
-- a block, decides.
use Prim.Native.Nat.{◌≤◌, ◌-◌}
use mathlib.Core.Path.{◌≡◌}
use lib.ListN.{length}
use Rattle.compare.specs.Views.{byte_of}
use Rattle.compare.specs.Parts.{differing, zeros}
use Rattle.compare.proofs.bytes.any_set.Given as goal

abbrev pub invariant-loop-i : goal.invariant-loop-i
invariant-loop-i l = (l.i ≤ length l.a) × (differing (byte_of l.a) zeros 0 l.i ≡ 0)

abbrev pub decreases-loop-i : goal.decreases-loop-i
decreases-loop-i l = length l.a - l.i
