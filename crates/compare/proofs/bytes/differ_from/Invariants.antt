-- The loop's invariant: none of the first i bytes differ. Behind the end of the shorter part zeros stand, so the longer differs there where it is set.
use Prim.Native.Nat.{◌≤◌, ◌-◌}
use mathlib.Core.Path.{◌≡◌}
use lib.ListN.{length}
use Rattle.compare.specs.Views.{byte_of}
use Rattle.compare.specs.Parts.{differing}
use Rattle.compare.proofs.bytes.differ_from.Given as goal

abbrev pub invariant-loop-i : goal.invariant-loop-i
invariant-loop-i l = (l.i ≤ length l.b) × (differing (byte_of l.a) (byte_of l.b) 0 l.i ≡ 0)

abbrev pub decreases-loop-i : goal.decreases-loop-i
decreases-loop-i l = length l.b - l.i
