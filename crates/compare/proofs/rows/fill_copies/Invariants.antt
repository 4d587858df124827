-- The loop's invariant is `Filling`: the rows of the objects before word i are written, and those of the objects whose words begin there are to come.
-- Each turn writes those of one object.
use Prim.Native.Nat.{◌-◌}
use mathlib.Core.Path.{◌≡◌}
use lib.ListN.{length}
use Rattle.compare.proofs.Filling.{Filling}
use Rattle.compare.proofs.rows.fill_copies.Given as goal

abbrev pub invariant-loop-i : goal.invariant-loop-i
invariant-loop-i l = (length l.work ≡ length l.initial.work) × Filling l.g l.dump l.pages l.g.layout.«data» l.order l.copies l.i

abbrev pub decreases-loop-i : goal.decreases-loop-i
decreases-loop-i l = length l.order - l.i
