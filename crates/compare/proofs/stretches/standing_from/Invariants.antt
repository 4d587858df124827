-- The loop's invariant: of the rows from the place on, those that stand are found from row i on. A row that ends at or before the stretch is passed
-- over; the first that does not stands, and all behind it.
use mathlib.Core.Path.{◌≡◌}
use lib.ListN.{drop}
use Rattle.compare.specs.Sides.{standing}
use Rattle.compare.proofs.stretches.standing_from.Given as goal

abbrev pub invariant-loop-i : goal.invariant-loop-i
invariant-loop-i l = standing l.g.layout.«data» l.x (drop l.i l.rows) ≡ standing l.g.layout.«data» l.x (drop l.from l.rows)
