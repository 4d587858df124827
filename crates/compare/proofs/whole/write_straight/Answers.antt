-- There is room for the object's line and for what differs. What differs is put behind the place of the line; if nothing was, the bytes are as they
-- were, and else the line is put into its place.
use native.Mathlib.Omega.{arith}
use Rattle.compare.proofs.Lining.{straight_nothing, straight_both}
use Rattle.compare.proofs.whole.write_straight.Goals as goal

pub returns-then-next-line : goal.returns-then-next-line
returns-then-next-line c = straight_nothing _ (omega arith) _ _ c.requires c.put_name-line.ensures c.put_differences-next.ensures c.if-next-line.true

pub returns : goal.returns
returns c = straight_both _ (omega arith) _ _ c.requires c.put_name-line.ensures c.put_differences-next.ensures c.if-next-line.false c.put_name.ensures
