-- The loop's invariant is `Listing`: of the rows passed, those of objects that are in the second list are put, each with its reason. It is asked of the
-- words, and what these tell is said for every dump whose rows these are.
use Rattle.tree.specs.Objects.{says_by}
use Rattle.tree.proofs.SecondList.{Listing}
use Rattle.tree.proofs.others.list_others.Given as goal

abbrev pub invariant-loop-i : goal.invariant-loop-i
invariant-loop-i l = Listing (says_by l.g l.dump l.t) l.heads l.ways l.initial.rows l.at l.rows l.end l.i
