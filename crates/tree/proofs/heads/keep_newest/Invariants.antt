-- The loop's invariant is `Kept`: what was kept stands in front, and the newest row so far of the object at hand is `best`. Rows of one object stand
-- side by side: so a row of another object means that the one at hand is done, and `best` is kept.
use Rattle.tree.specs.Objects.{says_by}
use Rattle.tree.proofs.NewestEach.{Kept}
use Rattle.tree.proofs.heads.keep_newest.Given as goal

abbrev pub invariant-loop-i : goal.invariant-loop-i
invariant-loop-i l = Kept (says_by l.g l.dump l.t) l.initial.rows l.rows l.best l.at l.i
