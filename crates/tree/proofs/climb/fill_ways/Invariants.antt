-- Row by row the code of its object's parent is stored twice: as the parent's own, and as where the way has come to. The loop's invariant is `Filled`:
-- the words of the rows that are passed have gone a step.
use Rattle.tree.specs.Objects.{says_by}
use Rattle.tree.proofs.Climbing.{Filled}
use Rattle.tree.proofs.climb.fill_ways.Given as goal

abbrev pub invariant-loop-i : goal.invariant-loop-i
invariant-loop-i l = Filled (says_by l.g l.dump l.t) l.heads l.ways l.i
