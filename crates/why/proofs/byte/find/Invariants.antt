-- The loop's invariant: what is found in all rows is found in those left, with the code of the last one passed.
use mathlib.Core.Path.{◌≡◌}
use lib.ListN.{drop}
use Rattle.why.specs.Answers.{found_in}
use Rattle.why.proofs.byte.find.Given as goal

abbrev pub invariant-loop-row : goal.invariant-loop-row
invariant-loop-row l = found_in l.x l.size l.code (drop l.row-index l.rows) ≡ found_in l.x l.size 0 l.rows
