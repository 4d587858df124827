-- The loop's invariant: the rows passed are closed, and all else is as it was.
use Rattle.file.specs.Table.{Closed}
use Rattle.file.proofs.table.mark_damaged.Given as goal

abbrev pub invariant-loop-r : goal.invariant-loop-r
invariant-loop-r l = Closed l.r l.initial.table l.table
