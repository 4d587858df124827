use mathlib.Core.Path.{◌∙◌}
use native.Mathlib.Omega.{arith}
use Rattle.file.proofs.Rows.{closed_max, closed_more}
use Rattle.file.proofs.table.mark_damaged.Goals as goal

pub loop-r-preserved : goal.loop-r-preserved
loop-r-preserved c =
    let q = c.loop-r in
    let i = c.words_of-i.ensures in
    rw i (closed_more q.r _ _ q.invariant (omega arith) _ (rw (← i) (c.max.ensures ∙ closed_max _)))
