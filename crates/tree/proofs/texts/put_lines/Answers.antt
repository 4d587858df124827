use native.Mathlib.Omega.{arith}
use Rattle.text.proofs.Putting.{nothing, also}
use Rattle.tree.proofs.Texting.{lines_none, lines_more}
use Rattle.tree.proofs.texts.put_lines.Goals as goal

pub loop-i-init : goal.loop-i-init
loop-i-init c = rw lines_none (nothing _ _ (omega arith) (omega arith))

pub loop-i-preserved : goal.loop-i-preserved
loop-i-preserved c =
    let q = c.loop-i in
    rw lines_more (also q.invariant c.put_row_lines-next.ensures)
