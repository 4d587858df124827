-- Row by row. The loop's invariant: the lines of the first i rows were put.
use Rattle.text.specs.Put.{Put}
use Rattle.tree.specs.Rows.{lines_to}
use Rattle.tree.proofs.texts.put_lines.Given as goal

abbrev pub invariant-loop-i : goal.invariant-loop-i
invariant-loop-i l = Put (lines_to l.g l.dump l.rows l.listed l.i) l.initial.buf l.at l.buf l.next
