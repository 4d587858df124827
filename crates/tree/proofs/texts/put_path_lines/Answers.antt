-- The pieces are put one behind the other: the line of the object, the key of the other line, the path and the end of the line.
use Rattle.text.proofs.Putting.{also}
use Rattle.tree.specs.Tree.{path_lines}
use Rattle.tree.proofs.texts.put_path_lines.Goals as goal

pub returns : goal.returns
unfolding path_lines
returns c =
    rw (← c.row_at.ensures)
    (also (also (also c.put_object-key.ensures c.put_text-path.ensures) c.put_path-end.ensures) c.put_byte.ensures)
