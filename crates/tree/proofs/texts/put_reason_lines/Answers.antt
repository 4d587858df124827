-- The pieces are put one behind the other: the line of the object, the key of the other line, the reason in words and the end of the line.
use Rattle.text.proofs.Putting.{also}
use Rattle.tree.specs.Tree.{reason_lines}
use Rattle.tree.proofs.texts.put_reason_lines.Goals as goal

pub returns : goal.returns
unfolding reason_lines
returns c =
    rw (← c.key_of.ensures, ← c.into.ensures)
    (also
    (also (also c.put_object-key.ensures c.put_text-words.ensures) c.put_words-end.ensures)
    c.put_byte.ensures)
