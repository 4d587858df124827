-- The key with the number, and then the end of the line.
use Rattle.text.specs.Lines.{line_of}
use Rattle.text.proofs.Putting.{also}
use Rattle.text.proofs.put.put_line.Goals as goal

pub returns : goal.returns
unfolding line_of
returns c = also c.put_field-next.ensures c.put_byte.ensures
