-- The slash, and then the name.
use Rattle.text.proofs.Putting.{also}
use Rattle.tree.proofs.texts.put_step.Goals as goal

pub returns : goal.returns
returns c = rw (← c.value_of.ensures) (also c.put_byte-next.ensures c.put_name.ensures)
