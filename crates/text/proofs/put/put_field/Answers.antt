-- The key, and then the number.
use Rattle.text.specs.Lines.{field_of}
use Rattle.text.proofs.Putting.{also}
use Rattle.text.proofs.put.put_field.Goals as goal

pub returns : goal.returns
unfolding field_of
returns c = also c.put_text-next.ensures c.put_decimal.ensures
