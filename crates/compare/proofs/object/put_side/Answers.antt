-- Where the two tests do not differ nothing is put.
use native.Mathlib.Omega.{arith}
use Rattle.text.proofs.Putting.{nothing}
use Rattle.compare.proofs.object.put_side.Goals as goal

pub returns-in_default : goal.returns-in_default
returns-in_default c = rw (c.in_default.is-0, c.in_default.is-1) (nothing _ _ (omega arith) (omega arith))

pub returns-in_default-2 : goal.returns-in_default-2
returns-in_default-2 c = rw (c.in_default.is-0, c.in_default.is-1) (nothing _ _ (omega arith) (omega arith))
