-- Where a header is missing no field is compared.
use native.Mathlib.Omega.{arith}
use Rattle.sort.specs.Lists.{joined}
use Rattle.text.proofs.Putting.{nothing}
use Rattle.compare.specs.Differences.{fields_of}
use Rattle.compare.proofs.object.put_header_fields.Goals as goal

pub returns-in_default : goal.returns-in_default
unfolding fields_of joined
returns-in_default c = rw (c.in_default.is-0, c.in_default.is-1) (nothing _ _ (omega arith) (omega arith))

pub returns-in_default-2 : goal.returns-in_default-2
unfolding fields_of joined
returns-in_default-2 c = rw c.in_default.is-0 (nothing _ _ (omega arith) (omega arith))
