-- Where there is a tenth part it is put first; then the last digit.
use Rattle.text.proofs.Putting.{also}
use Rattle.text.proofs.Digits.{one_digit, more_digits}
use Rattle.text.proofs.put.+put_decimal.Goals as goal

pub returns-then-n-lt10 : goal.returns-then-n-lt10
returns-then-n-lt10 t c = rw (one_digit _ c.if-n-lt10.true, ← c.last_digit.ensures) c.put_byte.ensures

pub returns : goal.returns
returns t c = rw (more_digits _ c.if-n-lt10.false, ← c.last_digit-2.ensures) (also c.put_decimal-next.ensures c.put_byte-2.ensures)
