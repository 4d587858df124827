-- Numbers and a line, computed.
use mathlib.Core.Path.{◌≡◌, refl}
use Rattle.text.specs.Quoted.{bytes_of}
use Rattle.text.specs.Decimal.{digits, decimal}
use Rattle.text.specs.Lines.{field_of, line_of}

zero_is_a_digit : decimal 0 ≡ bytes_of "0"
unfolding decimal digits
zero_is_a_digit = refl

largest : decimal 18446744073709551615 ≡ bytes_of "18446744073709551615"
unfolding decimal digits
largest = refl

size_line : line_of (bytes_of "size=") 1034 ≡ bytes_of "size=1034\n"
unfolding line_of field_of decimal digits
size_line = refl
