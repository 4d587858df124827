-- What became of a text that was to be written whole: so many bytes were written, or they are too few and so many are needed.
use Rattle.std.specs.Prelude.{ℕ, Result, Ok, Err}
use Rattle.text.specs.declared.written.Short as short

abbrev pub Written : Type 0
Written = Result ℕ short.Short

pattern abbrev pub Bytes : ℕ → Written
Bytes n = Ok n

abbrev pub Short : (needed : ℕ) → Written
Short n = Err (record { needed = n })
