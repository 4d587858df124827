-- How many bytes of a report were written; or a refusal, with the bytes that ShortBuffer needs.
use Rattle.std.specs.Prelude.{ℕ, Result, Ok, Err}
use Rattle.page.specs.declared.refusal.Refusal.{Refusal}
use Rattle.page.specs.declared.refusal.Short.{Short}

abbrev pub Compared : Type 0
Compared = Result ℕ (Short ℕ)

pattern abbrev pub Written : (bytes : ℕ) → Compared
Written n = Ok n

abbrev pub Refused : Refusal → (need : ℕ) → Compared
Refused r n = Err (record { refusal = r; need = n })
