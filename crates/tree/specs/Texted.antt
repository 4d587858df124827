-- How many bytes of a text were written; or a refusal, with the bytes that ShortBuffer needs.
use Rattle.std.specs.Prelude.{ℕ, Result, Ok, Err}
use Rattle.page.specs.declared.refusal.Refusal.{Refusal}
use Rattle.page.specs.declared.refusal.Short.{Short}

abbrev pub Texted : Type 0
Texted = Result ℕ (Short ℕ)

pattern abbrev pub Written : (bytes : ℕ) → Texted
Written n = Ok n

abbrev pub Refused : Refusal → (need : ℕ) → Texted
Refused r n = Err (record { refusal = r; need = n })
