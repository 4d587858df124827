-- How many rows were laid along a list of pages; or a refusal, with the words that ShortBuffer needs.
use Rattle.std.specs.Prelude.{ℕ, Result, Ok, Err}
use Rattle.page.specs.declared.refusal.Refusal.{Refusal}
use Rattle.page.specs.declared.refusal.Short.{Short}

abbrev pub Along : Type 0
Along = Result ℕ (Short ℕ)

pattern abbrev pub Rows : (rows : ℕ) → Along
Rows n = Ok n

abbrev pub Refused : Refusal → (need : ℕ) → Along
Refused r n = Err (record { refusal = r; need = n })
