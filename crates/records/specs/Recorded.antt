-- How many records an object has; or a refusal, with the words that ShortBuffer needs.
use Rattle.std.specs.Prelude.{ℕ, Result, Ok, Err}
use Rattle.page.specs.declared.refusal.Refusal.{Refusal}
use Rattle.page.specs.declared.refusal.Short.{Short}

abbrev pub Recorded : Type 0
Recorded = Result ℕ (Short ℕ)

pattern abbrev pub Records : (count : ℕ) → Recorded
Records n = Ok n

abbrev pub Refused : Refusal → (need : ℕ) → Recorded
Refused r n = Err (record { refusal = r; need = n })
