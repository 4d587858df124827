-- How many records a prepared dump has; or a refusal, with the words that ShortBuffer needs.
use Rattle.std.specs.Prelude.{ℕ, Result, Ok, Err}
use Rattle.page.specs.declared.refusal.Refusal.{Refusal}
use Rattle.page.specs.declared.refusal.Short.{Short}

abbrev pub Prepared : Type 0
Prepared = Result ℕ (Short ℕ)

pattern abbrev pub Records : (count : ℕ) → Prepared
Records n = Ok n

abbrev pub Refused : Refusal → (need : ℕ) → Prepared
Refused r n = Err (record { refusal = r; need = n })
