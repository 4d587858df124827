-- What a listing answers: how many ids it wrote, or a refusal with what ShortBuffer needs.
use Rattle.std.specs.Prelude.{ℕ, Result, Ok, Err}
use Rattle.page.specs.declared.refusal.Refusal.{Refusal}
use Rattle.page.specs.declared.refusal.Short.{Short}

abbrev pub Listed : Type 0
Listed = Result ℕ (Short ℕ)

pattern abbrev pub Ids : ℕ → Listed
Ids n = Ok n

abbrev pub Refused : Refusal → (need : ℕ) → Listed
Refused r n = Err (record { refusal = r; need = n })
