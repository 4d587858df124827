-- The size of a file and how many rows its spans are; or a refusal, with the words that ShortBuffer needs.
use Rattle.std.specs.Prelude.{ℕ, Result, Ok, Err}
use Rattle.page.specs.declared.refusal.Refusal.{Refusal}
use Rattle.page.specs.declared.refusal.Short.{Short}
use Rattle.why.specs.declared.answer.Spans.{Spans}

abbrev pub Spanned : Type 0
Spanned = Result Spans (Short ℕ)

abbrev pub Rows : (size : ℕ) → (rows : ℕ) → Spanned
Rows a b = Ok (record { size = a; rows = b })

abbrev pub Refused : Refusal → (need : ℕ) → Spanned
Refused r n = Err (record { refusal = r; need = n })
