-- The size of a file and how many rows its table has; or a refusal, with the words that ShortBuffer needs.
use Rattle.std.specs.Prelude.{ℕ, Result, Ok, Err}
use Rattle.page.specs.declared.refusal.Refusal.{Refusal}
use Rattle.page.specs.declared.refusal.Short.{Short}
use Rattle.file.specs.declared.answer.Table.{Table}

abbrev pub Tabled : Type 0
Tabled = Result Table (Short ℕ)

abbrev pub Rows : (size : ℕ) → (rows : ℕ) → Tabled
Rows a b = Ok (record { size = a; rows = b })

abbrev pub Refused : Refusal → (need : ℕ) → Tabled
Refused r n = Err (record { refusal = r; need = n })
