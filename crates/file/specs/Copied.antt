-- The size of a file, how many rows its copies are, and whether a damaged link keeps a chunk from being found; or a refusal, with the words that
-- ShortBuffer needs.
use Rattle.std.specs.Prelude.{ℕ, Bool, Result, Ok, Err}
use Rattle.page.specs.declared.refusal.Refusal.{Refusal}
use Rattle.page.specs.declared.refusal.Short.{Short}
use Rattle.file.specs.declared.answer.Copies.{Copies}

abbrev pub Copied : Type 0
Copied = Result Copies (Short ℕ)

abbrev pub Rows : (size : ℕ) → (count : ℕ) → (damaged : Bool) → Copied
Rows a b c = Ok (record { size = a; count = b; damaged = c })

abbrev pub Refused : Refusal → (need : ℕ) → Copied
Refused r n = Err (record { refusal = r; need = n })
