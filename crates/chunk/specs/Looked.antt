-- What a chunk lookup answers: the page of a copy with its valid and its shown length, a hole with its shown length, or a refusal with what
-- ShortBuffer needs; each with the records visited.
use Rattle.std.specs.Prelude.{ℕ, Result, Ok, Err}
use Rattle.page.specs.declared.number.PageNumber.{PageNumber}
use Rattle.page.specs.declared.refusal.Refusal.{Refusal}
use Rattle.page.specs.declared.refusal.Short.{Short}
use Rattle.chunk.specs.declared.answer.Chunk.{Chunk}
use Rattle.chunk.specs.declared.answer.Chunk.TheVariants as chunk
use Rattle.chunk.specs.declared.answer.Visited.{Visited}

abbrev pub Looked : Type 0
Looked = Result Chunk (Visited (Short ℕ))

pattern abbrev pub Copy : PageNumber → (valid shown visits : ℕ) → Looked
Copy p a s v = Ok (chunk.Copy p a s v)

pattern abbrev pub Hole : (shown visits : ℕ) → Looked
Hole s v = Ok (chunk.Hole s v)

abbrev pub Refused : Refusal → (visits need : ℕ) → Looked
Refused r v n = Err (record { answer = record { refusal = r; need = n }; visits = v })

-- how many bytes of a chunk are shown, and the records visited for it
abbrev pub shown_in : Chunk → ℕ
shown_in (chunk.Copy p a s v) = s
shown_in (chunk.Hole s v) = s

abbrev pub visits_in : Chunk → ℕ
visits_in (chunk.Copy p a s v) = v
visits_in (chunk.Hole s v) = v
