-- What a walk down to an object's newest header reached: the header, the largest end of data and the first copy of a chunk that were met, and the
-- records visited; or why no header.
use Rattle.std.specs.Prelude.{ℕ, Option, Result, Ok, Err}
use Rattle.page.specs.declared.refusal.Refusal.{Refusal}
use Rattle.page.specs.declared.number.PageNumber.{PageNumber}
use Rattle.chunk.specs.declared.answer.Visited.{Visited}
use Rattle.index.specs.declared.walks.Top.{Top}

abbrev pub Reached : Type 0
Reached = Result Top (Visited Refusal)

abbrev pub Header : PageNumber → (end : ℕ) → Option PageNumber → (visits : ℕ) → Reached
Header h end m v = Ok (record { page = h; end = end; met = m; visits = v })

abbrev pub Refused : Refusal → (visits : ℕ) → Reached
Refused r v = Err (record { answer = r; visits = v })
