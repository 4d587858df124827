-- The newest header of a live file, or why the object is none, with the records visited.
use Rattle.std.specs.Prelude.{ℕ, Result, Ok, Err}
use Rattle.page.specs.declared.number.PageNumber.{PageNumber}
use Rattle.page.specs.declared.refusal.Refusal.{Refusal}
use Rattle.chunk.specs.declared.answer.Visited.{Visited}

abbrev pub File : Type 0
File = Result (Visited PageNumber) (Visited Refusal)

abbrev pub Header : PageNumber → (visits : ℕ) → File
Header h v = Ok (record { answer = h; visits = v })

abbrev pub Refused : Refusal → (visits : ℕ) → File
Refused r v = Err (record { answer = r; visits = v })
