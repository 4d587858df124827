-- What a size lookup answers: a size, or a refusal, with the records visited.
use Rattle.std.specs.Prelude.{ℕ, Result, Ok, Err}
use Rattle.page.specs.declared.refusal.Refusal.{Refusal}
use Rattle.chunk.specs.declared.answer.Visited.{Visited}

abbrev pub Sized : Type 0
Sized = Result (Visited ℕ) (Visited Refusal)

abbrev pub Size : (size visits : ℕ) → Sized
Size z v = Ok (record { answer = z; visits = v })

abbrev pub Refused : Refusal → (visits : ℕ) → Sized
Refused r v = Err (record { answer = r; visits = v })
