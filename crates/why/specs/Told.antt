-- Why a byte is what it is and up to where that holds; or a refusal, with the words that ShortBuffer needs.
use Rattle.std.specs.Prelude.{ℕ, Result, Ok, Err}
use Rattle.page.specs.declared.refusal.Refusal.{Refusal}
use Rattle.page.specs.declared.refusal.Short.{Short}
use Rattle.why.specs.declared.reason.Reason.{Reason}
use Rattle.why.specs.declared.answer.Why.{Why}

abbrev pub Told : Type 0
Told = Result Why (Short ℕ)

abbrev pub Because : (reason : Reason) → (until : ℕ) → Told
Because a b = Ok (record { reason = a; until = b })

abbrev pub Refused : Refusal → (need : ℕ) → Told
Refused r n = Err (record { refusal = r; need = n })
