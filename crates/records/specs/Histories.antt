-- What a file was after each of its records.
use Rattle.std.specs.Prelude.{ℕ, suc, Result, Ok, Err}
use Rattle.std.specs.Result.{result_unwrap_or}
use Rattle.page.specs.declared.refusal.Refusal.{Refusal}
use Rattle.page.specs.Refusals.{refusal_number}
use Rattle.page.specs.declared.record.Record.{Record}
use Rattle.chunk.specs.Lookups.{sized_of}
use Rattle.chunk.specs.Takes.{seen_by}
use Rattle.chunk.specs.Sized.{Sized}
use Rattle.chunk.specs.declared.takes.Takes.TheVariants.{Older}

-- the answer of a size lookup without its visits
abbrev pub answer_of : Sized → Result ℕ Refusal
answer_of (Ok x) = Ok x.answer
answer_of (Err e) = Err e.answer

-- what the file of object o was after the record of an age: what a size lookup answers where no newer record is read
unfoldable pub sized_after : (says : ℕ → Record) (P object pages age : ℕ) → Result ℕ Refusal
sized_after says P o n a = answer_of (sized_of (seen_by (Older (suc a)) says) o n P)

-- the number of the refusal, 0 where there is a size; and the size, 0 where there is none
abbrev pub refusal_in : Result ℕ Refusal → ℕ
refusal_in (Ok z) = 0
refusal_in (Err r) = refusal_number r

abbrev pub size_in : Result ℕ Refusal → ℕ
size_in a = result_unwrap_or a 0
