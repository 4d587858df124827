-- The records of an object, as the exports give them.
use Rattle.std.specs.Prelude.{ℕ, Err}
use Rattle.page.specs.Refusals.{refusal_number}
use Rattle.sort.specs.Packed.{key_of, value_of}
use Rattle.records.specs.Rows.{kind_of, by_of, from_of, until_of}
use Rattle.records.specs.declared.standing.Standing.{Standing}
use Rattle.records.specs.Recorded.{Recorded}
use Rattle.records.specs.Recorded as recorded
use Rattle.capi.specs.declared.recording.RecordsAnswer.{RecordsAnswer}
use Rattle.capi.specs.declared.recording.StandingAnswer.{StandingAnswer}
use Rattle.capi.specs.declared.recording.HistoryAnswer.{HistoryAnswer}

abbrev pub records_answer : Recorded → RecordsAnswer
records_answer (Err e) = record { refusal = refusal_number e.refusal; need = e.need; count = 0 }
records_answer (recorded.Records k) = record { refusal = 0; need = 0; count = k }

-- the record on a page, with P data bytes to a page
abbrev pub standing_answer : (P page : ℕ) → Standing → StandingAnswer
standing_answer P p s = record { from = from_of P s; until = until_of P s; page = p; stands = kind_of s; by = by_of s }

-- a row of a history, and the size beside it
abbrev pub history_answer : (row size : ℕ) → HistoryAnswer
history_answer row size = record { size = size; page = key_of row; refusal = value_of row }
