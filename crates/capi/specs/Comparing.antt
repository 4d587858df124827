-- Two dumps compared, as the exports give it.
use Rattle.std.specs.Prelude.{Err}
use Rattle.page.specs.Refusals.{refusal_number}
use Rattle.compare.specs.Preparing.{Prepared}
use Rattle.compare.specs.Preparing as prepared
use Rattle.compare.specs.declared.whole.Turn.{Turn}
use Rattle.capi.specs.declared.comparing.NextAnswer.{NextAnswer}
use Rattle.capi.specs.declared.comparing.PreparedAnswer.{PreparedAnswer}

abbrev pub prepared_answer : Prepared → PreparedAnswer
prepared_answer (Err e) = record { refusal = refusal_number e.refusal; need = e.need; records = 0 }
prepared_answer (prepared.Records n) = record { refusal = 0; need = 0; records = n }

abbrev pub next_answer : Turn → NextAnswer
next_answer t = record { object = t.object; first = t.first; second = t.second }
