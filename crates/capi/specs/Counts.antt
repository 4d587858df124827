-- The five counts, as the exports give them.
use Rattle.page.specs.Refusals.{refusal_number}
use Rattle.std.specs.Prelude.{Result, Ok, Err}
use Rattle.page.specs.declared.count.Counts.{Counts}
use Rattle.page.specs.declared.refusal.Refusal.{Refusal}
use Rattle.capi.specs.declared.count.CountsAnswer.{CountsAnswer}

abbrev pub counts_answer : Result Counts Refusal → CountsAnswer
counts_answer (Err r) = record {
  refusal = refusal_number r;
  blank = 0;
  foreign = 0;
  damaged = 0;
  headers = 0;
  «data» = 0;
}
counts_answer (Ok c) = record {
  refusal = 0;
  blank = c.blank;
  foreign = c.foreign;
  damaged = c.damaged;
  headers = c.headers;
  «data» = c.«data»;
}
