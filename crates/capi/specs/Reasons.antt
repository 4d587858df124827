-- Why the bytes of a file are what they are, as the exports give it.
use Rattle.std.specs.Prelude.{ℕ, List, Ok, Err}
use Rattle.page.specs.Refusals.{refusal_number}
use Rattle.page.specs.declared.geometry.Geometry.{Geometry}
use Rattle.why.specs.Answers.{shown_by}
use Rattle.why.specs.Codes.{kind_of, page_in, byte_in}
use Rattle.why.specs.declared.byte.Span.{Span}
use Rattle.why.specs.Told.{Told}
use Rattle.why.specs.Spanned.{Spanned}
use Rattle.capi.specs.declared.reasons.WhyAnswer.{WhyAnswer}
use Rattle.capi.specs.declared.reasons.SpansAnswer.{SpansAnswer}
use Rattle.capi.specs.declared.reasons.SpanAnswer.{SpanAnswer}

abbrev pub why_answer : Geometry → (dump : List ℕ) → Told → WhyAnswer
why_answer g dump (Err e) = record { refusal = refusal_number e.refusal; need = e.need; reason = 0; page = 0; byte = 0; value = 0; until = 0 }
why_answer g dump (Ok x) = record {
  refusal = 0;
  need = 0;
  reason = kind_of x.reason;
  page = page_in x.reason;
  byte = byte_in x.reason;
  value = shown_by g dump x.reason;
  until = x.until;
}

abbrev pub spans_answer : Spanned → SpansAnswer
spans_answer (Err e) = record { refusal = refusal_number e.refusal; need = e.need; size = 0; count = 0 }
spans_answer (Ok x) = record { refusal = 0; need = 0; size = x.size; count = x.rows }

abbrev pub span_answer : Span → SpanAnswer
span_answer s = record { from = s.from; reason = kind_of s.reason; page = page_in s.reason; byte = byte_in s.reason }
