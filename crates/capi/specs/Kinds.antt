-- The kind of a page, as the exports give it: 1 blank, 2 foreign, 3 damaged, 4 header, 5 data; 0 beside a refusal.
use Rattle.std.specs.Prelude.{ℕ, cond, Result, Ok, Err}
use Rattle.page.specs.declared.refusal.Refusal.{Refusal}
use Rattle.page.specs.Refusals.{refusal_number}
use Rattle.page.specs.declared.kind.Kind.{Kind}
use Rattle.page.specs.declared.kind.Kind.TheVariants.{Blank, Foreign, Damaged, Header, Data}
use Rattle.capi.specs.declared.kind.KindAnswer.{KindAnswer}

-- a refusal, or a kind that has no fields
abbrev pub bare_kind : (refusal kind : ℕ) → KindAnswer
bare_kind refusal kind = record {
  refusal = refusal;
  kind = kind;
  sequence = 0;
  object = 0;
  page_type = 0;
  parent = 0;
  size = 0;
  shrink = 0;
  chunk = 0;
  count = 0;
}

-- a kind with its fields; those that it lacks are 0
abbrev pub kind_fields : Kind → KindAnswer
kind_fields Blank = bare_kind 0 1
kind_fields Foreign = bare_kind 0 2
kind_fields Damaged = bare_kind 0 3
kind_fields (Header h) = record {
  refusal = 0;
  kind = 4;
  sequence = h.sequence;
  object = h.object.0;
  page_type = h.page_type;
  parent = h.parent.0;
  size = h.size;
  shrink = cond h.shrink 1 0;
  chunk = 0;
  count = 0;
}
kind_fields (Data d) = record {
  refusal = 0;
  kind = 5;
  sequence = d.sequence;
  object = d.object.0;
  page_type = 0;
  parent = 0;
  size = 0;
  shrink = 0;
  chunk = d.chunk.0;
  count = d.count;
}

abbrev pub kind_answer : Result Kind Refusal → KindAnswer
kind_answer (Err r) = bare_kind (refusal_number r) 0
kind_answer (Ok k) = kind_fields k
