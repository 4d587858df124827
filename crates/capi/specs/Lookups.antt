-- What the lookups of an object, listings, tables, copies, counts of objects, starts and additions answer, as the exports give it.
use Rattle.std.specs.Prelude.{ℕ, ◌-◌, ◌*◌, ◌&&◌, cond, leb, ltb, Result, Ok, Err}
use Rattle.page.specs.declared.refusal.Refusal.{Refusal}
use Rattle.page.specs.Choice.{pick}
use Rattle.page.specs.Refusals.{refusal_number}
use Rattle.page.specs.Layouts.{page_len}
use Rattle.page.specs.Lengths.{page_in}
use Rattle.page.specs.declared.geometry.Geometry.{Geometry}
use Rattle.chunk.specs.Sized.{Sized}
use Rattle.chunk.specs.Looked.{Looked}
use Rattle.chunk.specs.Looked as looked
use Rattle.chunk.specs.Listed.{Listed}
use Rattle.chunk.specs.Listed as listed
use Rattle.index.specs.Run.{Run}
use Rattle.index.specs.Run as run
use Rattle.file.specs.Copied.{Copied}
use Rattle.file.specs.declared.copy.Copy.{Copy}
use Rattle.file.specs.Tabled.{Tabled}
use Rattle.capi.specs.declared.answer.SizeAnswer.{SizeAnswer}
use Rattle.capi.specs.declared.answer.ChunkAnswer.{ChunkAnswer}
use Rattle.capi.specs.declared.answer.PlaceAnswer.{PlaceAnswer}
use Rattle.capi.specs.declared.answer.ListAnswer.{ListAnswer}
use Rattle.capi.specs.declared.answer.TableAnswer.{TableAnswer}
use Rattle.capi.specs.declared.answer.CopiesAnswer.{CopiesAnswer}
use Rattle.capi.specs.declared.answer.CopyAnswer.{CopyAnswer}
use Rattle.capi.specs.declared.answer.RunAnswer.{RunAnswer}
use Rattle.capi.specs.declared.answer.TallyAnswer.{TallyAnswer}

abbrev pub size_answer : Sized → SizeAnswer
size_answer (Err e) = record { refusal = refusal_number e.answer; visits = e.visits; size = 0 }
size_answer (Ok x) = record { refusal = 0; visits = x.visits; size = x.answer }

-- a copy is marked by 1, a hole by 0
abbrev pub chunk_answer : Looked → ChunkAnswer
chunk_answer (Err e) = record {
  refusal = refusal_number e.answer.refusal;
  visits = e.visits;
  need = e.answer.need;
  copy = 0;
  page = 0;
  valid = 0;
  shown = 0;
}
chunk_answer (looked.Hole s v) = record {
  refusal = 0;
  visits = v;
  need = 0;
  copy = 0;
  page = 0;
  valid = 0;
  shown = s;
}
chunk_answer (looked.Copy p a s v) = record {
  refusal = 0;
  visits = v;
  need = 0;
  copy = 1;
  page = p.0;
  valid = a;
  shown = s;
}

-- a part that is empty
abbrev pub no_place : PlaceAnswer
no_place = record { offset = 0; length = 0 }

-- where the first bytes of page p stand in a dump of n bytes; nowhere where the page is not in the dump or has not so many
abbrev pub place_of : Geometry → (length page valid : ℕ) → PlaceAnswer
place_of g n p valid = pick (page_in g n p && leb valid g.layout.«data») (record { offset = p * page_len g.layout; length = valid }) no_place

-- where the valid bytes of a chunk stand; nowhere for a hole or a refusal
unfoldable pub place_answer : Geometry → ℕ → Looked → PlaceAnswer
place_answer g n (Err e) = no_place
place_answer g n (looked.Hole s v) = no_place
place_answer g n (looked.Copy p a s v) = place_of g n p.0 a

-- where the part that a row of a table names stands
abbrev pub row_place : Geometry → (length place valid : ℕ) → PlaceAnswer
row_place g n place valid = pick (ltb place 2) no_place (place_of g n (place - 2) valid)

abbrev pub list_answer : Listed → ListAnswer
list_answer (Err e) = record { refusal = refusal_number e.refusal; need = e.need; count = 0 }
list_answer (listed.Ids m) = record { refusal = 0; need = 0; count = m }

abbrev pub tally_answer : Result ℕ Refusal → TallyAnswer
tally_answer (Err r) = record { refusal = refusal_number r; count = 0 }
tally_answer (Ok m) = record { refusal = 0; count = m }

abbrev pub table_answer : Tabled → TableAnswer
table_answer (Err e) = record { refusal = refusal_number e.refusal; need = e.need; size = 0; rows = 0 }
table_answer (Ok x) = record { refusal = 0; need = 0; size = x.size; rows = x.rows }

-- a damaged link is marked by 1
abbrev pub copies_answer : Copied → CopiesAnswer
copies_answer (Err e) = record { refusal = refusal_number e.refusal; count = 0; size = 0; need = e.need; damaged = 0 }
copies_answer (Ok x) = record { refusal = 0; count = x.count; size = x.size; need = 0; damaged = cond x.damaged 1 0 }

abbrev pub copy_answer : Copy → CopyAnswer
copy_answer x = record { chunk = x.chunk; page = x.page; valid = x.valid }

-- the number of a refused start or addition; 0 where it was done
abbrev pub added_answer : Result Unit Refusal → ℕ
added_answer (Err r) = refusal_number r
added_answer (Ok tt) = 0

-- how a run of additions ended
abbrev pub run_answer : Run → RunAnswer
run_answer (Err e) = record { refusal = refusal_number e.refusal; page = e.page.0 }
run_answer run.Done = record { refusal = 0; page = 0 }
