-- The fields of a header, as the exports give them.
use Rattle.std.specs.Prelude.{ℕ, ◌+◌, ◌*◌, List, Result, Ok, Err}
use Rattle.page.specs.declared.refusal.Refusal.{Refusal}
use Rattle.page.specs.Refusals.{refusal_number}
use Rattle.page.specs.Layouts.{page_len}
use Rattle.page.specs.Headers.{text_place, text_length}
use Rattle.page.specs.Asked.{headed_of}
use Rattle.page.specs.declared.geometry.Geometry.{Geometry}
use Rattle.page.specs.declared.fields.Fields.{Fields}
use Rattle.page.specs.declared.fields.Text.{Text}
use Rattle.capi.specs.declared.header.HeaderAnswer.{HeaderAnswer}
use Rattle.capi.specs.declared.texts.PartAnswer.{PartAnswer}

abbrev pub refused_header : ℕ → HeaderAnswer
refused_header refusal = record {
  refusal = refusal;
  page_type = 0;
  parent = 0;
  unused1 = 0;
  unused2 = 0;
  mode = 0;
  uid = 0;
  gid = 0;
  accessed = 0;
  modified = 0;
  created = 0;
  file_size = 0;
  equivalent_id = 0;
  rdev = 0;
  win_created = 0;
  win_accessed = 0;
  win_modified = 0;
  inband_shadow = 0;
  inband_shrink = 0;
  size_high = 0;
  shadowed_id = 0;
  shrink = 0;
}

abbrev pub fields_answer : Fields → HeaderAnswer
fields_answer f = record {
  refusal = 0;
  page_type = f.page_type;
  parent = f.parent;
  unused1 = f.unused1;
  unused2 = f.unused2;
  mode = f.mode;
  uid = f.uid;
  gid = f.gid;
  accessed = f.accessed;
  modified = f.modified;
  created = f.created;
  file_size = f.file_size;
  equivalent_id = f.equivalent_id;
  rdev = f.rdev;
  win_created = f.win_created;
  win_accessed = f.win_accessed;
  win_modified = f.win_modified;
  inband_shadow = f.inband_shadow;
  inband_shrink = f.inband_shrink;
  size_high = f.size_high;
  shadowed_id = f.shadowed_id;
  shrink = f.shrink;
}

abbrev pub header_answer : Result Fields Refusal → HeaderAnswer
header_answer (Err r) = refused_header (refusal_number r)
header_answer (Ok f) = fields_answer f

-- a part of the dump at a place; an empty one where the page is refused
abbrev pub part_answer : Result Fields Refusal → (offset length : ℕ) → PartAnswer
part_answer (Err r) offset length = record { refusal = refusal_number r; offset = 0; length = 0 }
part_answer (Ok f) offset length = record { refusal = 0; offset = offset; length = length }

-- where the field f of page i that is bytes stands in the dump
unfoldable pub text_answer : Text → Geometry → (dump : List ℕ) (page : ℕ) → PartAnswer
text_answer f g dump i = part_answer (headed_of g dump i) (i * page_len g.layout + text_place f) (text_length f)
