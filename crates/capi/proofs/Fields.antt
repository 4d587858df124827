-- Which number stands in which field of an answer, computed from the definitions, with values that are all different. No law says it: a field is what
-- its definition makes it, and what C reads there is told by these lines.
use Prim.Native.Nat.{ℕ}
use Rattle.std.specs.Prelude.{Ok, Err}
use mathlib.Core.Bool.{true}
use mathlib.Core.List.{List, [], ◌∷◌, map}
use mathlib.Core.Path.{◌≡◌, refl}
use Rattle.page.specs.Layouts.{data_sizes, spare_sizes, tag_offsets, layout_at, by_number, has_sizes, number_of_sizes, roomy}
use Rattle.page.specs.Lengths.{page_in}
use Rattle.page.specs.Pages.{page_at}
use Rattle.page.specs.Refusals.{refusal_number}
use Rattle.page.specs.Search.{first_from}
use Rattle.page.specs.Shelf.{shelf_geometry, word_bytes, tagged, header_page, data_page, blank_page, shelf_pages, dump_of, shelf}
use Rattle.page.specs.declared.kind.Kind.TheVariants.{Blank, Foreign, Damaged, Header, Data}
use Rattle.page.specs.declared.refusal.Refusal.{Refusal}
use Rattle.page.specs.declared.refusal.Refusal.TheVariants.{
  BadLayout,
  BadLength,
  NoLayout,
  BadObject,
  BadChunk,
  NoObject,
  NoHeader,
  Deleted,
  NotAFile,
  PastEnd,
  ShortBuffer,
  ShortIndex,
  IndexDamaged,
  BadPage,
  AlreadyAdded,
  NotHeader,
}
use Rattle.chunk.specs.Listed as listed
use Rattle.chunk.specs.Looked as looked
use Rattle.chunk.specs.Sized as sized
use Rattle.chunk.specs.declared.moment.Moment.TheVariants.{Now, Before}
use Rattle.index.specs.Run as run
use Rattle.file.specs.Copied as copied
use Rattle.file.specs.Tabled as tabled
use Rattle.why.specs.Told as told
use Rattle.why.specs.declared.reason.Reason.TheVariants as reason
use Rattle.why.specs.Spanned as spanned
use Rattle.records.specs.declared.standing.Standing.TheVariants as standing
use Rattle.records.specs.Recorded as recorded
use Rattle.tree.specs.Texted as texted
use Rattle.tree.specs.Grown as grown
use Rattle.compare.specs.Compared as compared
use Rattle.compare.specs.Preparing as prepared
use Rattle.capi.specs.Comparing.{prepared_answer, next_answer}
use Rattle.capi.specs.Counts.{counts_answer}
use Rattle.capi.specs.Headers.{header_answer, part_answer}
use Rattle.capi.specs.Kinds.{kind_answer}
use Rattle.capi.specs.declared.kind.KindAnswer.{KindAnswer}
use Rattle.capi.specs.Layouts.{geometry_at, layout_answer, pages_answer}
use Rattle.capi.specs.Lookups.{
  size_answer,
  chunk_answer,
  place_of,
  row_place,
  list_answer,
  tally_answer,
  table_answer,
  copies_answer,
  copy_answer,
  added_answer,
  run_answer,
}
use Rattle.capi.specs.Moments.{moment_at}
use Rattle.capi.specs.Reasons.{why_answer, spans_answer, span_answer}
use Rattle.capi.specs.Recording.{records_answer, standing_answer, history_answer}
use Rattle.capi.specs.Trees.{tree_answer, texted_answer, row_answer}

-- the table of refusals
abbrev refusals : List Refusal
refusals =
    BadLayout ∷ BadLength ∷ NoLayout ∷ BadObject ∷ BadChunk ∷ NoObject ∷ NoHeader ∷ Deleted ∷ NotAFile ∷ PastEnd ∷ ShortBuffer ∷ ShortIndex ∷ IndexDamaged ∷
    BadPage ∷ AlreadyAdded ∷ NotHeader ∷ []

pub refusal_numbers : map refusal_number refusals ≡ 1 ∷ 2 ∷ 3 ∷ 4 ∷ 5 ∷ 6 ∷ 7 ∷ 8 ∷ 9 ∷ 10 ∷ 11 ∷ 12 ∷ 13 ∷ 14 ∷ 15 ∷ 16 ∷ []
refusal_numbers = refl

-- layouts and lengths: the geometry of layout 2, that layout by its number, and one that the table lacks
pub layout_fields :
    (geometry_at (record { layout = 2; block = 64 }) ≡ record { layout = record { «data» = 2048; spare = 64; tag = 30 }; block = 64 })
    × (layout_answer (by_number 2) ≡ record { refusal = 0; number = 2; «data» = 2048; spare = 64; tag = 30 })
    × (layout_answer (by_number 13) ≡ record { refusal = 1; number = 13; «data» = 0; spare = 0; tag = 0 })
    × (pages_answer (Ok 8) ≡ record { refusal = 0; pages = 8 })
    × (pages_answer (Err BadLength) ≡ record { refusal = 2; pages = 0 })
unfolding geometry_at layout_at data_sizes spare_sizes tag_offsets by_number number_of_sizes has_sizes first_from
layout_fields = (refl, refl, refl, refl, refl)

-- the moment before a page, page 0 too, and the dump as it stands
pub moment_numbers :
    (moment_at 0 ≡ Before (record { 0 = 0 })) × (moment_at 0xFFFFFFFE ≡ Before (record { 0 = 0xFFFFFFFE })) × (moment_at 0xFFFFFFFF ≡ Now)
moment_numbers = (refl, refl, refl)

-- the counts
pub count_fields :
    (counts_answer (Ok (record { blank = 1; foreign = 2; damaged = 3; headers = 4; «data» = 5 }))
    ≡ record { refusal = 0; blank = 1; foreign = 2; damaged = 3; headers = 4; «data» = 5 })
    × (counts_answer (Err BadLayout) ≡ record { refusal = 1; blank = 0; foreign = 0; damaged = 0; headers = 0; «data» = 0 })
count_fields = (refl, refl)

-- the kinds
abbrev bare : (refusal kind : ℕ) → KindAnswer
bare refusal kind = record {
  refusal = refusal;
  kind = kind;
  sequence = 0;
  object = 0;
  page_type = 0;
  parent = 0;
  size = 0;
  shrink = 0;
  chunk = 0;
  count = 0;
}

pub kind_fields_lem :
    (kind_answer (Err BadPage) ≡ bare 14 0) × (kind_answer (Ok Blank) ≡ bare 0 1) × (kind_answer (Ok Foreign) ≡ bare 0 2)
    × (kind_answer (Ok Damaged) ≡ bare 0 3)
    × (kind_answer (Ok (Header (record {
      sequence = 4097;
      object = record { 0 = 257 };
      page_type = 3;
      parent = record { 0 = 258 };
      size = 300;
      shrink = true;
    })))
    ≡ record {
      refusal = 0;
      kind = 4;
      sequence = 4097;
      object = 257;
      page_type = 3;
      parent = 258;
      size = 300;
      shrink = 1;
      chunk = 0;
      count = 0;
    })
    × (kind_answer (Ok (Data (record { sequence = 4097; object = record { 0 = 257 }; chunk = record { 0 = 3 }; count = 10 })))
    ≡ record {
      refusal = 0;
      kind = 5;
      sequence = 4097;
      object = 257;
      page_type = 0;
      parent = 0;
      size = 0;
      shrink = 0;
      chunk = 3;
      count = 10;
    })
kind_fields_lem = (refl, refl, refl, refl, refl, refl)

-- the fields of a header, and where one of them that is bytes stands
pub header_fields :
    (header_answer (Ok (record {
      page_type = 1;
      parent = 2;
      unused1 = 3;
      unused2 = 4;
      mode = 5;
      uid = 6;
      gid = 7;
      accessed = 8;
      modified = 9;
      created = 10;
      file_size = 11;
      equivalent_id = 12;
      rdev = 13;
      win_created = 14;
      win_accessed = 15;
      win_modified = 16;
      inband_shadow = 17;
      inband_shrink = 18;
      size_high = 19;
      shadowed_id = 20;
      shrink = 21;
    }))
    ≡ record {
      refusal = 0;
      page_type = 1;
      parent = 2;
      unused1 = 3;
      unused2 = 4;
      mode = 5;
      uid = 6;
      gid = 7;
      accessed = 8;
      modified = 9;
      created = 10;
      file_size = 11;
      equivalent_id = 12;
      rdev = 13;
      win_created = 14;
      win_accessed = 15;
      win_modified = 16;
      inband_shadow = 17;
      inband_shrink = 18;
      size_high = 19;
      shadowed_id = 20;
      shrink = 21;
    })
    × (part_answer (Err NotHeader) 10 256 ≡ record { refusal = 16; offset = 0; length = 0 })
header_fields = (refl, refl)

-- lookups
pub lookup_fields :
    (size_answer (sized.Refused Deleted 3) ≡ record { refusal = 8; visits = 3; size = 0 })
    × (size_answer (sized.Size 1034 3) ≡ record { refusal = 0; visits = 3; size = 1034 })
    × (chunk_answer (looked.Refused ShortBuffer 3 512) ≡ record { refusal = 11; visits = 3; need = 512; copy = 0; page = 0; valid = 0; shown = 0 })
    × (chunk_answer (looked.Hole 512 7) ≡ record { refusal = 0; visits = 7; need = 0; copy = 0; page = 0; valid = 0; shown = 512 })
    × (chunk_answer (looked.Copy (record { 0 = 5 }) 300 512 3) ≡ record { refusal = 0; visits = 3; need = 0; copy = 1; page = 5; valid = 300; shown = 512 })
lookup_fields = (refl, refl, refl, refl, refl)

-- parts of W: the 300 bytes on page 5, by the page and by a row; a row of a hole and of a damaged link; and a page of which more are asked for than it has
pub place_fields :
    (place_of shelf_geometry 4224 5 300 ≡ record { offset = 2640; length = 300 })
    × (row_place shelf_geometry 4224 7 300 ≡ record { offset = 2640; length = 300 })
    × (row_place shelf_geometry 4224 0 300 ≡ record { offset = 0; length = 0 })
    × (row_place shelf_geometry 4224 1 300 ≡ record { offset = 0; length = 0 })
    × (place_of shelf_geometry 4224 5 513 ≡ record { offset = 0; length = 0 })
    × (place_of shelf_geometry 4224 8 300 ≡ record { offset = 0; length = 0 })
unfolding page_in roomy
place_fields = (refl, refl, refl, refl, refl, refl)

-- lists, counts of objects, tables, copies, starts and additions
pub list_fields :
    (list_answer (listed.Refused ShortBuffer 7) ≡ record { refusal = 11; need = 7; count = 0 })
    × (list_answer (listed.Ids 7) ≡ record { refusal = 0; need = 0; count = 7 })
    × (tally_answer (Err IndexDamaged) ≡ record { refusal = 13; count = 0 })
    × (tally_answer (Ok 7) ≡ record { refusal = 0; count = 7 })
    × (table_answer (tabled.Refused ShortBuffer 6) ≡ record { refusal = 11; need = 6; size = 0; rows = 0 })
    × (table_answer (tabled.Rows 1034 3) ≡ record { refusal = 0; need = 0; size = 1034; rows = 3 })
    × (copies_answer (copied.Refused ShortBuffer 4) ≡ record { refusal = 11; count = 0; size = 0; need = 4; damaged = 0 })
    × (copies_answer (copied.Rows 1034 2 true) ≡ record { refusal = 0; count = 2; size = 1034; need = 0; damaged = 1 })
    × (copy_answer (record { chunk = 3; page = 6; valid = 10 }) ≡ record { chunk = 3; page = 6; valid = 10 })
    × (added_answer (Err AlreadyAdded) ≡ 15)
    × (added_answer (Ok tt) ≡ 0)
    × (run_answer (run.Stopped (record { 0 = 4 }) ShortIndex) ≡ record { refusal = 12; page = 4 })
    × (run_answer run.Done ≡ record { refusal = 0; page = 0 })
list_fields = (refl, refl, refl, refl, refl, refl, refl, refl, refl, refl, refl, refl, refl)

-- reasons
pub reason_fields :
    (why_answer shelf_geometry [] (told.Refused ShortBuffer 13)
    ≡ record { refusal = 11; need = 13; reason = 0; page = 0; byte = 0; value = 0; until = 0 })
    × (why_answer shelf_geometry [] (told.Because (reason.Cut (record { 0 = 4 })) 1024)
    ≡ record { refusal = 0; need = 0; reason = 3; page = 4; byte = 0; value = 0; until = 1024 })
    × (spans_answer (spanned.Refused ShortBuffer 13) ≡ record { refusal = 11; need = 13; size = 0; count = 0 })
    × (spans_answer (spanned.Rows 1034 4) ≡ record { refusal = 0; need = 0; size = 1034; count = 4 })
    × (span_answer (record { from = 1024; reason = reason.Held (record { 0 = 6 }) 9 }) ≡ record { from = 1024; reason = 1; page = 6; byte = 9 })
reason_fields = (refl, refl, refl, refl, refl)

-- byte 299 of W's file, which page 5 holds
pub held_fields :
    why_answer shelf_geometry shelf (told.Because (reason.Held (record { 0 = 5 }) 299) 300)
    ≡ record { refusal = 0; need = 0; reason = 1; page = 5; byte = 299; value = 255; until = 300 }
unfolding page_in roomy page_at shelf shelf_pages dump_of header_page data_page blank_page tagged word_bytes
held_fields = refl

-- records: of W the one on page 6, which holds the bytes from 1024 up to 1034, and the one on page 1, which page 5 supersedes
pub record_fields :
    (records_answer (recorded.Refused ShortBuffer 7) ≡ record { refusal = 11; need = 7; count = 0 })
    × (records_answer (recorded.Records 7) ≡ record { refusal = 0; need = 0; count = 7 })
    × (standing_answer 512 6 (standing.Holds (record { 0 = 3 }) 10) ≡ record { from = 1024; until = 1034; page = 6; stands = 5; by = 0 })
    × (standing_answer 512 1 (standing.Superseded (record { 0 = 5 })) ≡ record { from = 0; until = 0; page = 1; stands = 3; by = 5 })
    × (history_answer 0x400000008 300 ≡ record { size = 300; page = 4; refusal = 8 })
record_fields = (refl, refl, refl, refl, refl)

-- the tree
pub tree_fields :
    (tree_answer (grown.Refused ShortBuffer 3) ≡ record { refusal = 11; need = 3; listed = 0; others = 0 })
    × (tree_answer (grown.Rows 2 1) ≡ record { refusal = 0; need = 0; listed = 2; others = 1 })
    × (texted_answer (texted.Refused ShortBuffer 27) ≡ record { refusal = 11; need = 27; length = 0 })
    × (texted_answer (texted.Written 27) ≡ record { refusal = 0; need = 0; length = 27 })
    × (row_answer 0x200000005 ≡ record { key = 2; page = 5 })
tree_fields = (refl, refl, refl, refl, refl)

-- the comparison
pub compare_fields :
    (prepared_answer (prepared.Refused ShortBuffer 7) ≡ record { refusal = 11; need = 7; records = 0 })
    × (prepared_answer (prepared.Records 7) ≡ record { refusal = 0; need = 0; records = 7 })
    × (next_answer (record { object = 257; first = 7; second = 6 }) ≡ record { object = 257; first = 7; second = 6 })
    × (texted_answer (compared.Refused ShortBuffer 90) ≡ record { refusal = 11; need = 90; length = 0 })
    × (texted_answer (compared.Written 90) ≡ record { refusal = 0; need = 0; length = 90 })
compare_fields = (refl, refl, refl, refl, refl)
