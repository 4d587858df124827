-- The shelf dump W compared, computed from the definitions, letter by letter: with a changed W, which has another size and another mode in its newest
-- header, another byte in a copy, and a record of an object more; a W whose object is deleted with one whose object has no header; and W with itself.
-- What the pages say is computed first, and the lookups from that, so that bytes are looked at only where they are compared.
use Prim.Native.Nat.{ℕ}
use Rattle.std.specs.Prelude.{Err, Option, Some, None}
use mathlib.Core.Bool.{Bool, true, false, not}
use mathlib.Core.List.{List, [], ◌∷◌, ◌++◌}
use mathlib.Core.Path.{◌≡◌, refl, ap, fun_ext}
use native.Mathlib.Omega.{arith}
use lib.Dec.{eqb}
use lib.ListN.{length, get_or, set, replicate}
use Rattle.page.specs.Search.{count}
use Rattle.page.specs.Numbers.{bad_object, bad_chunk}
use Rattle.page.specs.Words.{le32}
use Rattle.page.specs.Layouts.{roomy, header_bytes}
use Rattle.page.specs.Lengths.{page_in}
use Rattle.page.specs.Pages.{page_at}
use Rattle.page.specs.Tags.{tags_of, tag_bytes, object_in, header_claim, data_claim, claim_of, claim_on}
use Rattle.page.specs.Kinds.{bad_type, type_differs, header_of, kind_by, kind_of, kind_at}
use Rattle.page.specs.Records.{record_of, record_at}
use Rattle.page.specs.Shelf.{shelf_geometry, word_bytes, tagged, erased, header_page, data_page, blank_page, shelf_pages, dump_of, shelf, kinds_from, shelf_header, shelf_kinds}
use Rattle.page.specs.declared.kind.Kind.{Kind}
use Rattle.page.specs.declared.kind.Kind.TheVariants.{Blank, Header, Data}
use Rattle.page.specs.declared.record.Record.{Record}
use Rattle.page.specs.declared.refusal.Refusal.TheVariants.{BadLayout, BadLength, Deleted, NoHeader}
use Rattle.page.proofs.Marked as pages
use Rattle.sort.specs.Arranged.{ascend, arranged, times_in}
use Rattle.sort.specs.Lists.{keep, joined}
use Rattle.chunk.specs.Answers.{valid_part, part_by}
use Rattle.chunk.specs.Cuts.{cut_of, lowest_cut}
use Rattle.chunk.specs.Gather.{gather}
use Rattle.chunk.specs.Live.{passed, ids_of, object_ids}
use Rattle.chunk.specs.Lookups.{file_at, file_by, file_of, sized_by, sized_of, copy_at, copy_by, chunk_by, looked_by, looked_of}
use Rattle.chunk.specs.Newest.{newest_where, newest_header, since, records}
use Rattle.chunk.specs.Sizes.{data_end, size_of}
use Rattle.chunk.specs.Looked.{Looked}
use Rattle.chunk.specs.Looked as looked
use Rattle.chunk.specs.Sized.{Sized}
use Rattle.chunk.specs.Sized as sized
use Rattle.text.specs.Decimal.{digits, decimal}
use Rattle.text.specs.Lines.{field_of, line_of}
use Rattle.text.specs.Quoted.{bytes_of}
use Rattle.compare.specs.Answers.{both_of}
use Rattle.compare.specs.Differences.{second, only, field, sizes, stretch, differ_in, fields_of, stretches_of, differences_of}
use Rattle.compare.specs.Fields.{field_places, field_lengths, place_of, length_of}
use Rattle.compare.specs.Views.{byte_of, bytes_on, is_deleted, size_in, shown_at, view_of}
use Rattle.compare.specs.Report.{lines_of, object_lines, others, in_either, ids_in, object_report, whole_report}
use Rattle.compare.proofs.Meaning.{means_differ}
use Rattle.compare.proofs.Reporting.{whole_itself}

-- ---- the dumps, and what their pages are

-- W with another newest header, on page 4
abbrev headed : (header : List ℕ) → List (List ℕ)
headed header = set shelf_pages 4 header

-- its size is 514, and its mode begins with another byte; page 5 begins with another byte; and page 6 is a record of object 258
unfoldable pub changed : List ℕ
changed =
    dump_of
    (set
    (set
    (headed (set (header_page 4098 514 1) 268 0))
    5 (set (data_page 4098 1 300) 0 0))
    6 (erased 512 ++ tagged 4098 258 1 10))

-- its kinds
unfoldable pub changed_kinds : List Kind
changed_kinds =
    set
    (set shelf_kinds 4 (shelf_header 4098 514 true))
    6 (Data (record { sequence = 4098; object = record { 0 = 258 }; chunk = record { 0 = 1 }; count = 10 }))

-- its parent is 3
unfoldable pub unlinked : List ℕ
unlinked = dump_of (headed (set (header_page 4098 300 1) 4 3))

-- its kinds
unfoldable pub unlinked_kinds : List Kind
unlinked_kinds =
    set shelf_kinds 4
    (Header (record {
      sequence = 4098;
      object = record { 0 = 257 };
      page_type = 1;
      parent = record { 0 = 3 };
      size = 300;
      shrink = true;
    }))

-- it is blank, and so are the other headers
unfoldable pub headless : List ℕ
headless = dump_of (set (set (headed blank_page) 3 blank_page) 0 blank_page)

-- its kinds
unfoldable pub headless_kinds : List Kind
headless_kinds = set (set (set shelf_kinds 4 Blank) 3 Blank) 0 Blank

-- these are their kinds
kinds :
    (kinds_from shelf_geometry changed 0 8 ≡ changed_kinds)
    × (kinds_from shelf_geometry unlinked 0 8 ≡ unlinked_kinds)
    × (kinds_from shelf_geometry headless 0 8 ≡ headless_kinds)
unfolding changed changed_kinds unlinked unlinked_kinds headless headless_kinds shelf_pages dump_of header_page data_page blank_page tagged word_bytes kinds_from
    shelf_kinds kind_at page_in roomy page_at kind_of kind_by header_of bad_type type_differs claim_on claim_of header_claim data_claim object_in bad_object tags_of
    tag_bytes le32
kinds = (refl, refl, refl)

-- and they are as long as W
lengths : (length changed ≡ 4224) × (length unlinked ≡ 4224) × (length headless ≡ 4224)
unfolding changed unlinked headless shelf_pages dump_of header_page data_page blank_page tagged word_bytes
lengths = (refl, refl, refl)

-- what pages say whose kinds are known
known : (dump : List ℕ) (kinds : List Kind) → kinds_from shelf_geometry dump 0 8 ≡ kinds → length dump ≡ 4224 → record_at shelf_geometry dump ≡ (λ i. record_of (get_or kinds i Blank))
unfolding record_at
known dump kinds e l =
    fun_ext (λ i. ap record_of (pages.kinds_known shelf_geometry dump 8 kinds (rw l (pages.marked).shelf_opened) e i))

-- ---- what is seen of an object by what pages say

-- the ids; how many records 257 and 258 have; the newest header of 257, whether it is deleted, and its size; and the lookups of its first two chunks
record Seen : Type 0 where
  ids : List ℕ
  first : ℕ
  second : ℕ
  header : Option ℕ
  gone : Bool
  size : Sized
  one : Looked
  two : Looked

-- what is seen of a dump
seen : (says : ℕ → Record) → Seen
seen says = record {
  ids = object_ids says 8;
  first = records says 257 8;
  second = records says 258 8;
  header = newest_header says 257 8;
  gone = is_deleted says (newest_header says 257 8);
  size = sized_of says 257 8 512;
  one = looked_of says 257 8 512 1;
  two = looked_of says 257 8 512 2;
}

shelf_seen :
    seen (record_at shelf_geometry shelf)
    ≡ record {
      ids = 257 ∷ [];
      first = 7;
      second = 0;
      header = Some 4;
      gone = false;
      size = sized.Size 1034 3;
      one = looked.Copy (record { 0 = 5 }) 300 512 3;
      two = looked.Hole 512 7;
    }
unfolding seen shelf_kinds ids_of passed arranged ascend sized_of sized_by looked_of looked_by chunk_by copy_by copy_at file_of file_by file_at size_of data_end lowest_cut
    cut_of since newest_where gather bad_object bad_chunk
shelf_seen = ap seen pages.shelf_says

changed_seen :
    seen (record_at shelf_geometry changed)
    ≡ record {
      ids = 257 ∷ 258 ∷ [];
      first = 6;
      second = 1;
      header = Some 4;
      gone = false;
      size = sized.Size 514 2;
      one = looked.Copy (record { 0 = 5 }) 300 512 2;
      two = looked.Copy (record { 0 = 2 }) 2 2 4;
    }
unfolding seen changed_kinds shelf_kinds ids_of passed arranged ascend sized_of sized_by looked_of looked_by chunk_by copy_by copy_at file_of file_by file_at size_of
    data_end lowest_cut cut_of since newest_where gather bad_object bad_chunk
changed_seen = ap seen (known changed changed_kinds kinds.0 lengths.0)

unlinked_seen :
    seen (record_at shelf_geometry unlinked)
    ≡ record {
      ids = 257 ∷ [];
      first = 7;
      second = 0;
      header = Some 4;
      gone = true;
      size = sized.Refused Deleted 3;
      one = looked.Refused Deleted 3 0;
      two = looked.Refused Deleted 3 0;
    }
unfolding seen unlinked_kinds shelf_kinds ids_of passed arranged ascend sized_of sized_by looked_of looked_by file_of file_by file_at since newest_where gather bad_object
    bad_chunk
unlinked_seen = ap seen (known unlinked unlinked_kinds kinds.1 lengths.1)

headless_seen :
    seen (record_at shelf_geometry headless)
    ≡ record {
      ids = 257 ∷ [];
      first = 4;
      second = 0;
      header = None;
      gone = false;
      size = sized.Refused NoHeader 4;
      one = looked.Refused NoHeader 4 0;
      two = looked.Refused NoHeader 4 0;
    }
unfolding seen headless_kinds shelf_kinds ids_of passed arranged ascend sized_of sized_by looked_of looked_by file_of file_by file_at since newest_where gather bad_object
    bad_chunk
headless_seen = ap seen (known headless headless_kinds kinds.2 lengths.2)

-- how an object is shown, by what is seen
module _ (dump : List ℕ) {s : Seen} (e : seen (record_at shelf_geometry dump) ≡ s) where
  -- object 257
  first_view :
      view_of shelf_geometry dump 8 257
      ≡ record {
        has = not (eqb s.first 0);
        header = bytes_on shelf_geometry dump s.header;
        gone = s.gone;
        size = size_in s.size;
        shows = shown_at shelf_geometry dump 8 257;
      }
  unfolding view_of seen
  first_view =
      ap
      (λ (s : Seen).
      record {
        has = not (eqb s.first 0);
        header = bytes_on shelf_geometry dump s.header;
        gone = s.gone;
        size = size_in s.size;
        shows = shown_at shelf_geometry dump 8 257;
      })
      e

  -- whether object 258 is there
  second_has : (view_of shelf_geometry dump 8 258).has ≡ not (eqb s.second 0)
  unfolding view_of seen
  second_has = ap (λ (s : Seen). not (eqb s.second 0)) e

  -- the ids
  ids_seen : object_ids (record_at shelf_geometry dump) 8 ≡ s.ids
  unfolding seen
  ids_seen = ap (λ (s : Seen). s.ids) e

-- ---- W and the changed W

-- the fields that differ: mode and size
header_fields : fields_of (Some (valid_part shelf_geometry shelf 4 header_bytes)) (Some (valid_part shelf_geometry changed 4 header_bytes)) ≡ 268 ∷ 292 ∷ []
unfolding fields_of passed gather differ_in count field_places field_lengths place_of length_of valid_part page_in page_at roomy shelf changed shelf_pages dump_of header_page
    data_page blank_page tagged word_bytes
header_fields = refl

-- the bytes shown at the begin of the first two stretches
module _ (dump : List ℕ) {s : Seen} (e : seen (record_at shelf_geometry dump) ≡ s) where
  -- that of the first
  shown_first : shown_at shelf_geometry dump 8 257 0 ≡ byte_of (part_by shelf_geometry dump s.one) 0
  unfolding shown_at seen
  shown_first = ap (λ (s : Seen). byte_of (part_by shelf_geometry dump s.one) 0) e

  -- that of the second
  shown_second : shown_at shelf_geometry dump 8 257 512 ≡ byte_of (part_by shelf_geometry dump s.two) 0
  unfolding shown_at seen
  shown_second = ap (λ (s : Seen). byte_of (part_by shelf_geometry dump s.two) 0) e

-- of W
shelf_shown : (shown_at shelf_geometry shelf 8 257 0 ≡ 255) × (shown_at shelf_geometry shelf 8 257 512 ≡ 0)
unfolding part_by valid_part page_in page_at roomy shelf shelf_pages dump_of header_page data_page blank_page tagged word_bytes
shelf_shown = (shown_first shelf shelf_seen, shown_second shelf shelf_seen)

-- of the changed W
changed_shown : (shown_at shelf_geometry changed 8 257 0 ≡ 0) × (shown_at shelf_geometry changed 8 257 512 ≡ 255)
unfolding part_by valid_part page_in page_at roomy changed shelf_pages dump_of header_page data_page blank_page tagged word_bytes
changed_shown = (shown_first changed changed_seen, shown_second changed changed_seen)

-- so both stretches of 514 bytes differ
abbrev shown : ℕ → ℕ
shown = shown_at shelf_geometry shelf 8 257

abbrev shown' : ℕ → ℕ
shown' = shown_at shelf_geometry changed 8 257

-- in their first bytes
both_stretches : stretches_of shown shown' (Some 1034) (Some 514) ≡ 0 ∷ 1 ∷ []
unfolding stretches_of passed gather
both_stretches =
    let zero : differ_in shown shown' 0 512 ≡ true =
    means_differ shown shown' 0 512 (record { at = 0; inside = omega arith; apart = λ e. absurd (omega (arith, shelf_shown.0, changed_shown.0, e)) }) in
    let one : differ_in shown shown' 512 2 ≡ true =
    means_differ shown shown' 512 2 (record { at = 0; inside = omega arith; apart = λ e. absurd (omega (arith, shelf_shown.1, changed_shown.1, e)) }) in
    rw (zero, one)

-- all that differs of object 257
changed_differences :
    differences_of (view_of shelf_geometry shelf 8 257) (view_of shelf_geometry changed 8 257)
    ≡ field 268 ∷ field 292 ∷ sizes 1034 514 ∷ stretch 0 ∷ stretch 1 ∷ []
unfolding differences_of
changed_differences = rw (first_view shelf shelf_seen, first_view changed changed_seen, header_fields, both_stretches)

-- object 258 is only in the second
added_differences : differences_of (view_of shelf_geometry shelf 8 258) (view_of shelf_geometry changed 8 258) ≡ only second ∷ []
unfolding differences_of
added_differences = rw (second_has shelf shelf_seen, second_has changed changed_seen)

-- and the report
pub changed_report :
    whole_report shelf_geometry shelf 8 shelf_geometry changed 8
    ≡ bytes_of "object=257\nfield=268\nfield=292\nsize=1034\nsize=514\nstretch=0\nstretch=1\nobject=258\nonly=2\n"
unfolding whole_report ids_in object_report in_either others keep times_in arranged ascend joined object_lines lines_of line_of field_of decimal digits
changed_report =
    rw (ids_seen shelf shelf_seen, ids_seen changed changed_seen, changed_differences, added_differences)

-- ---- headers of which every byte differs

-- every field is reported
pub every_field :
    fields_of (Some (replicate 512 0)) (Some (replicate 512 1))
    ≡ 0 ∷ 4 ∷ 10 ∷ 268 ∷ 272 ∷ 276 ∷ 280 ∷ 284 ∷ 288 ∷ 292 ∷ 296 ∷ 300 ∷ 460 ∷ 464 ∷ 472 ∷ 480 ∷ 504 ∷ 508 ∷ []
unfolding fields_of passed gather differ_in count field_places field_lengths place_of length_of
every_field = refl

-- ---- the other dumps

-- deleted on the first side, without a header on the second
pub lost_report : whole_report shelf_geometry unlinked 8 shelf_geometry headless 8 ≡ bytes_of "object=257\ndeleted=1\nnoheader=2\n"
unfolding whole_report ids_in object_report in_either others keep times_in arranged ascend joined object_lines lines_of line_of field_of decimal digits differences_of fields_of
    stretches_of
lost_report =
    rw (
      ids_seen unlinked unlinked_seen,
      ids_seen headless headless_seen,
      first_view unlinked unlinked_seen,
      first_view headless headless_seen,
    )

-- of two refused dumps the refusal that comes first in the table is told
pub first_refusal :
    (both_of (Err BadLength) (Err BadLayout) ≡ Err BadLayout)
    × (both_of (Err BadLayout) (Err BadLength) ≡ Err BadLayout)
first_refusal = (refl, refl)

-- W does not differ from itself
pub shelf_itself : whole_report shelf_geometry shelf 8 shelf_geometry shelf 8 ≡ []
shelf_itself = whole_itself shelf_geometry shelf 8
