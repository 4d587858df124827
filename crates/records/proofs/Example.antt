-- An object that was a file only at times, computed from the definitions: data before any header, a file, a deletion with data behind it, a directory,
-- and a file again, whose header is the newest though its page is the first, and cuts just where chunk 2 begins. Its history has each refusal that a
-- record can leave. As it stood before that header, data that no header cuts are no file's.
use Prim.Native.Nat.{ℕ}
use mathlib.Core.Bool.{false}
use mathlib.Core.List.{List, [], ◌∷◌}
use mathlib.Core.Path.{◌≡◌, refl}
use lib.ListN.{get_or}
use Rattle.page.specs.Numbers.{bad_object, bad_chunk}
use Rattle.page.specs.declared.record.Record.{Record}
use Rattle.page.specs.declared.record.Record.TheVariants.{Other, Header, Data}
use Rattle.sort.specs.Arranged.{ascend, arranged}
use Rattle.sort.specs.Packed.{packed}
use Rattle.chunk.specs.Cuts.{cut_of, lowest_cut}
use Rattle.chunk.specs.Gather.{gather}
use Rattle.chunk.specs.Live.{passed, ids_of}
use Rattle.chunk.specs.Lookups.{file_at, file_by, file_of, sized_by, sized_of, copy_at, copy_by, chunk_by, looked_by, looked_of}
use Rattle.chunk.specs.Moments.{takes_at}
use Rattle.chunk.specs.Newest.{newest_where, since}
use Rattle.chunk.specs.Sizes.{data_end, size_of}
use Rattle.chunk.specs.Takes.{seen_by}
use Rattle.chunk.specs.declared.moment.Moment.TheVariants.{Before}
use Rattle.why.specs.Reasons.{cutter}
use Rattle.records.specs.Histories.{sized_after}
use Rattle.records.specs.Rows.{standing_rows, standing_details, history_rows, history_sizes}
use Rattle.records.specs.Standings.{stands_by}
use Rattle.records.specs.Written.{written}

-- a header of object 5: type 1 is a file, 3 a directory; and data of it
abbrev header_of : (sequence type parent size : ℕ) → Record
header_of sequence type parent size = Header (record {
  sequence = sequence;
  object = record { 0 = 5 };
  page_type = type;
  parent = record { 0 = parent };
  size = size;
  shrink = false;
})

abbrev data_of : (sequence chunk count : ℕ) → Record
data_of sequence chunk count = Data (record { sequence = sequence; object = record { 0 = 5 }; chunk = record { 0 = chunk }; count = count })

-- the pages
unfoldable pub example_pages : List Record
example_pages =
    header_of 4099 1 1 512 ∷
    data_of 4097 1 3 ∷
    header_of 4097 1 1 2 ∷
    data_of 4097 2 1 ∷
    header_of 4098 1 4 0 ∷
    data_of 4098 1 3 ∷
    header_of 4098 3 1 0 ∷
    []

abbrev pub example_says : ℕ → Record
example_says p = get_or example_pages p Other

-- its history: NoHeader, two sizes, Deleted twice, NotAFile, and a size
pub example_history :
    (history_rows example_says 512 5 7 ≡ packed 1 7 ∷ packed 2 0 ∷ packed 3 0 ∷ packed 4 8 ∷ packed 5 8 ∷ packed 6 9 ∷ packed 0 0 ∷ [])
    × (history_sizes example_says 512 5 7 ≡ 0 ∷ 2 ∷ 513 ∷ 0 ∷ 0 ∷ 0 ∷ 512 ∷ [])
unfolding
    example_pages history_rows history_sizes written ids_of passed arranged ascend sized_after sized_of sized_by file_of file_by file_at bad_object since size_of data_end
    newest_where gather
example_history = (refl, refl)

-- how its records stood before the header on page 0: chunk 1 superseded by page 5, chunk 2 cut by the deletion, and page 5 no file's; and how they stand
-- now: chunk 2 cut by that header, which is newer, and page 5 holds 3 bytes
abbrev before : ℕ → Record
before = seen_by (takes_at example_says (Before (record { 0 = 0 }))) example_says

pub example_standings :
    (standing_rows before 512 5 7 ≡ packed 1 3 ∷ packed 2 2 ∷ packed 3 4 ∷ packed 4 2 ∷ packed 5 6 ∷ packed 6 1 ∷ [])
    × (standing_details before 512 5 7 ≡ packed 5 0 ∷ 0 ∷ packed 4 0 ∷ 0 ∷ 0 ∷ 0 ∷ [])
    × (standing_rows example_says 512 5 7 ≡ packed 1 3 ∷ packed 2 2 ∷ packed 3 4 ∷ packed 4 2 ∷ packed 5 5 ∷ packed 6 2 ∷ packed 0 1 ∷ [])
    × (standing_details example_says 512 5 7 ≡ packed 5 0 ∷ 0 ∷ packed 0 0 ∷ 0 ∷ packed 1 3 ∷ 0 ∷ 0 ∷ [])
unfolding
    example_pages standing_rows standing_details stands_by written ids_of passed arranged ascend cutter looked_of looked_by chunk_by copy_by copy_at file_of file_by file_at
    bad_object bad_chunk since size_of data_end lowest_cut cut_of newest_where gather
example_standings = (refl, refl, refl, refl)
