-- The answers for W's file, computed from the definitions: the words of its standings and what they tell, number by number, and each refusal in its turn.
use Prim.Native.Nat.{ℕ}
use Rattle.std.specs.Prelude.{Ok, Err}
use mathlib.Core.List.{List, [], ◌∷◌}
use mathlib.Core.Path.{◌≡◌, refl, ap, ◌∙◌}
use lib.ListN.{get_or}
use Rattle.page.specs.Numbers.{bad_object, bad_chunk}
use Rattle.page.specs.Records.{record_of, record_at}
use Rattle.page.specs.Shelf.{shelf_geometry, shelf, shelf_kinds}
use Rattle.page.specs.declared.record.Record.{Record}
use Rattle.page.specs.declared.kind.Kind.TheVariants.{Blank}
use Rattle.page.specs.declared.refusal.Refusal.TheVariants.{BadPage, BadObject, NoObject, NoHeader, ShortBuffer}
use Rattle.page.proofs.Marked.{shelf_says}
use Rattle.sort.specs.Arranged.{ascend, arranged}
use Rattle.chunk.specs.Cuts.{cut_of, lowest_cut}
use Rattle.chunk.specs.Gather.{gather}
use Rattle.chunk.specs.Live.{passed, ids_of}
use Rattle.chunk.specs.Lookups.{file_at, file_by, file_of, copy_at, copy_by, chunk_by, looked_by, looked_of}
use Rattle.chunk.specs.Newest.{newest_where, since}
use Rattle.chunk.specs.Sizes.{data_end, size_of}
use Rattle.chunk.specs.declared.moment.Moment.TheVariants.{Now, Before}
use Rattle.why.specs.Reasons.{cutter}
use Rattle.records.specs.Answers.{recorded_in}
use Rattle.records.specs.Histories.{refusal_in, size_in}
use Rattle.records.specs.Rows.{standing_rows, standing_details, standing_of, kind_of, by_of, from_of, until_of}
use Rattle.records.specs.Standings.{stands_by}
use Rattle.records.specs.Written.{written}
use Rattle.records.specs.Recorded.{Recorded}
use Rattle.records.specs.Recorded as recorded

-- the words of the standings of object 257: a page in the upper half of a row and a number in the lower one; beside it a page, or a chunk and a length
abbrev words : (ℕ → Record) → List ℕ × List ℕ
words pages = (standing_rows pages 512 257 8, standing_details pages 512 257 8)

abbrev pub expected_words : List ℕ × List ℕ
expected_words = (
  0x000000002 ∷ 0x100000003 ∷ 0x200000004 ∷ 0x300000002 ∷ 0x400000001 ∷ 0x500000005 ∷ 0x600000005 ∷ [],
  0 ∷ 0x500000000 ∷ 0x400000000 ∷ 0 ∷ 0 ∷ 0x10000012C ∷ 0x30000000A ∷ [],
)

words_computed : words (λ i. record_of (get_or shelf_kinds i Blank)) ≡ expected_words
unfolding
    standing_rows standing_details stands_by written ids_of passed arranged ascend cutter looked_of looked_by chunk_by copy_by copy_at file_of file_by file_at bad_object
    bad_chunk since size_of data_end lowest_cut cut_of newest_where gather shelf_kinds
words_computed = refl

pub shelf_words : words (record_at shelf_geometry shelf) ≡ expected_words
shelf_words = ap words shelf_says ∙ words_computed

-- what two words tell: kind, page, and the bytes that are held, with 512 data bytes to a page
abbrev numbers : (row detail : ℕ) → List ℕ
numbers row detail = let s = standing_of row detail in kind_of s ∷ by_of s ∷ from_of 512 s ∷ until_of 512 s ∷ []

pub words_tell :
    (numbers 0x400000001 0 ≡ 1 ∷ 0 ∷ 0 ∷ 0 ∷ []) × (numbers 0x000000002 0 ≡ 2 ∷ 0 ∷ 0 ∷ 0 ∷ []) × (numbers 0x100000003 0x500000000 ≡ 3 ∷ 5 ∷ 0 ∷ 0 ∷ [])
    × (numbers 0x200000004 0x400000000 ≡ 4 ∷ 4 ∷ 0 ∷ 0 ∷ []) × (numbers 0x600000005 0x30000000A ≡ 5 ∷ 0 ∷ 1024 ∷ 1034 ∷ [])
    × (numbers 0x700000006 0 ≡ 6 ∷ 0 ∷ 0 ∷ 0 ∷ [])
unfolding standing_of
words_tell = (refl, refl, refl, refl, refl, refl)

-- a history's numbers: of a size, and of a refusal
pub after_tells : (refusal_in (Ok 612) ∷ size_in (Ok 612) ∷ [] ≡ 0 ∷ 612 ∷ []) × (refusal_in (Err NoHeader) ∷ size_in (Err NoHeader) ∷ [] ≡ 7 ∷ 0 ∷ [])
after_tells = (refl, refl)

-- a page that W lacks, before an id that no object has, before an object without records, before too little room: of 7 words one too few, and enough
abbrev asked : (ℕ → Record) → List Recorded
asked pages =
    recorded_in pages 8 (Before (record { 0 = 8 })) 0 0 ∷
    recorded_in pages 8 (Before (record { 0 = 7 })) 0 0 ∷
    recorded_in pages 8 Now 258 0 ∷
    recorded_in pages 8 Now 257 6 ∷
    recorded_in pages 8 Now 257 7 ∷
    []

abbrev pub expected_answers : List Recorded
expected_answers =
    recorded.Refused BadPage 0 ∷ recorded.Refused BadObject 0 ∷ recorded.Refused NoObject 0 ∷ recorded.Refused ShortBuffer 7 ∷ recorded.Records 7 ∷ []

asked_computed : asked (λ i. record_of (get_or shelf_kinds i Blank)) ≡ expected_answers
unfolding recorded_in bad_object since gather shelf_kinds
asked_computed = refl

pub shelf_refusals : asked (record_at shelf_geometry shelf) ≡ expected_answers
shelf_refusals = ap asked shelf_says ∙ asked_computed
