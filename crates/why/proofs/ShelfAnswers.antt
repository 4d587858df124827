-- The answers for W's file, computed from the definitions, number by number: what each reason is told by, the span of a row, and each refusal in its turn.
use Prim.Native.Nat.{ℕ}
use Rattle.std.specs.Prelude.{Result, Ok, Err}
use Rattle.page.specs.declared.number.PageNumber.{PageNumber}
use Rattle.page.specs.declared.refusal.Refusal.{Refusal}
use mathlib.Core.List.{List, [], ◌∷◌}
use mathlib.Core.Path.{◌≡◌, refl, ap, ◌∙◌}
use lib.ListN.{get_or}
use Rattle.page.specs.Numbers.{bad_object, bad_chunk}
use Rattle.page.specs.Records.{record_of, record_at}
use Rattle.page.specs.Shelf.{shelf_geometry, shelf, shelf_kinds}
use Rattle.page.specs.declared.record.Record.{Record}
use Rattle.page.specs.declared.kind.Kind.TheVariants.{Blank}
use Rattle.page.specs.declared.refusal.Refusal.TheVariants.{BadPage, BadObject, NoObject, ShortBuffer}
use Rattle.page.proofs.Marked as pages
use Rattle.chunk.specs.Cuts.{cut_of}
use Rattle.chunk.specs.Gather.{gather}
use Rattle.chunk.specs.Lookups.{file_at, file_by, file_of}
use Rattle.chunk.specs.Newest.{newest_where, since}
use Rattle.chunk.specs.Sizes.{data_end, size_of}
use Rattle.chunk.specs.declared.moment.Moment.TheVariants.{Now, Before}
use Rattle.why.specs.Answers.{filed_in, spans_on, why_on, span_of}
use Rattle.why.specs.Codes.{kind_of, page_in, byte_in, reason_of}
use Rattle.why.specs.Marks.{marks_to}
use Rattle.why.specs.Reasons.{until_of}
use Rattle.why.specs.Told as told
use Rattle.why.specs.declared.reason.Reason.{Reason}
use Rattle.why.specs.declared.reason.Reason.TheVariants.{Held, NoCopy, Cut, Count, PastEnd}
use Rattle.why.specs.Spanned as spanned

-- what a reason is told by: its kind, its page and its data byte
abbrev numbers : Reason → List ℕ
numbers r = kind_of r ∷ page_in r ∷ byte_in r ∷ []

pub reason_tells :
    (numbers (Held (record { 0 = 6 }) 9) ≡ 1 ∷ 6 ∷ 9 ∷ []) × (numbers NoCopy ≡ 2 ∷ 0 ∷ 0 ∷ []) × (numbers (Cut (record { 0 = 4 })) ≡ 3 ∷ 4 ∷ 0 ∷ [])
    × (numbers (Count (record { 0 = 5 })) ≡ 4 ∷ 5 ∷ 0 ∷ []) × (numbers (PastEnd (record { 0 = 6 })) ≡ 5 ∷ 6 ∷ 0 ∷ [])
reason_tells = (refl, refl, refl, refl, refl)

-- a row of W's spans: from 1024 on page 6 holds the bytes
pub row_tells : span_of 512 0x400000031 ≡ record { from = 1024; reason = Held (record { 0 = 6 }) 0 }
unfolding reason_of
row_tells = refl

-- a page that W lacks, before an id that no object has, before an object without records; and W's file, whose newest header is page 4
abbrev asked : (ℕ → Record) → List (Result PageNumber Refusal)
asked pages =
    filed_in pages 8 (Before (record { 0 = 8 })) 0 ∷
    filed_in pages 8 (Before (record { 0 = 7 })) 0 ∷
    filed_in pages 8 Now 258 ∷
    filed_in pages 8 Now 257 ∷
    []

abbrev pub expected : List (Result PageNumber Refusal)
expected = Err BadPage ∷ Err BadObject ∷ Err NoObject ∷ Ok (record { 0 = 4 }) ∷ []

computed : asked (λ i. record_of (get_or shelf_kinds i Blank)) ≡ expected
unfolding filed_in file_of file_by file_at bad_object since newest_where gather shelf_kinds
computed = refl

pub shelf_refusals : asked (record_at shelf_geometry shelf) ≡ expected
shelf_refusals = ap asked pages.shelf_says ∙ computed

-- one word less than its marks are
pub shelf_short :
    (spans_on shelf_geometry shelf Now 257 12 ≡ spanned.Refused ShortBuffer 13) × (why_on shelf_geometry shelf Now 257 0 12 ≡ told.Refused ShortBuffer 13)
unfolding spans_on why_on filed_in file_of file_by file_at bad_object bad_chunk marks_to cut_of since newest_where gather shelf_kinds
shelf_short = (rw ((pages.marked).shelf_length, (pages.marked).shelf_opened, pages.shelf_says), rw ((pages.marked).shelf_length, (pages.marked).shelf_opened, pages.shelf_says))

-- past the end a reason holds up to the largest position
pub shelf_until : until_of (record_at shelf_geometry shelf) 512 257 8 4 1034 ≡ 0xFFFFFFFFFFFFFFFF
unfolding until_of size_of data_end gather shelf_kinds
shelf_until = rw pages.shelf_says
