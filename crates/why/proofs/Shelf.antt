-- W's bytes, computed from the definitions: why the first and the last byte of each of its spans are what they are, and the first past the end. What
-- W's pages say is known from below.
use Prim.Native.Nat.{ℕ}
use mathlib.Core.List.{List, [], ◌∷◌, map}
use mathlib.Core.Path.{◌≡◌, refl, ap, ◌∙◌}
use lib.ListN.{get_or}
use Rattle.page.specs.Records.{record_of, record_at}
use Rattle.page.specs.Shelf.{shelf_geometry, shelf, shelf_kinds}
use Rattle.page.specs.declared.record.Record.{Record}
use Rattle.page.specs.declared.kind.Kind.TheVariants.{Blank}
use Rattle.page.proofs.Marked.{shelf_says}
use Rattle.chunk.specs.Gather.{gather}
use Rattle.chunk.specs.Newest.{newest_where}
use Rattle.chunk.specs.Cuts.{cut_of}
use Rattle.chunk.specs.Sizes.{data_end, size_of}
use Rattle.why.specs.Reasons.{copy_for, cutter, setter, reason_at}
use Rattle.why.specs.declared.reason.Reason.{Reason}
use Rattle.why.specs.declared.reason.Reason.TheVariants.{Held, Cut, Count, PastEnd}

-- object 257, whose newest header is page 4
abbrev reasons : (ℕ → Record) → List Reason
reasons pages = map (λ x. reason_at pages 512 257 8 4 x) (0 ∷ 299 ∷ 300 ∷ 511 ∷ 512 ∷ 1023 ∷ 1024 ∷ 1033 ∷ 1034 ∷ [])

abbrev pub expected : List Reason
expected =
    Held (record { 0 = 5 }) 0 ∷
    Held (record { 0 = 5 }) 299 ∷
    Count (record { 0 = 5 }) ∷
    Count (record { 0 = 5 }) ∷
    Cut (record { 0 = 4 }) ∷
    Cut (record { 0 = 4 }) ∷
    Held (record { 0 = 6 }) 0 ∷
    Held (record { 0 = 6 }) 9 ∷
    PastEnd (record { 0 = 6 }) ∷
    []

-- by what the pages say
computed : reasons (λ i. record_of (get_or shelf_kinds i Blank)) ≡ expected
unfolding reason_at copy_for cutter setter size_of data_end cut_of newest_where gather shelf_kinds
computed = refl

pub shelf_reasons : reasons (record_at shelf_geometry shelf) ≡ expected
shelf_reasons = ap reasons shelf_says ∙ computed
