-- How the records of W's file stand, computed from the definitions, the oldest first. What W's pages are is known from the crate of pages.
use Prim.Native.Nat.{ℕ}
use mathlib.Core.List.{List, [], ◌∷◌, map}
use mathlib.Core.Path.{◌≡◌, refl, ap, ◌∙◌}
use lib.ListN.{get_or}
use Rattle.page.specs.Numbers.{bad_object, bad_chunk}
use Rattle.page.specs.Records.{record_of, record_at}
use Rattle.page.specs.Shelf.{shelf_geometry, shelf, shelf_kinds}
use Rattle.page.specs.declared.record.Record.{Record}
use Rattle.page.specs.declared.kind.Kind.TheVariants.{Blank}
use Rattle.page.proofs.Marked.{shelf_says}
use Rattle.sort.specs.Arranged.{ascend, arranged}
use Rattle.chunk.specs.Cuts.{cut_of, lowest_cut}
use Rattle.chunk.specs.Gather.{gather}
use Rattle.chunk.specs.Live.{passed, ids_of}
use Rattle.chunk.specs.Lookups.{file_at, file_by, file_of, copy_at, copy_by, chunk_by, looked_by, looked_of}
use Rattle.chunk.specs.Newest.{newest_where, since}
use Rattle.chunk.specs.Sizes.{data_end, size_of}
use Rattle.why.specs.Reasons.{cutter}
use Rattle.records.specs.Standings.{stands_by, stands_of}
use Rattle.records.specs.Written.{page_of, written}
use Rattle.records.specs.declared.standing.Standing.{Standing}
use Rattle.records.specs.declared.standing.Standing.TheVariants.{NewestHeader, OlderHeader, Superseded, Cut, Holds}

-- the pages of the records of object 257, and how each stands
abbrev told : (ℕ → Record) → List ℕ × List Standing
told pages = let ages = written pages 257 8 in (map page_of ages, map (λ a. stands_of pages 512 257 8 (page_of a)) ages)

abbrev pub expected : List ℕ × List Standing
expected = (
  0 ∷ 1 ∷ 2 ∷ 3 ∷ 4 ∷ 5 ∷ 6 ∷ [],
  OlderHeader ∷
      Superseded (record { 0 = 5 }) ∷
      Cut (record { 0 = 4 }) ∷
      OlderHeader ∷
      NewestHeader ∷
      Holds (record { 0 = 1 }) 300 ∷
      Holds (record { 0 = 3 }) 10 ∷
      [],
)

computed : told (λ i. record_of (get_or shelf_kinds i Blank)) ≡ expected
unfolding
    stands_by written ids_of passed arranged ascend cutter looked_of looked_by chunk_by copy_by copy_at file_of file_by file_at bad_object bad_chunk since size_of data_end lowest_cut
    cut_of newest_where gather shelf_kinds
computed = refl

pub shelf_standings : told (record_at shelf_geometry shelf) ≡ expected
shelf_standings = ap told shelf_says ∙ computed
