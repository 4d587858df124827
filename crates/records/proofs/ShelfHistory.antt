-- The history of W's file, computed from the definitions: each of its records with the size after it. What W's pages are is known from the crate of pages.
use Prim.Native.Nat.{ℕ}
use mathlib.Core.List.{List, [], ◌∷◌}
use mathlib.Core.Path.{◌≡◌, refl, ap, ◌∙◌}
use lib.ListN.{get_or}
use Rattle.page.specs.Numbers.{bad_object}
use Rattle.page.specs.Records.{record_of, record_at}
use Rattle.page.specs.Shelf.{shelf_geometry, shelf, shelf_kinds}
use Rattle.page.specs.declared.record.Record.{Record}
use Rattle.page.specs.declared.kind.Kind.TheVariants.{Blank}
use Rattle.page.proofs.Marked.{shelf_says}
use Rattle.sort.specs.Arranged.{ascend, arranged}
use Rattle.sort.specs.Packed.{packed}
use Rattle.chunk.specs.Gather.{gather}
use Rattle.chunk.specs.Live.{passed, ids_of}
use Rattle.chunk.specs.Lookups.{file_at, file_by, file_of, sized_by, sized_of}
use Rattle.chunk.specs.Newest.{newest_where, since}
use Rattle.chunk.specs.Sizes.{data_end, size_of}
use Rattle.records.specs.Histories.{sized_after}
use Rattle.records.specs.Rows.{history_rows, history_sizes}
use Rattle.records.specs.Written.{written}

-- the rows of object 257, none of them with a refusal, and the sizes beside them
abbrev told : (ℕ → Record) → List ℕ × List ℕ
told pages = (history_rows pages 512 257 8, history_sizes pages 512 257 8)

abbrev pub expected : List ℕ × List ℕ
expected = (
  packed 0 0 ∷ packed 1 0 ∷ packed 2 0 ∷ packed 3 0 ∷ packed 4 0 ∷ packed 5 0 ∷ packed 6 0 ∷ [],
  0 ∷ 512 ∷ 612 ∷ 612 ∷ 300 ∷ 300 ∷ 1034 ∷ [],
)

computed : told (λ i. record_of (get_or shelf_kinds i Blank)) ≡ expected
unfolding
    history_rows history_sizes written ids_of passed arranged ascend sized_after sized_of sized_by file_of file_by file_at bad_object since size_of data_end newest_where
    gather shelf_kinds
computed = refl

pub shelf_history : told (record_at shelf_geometry shelf) ≡ expected
shelf_history = ap told shelf_says ∙ computed
