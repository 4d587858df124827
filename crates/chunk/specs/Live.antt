-- The live objects and the objects of a dump (document 01, the refusal table's last sentence and the report), over what each page says.
use Rattle.std.specs.Prelude.{ℕ, Bool, false, not, ◌&&◌, List, [], ◌∷◌, ◌++◌, eqb, Option, Some, None}
use Rattle.page.specs.Choice.{pick}
use Rattle.page.specs.Search.{count}
use Rattle.page.specs.Numbers.{pages_before}
use Rattle.page.specs.Records.{is_header}
use Rattle.page.specs.declared.record.Record.{Record}
use Rattle.sort.specs.Arranged.{arranged}
use Rattle.chunk.specs.Gather.{gather}
use Rattle.chunk.specs.Records.{object_of, is_gone}
use Rattle.chunk.specs.Newest.{newest_header, records}

-- the ids of those of 0 to n - 1 that pass a test, as they come, and ascending
unfoldable pub passed : (ℕ → Bool) → (ℕ → ℕ) → ℕ → List ℕ
passed test id n = gather (λ p ids. pick (test p) (ids ++ (id p ∷ [])) ids) [] n

unfoldable pub ids_of : (ℕ → Bool) → (ℕ → ℕ) → ℕ → List ℕ
ids_of test id n = arranged (passed test id n)

-- whether a search found page p
abbrev pub is_at : ℕ → Option ℕ → Bool
is_at p None = false
is_at p (Some q) = eqb q p

module _ (says : ℕ → Record) where
  -- the object of page p
  abbrev pub object_at : ℕ → ℕ
  object_at p = object_of (says p)

  -- whether page p is the first record of its object by page number: one such page for each object
  abbrev pub object_page : ℕ → Bool
  object_page p = not (eqb (object_at p) 0) && eqb (records says (object_at p) (pages_before p)) 0

  module _ (n : ℕ) where
    -- the distinct ids of the records, ascending, and how many they are
    abbrev pub object_ids : List ℕ
    object_ids = ids_of object_page object_at n

    unfoldable pub object_count : ℕ
    object_count = count object_page n

    -- whether page p is the newest header of its object, and its parent is neither 3 nor 4: one such page for each live object
    abbrev pub live_page : ℕ → Bool
    live_page p = is_header (says p) && (not (is_gone (says p)) && is_at p (newest_header says (object_at p) n))

    -- the live ids, ascending, and how many they are
    unfoldable pub live_ids : List ℕ
    live_ids = ids_of live_page object_at n

    unfoldable pub live_count : ℕ
    live_count = count live_page n
