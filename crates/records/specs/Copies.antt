-- For the code alone: the records of an object by their chunks, and those of one chunk by their places among the ages; headers have chunk 0. What it
-- comes to is in Standings.
use Rattle.std.specs.Prelude.{ℕ, suc, ◌≤◌, ◌<◌, List, [], ◌∷◌, ◌≡◌, length, get_or}
use Rattle.page.specs.declared.record.Record.{Record}
use Rattle.sort.specs.Arranged.{arranged}
use Rattle.sort.specs.Packed.{word_values, packed, key_of, value_of}
use Rattle.sort.specs.Search.{Sorted}
use Rattle.chunk.specs.Records.{chunk_of}
use Rattle.records.specs.Written.{said_at}

module _ (says : ℕ → Record) where
  -- a row of the chunk and the place of each of these ages, the first of which has place i
  unfoldable pub placed_from : (i : ℕ) (ages : List ℕ) → List ℕ
  placed_from i [] = []
  placed_from i (a ∷ newer) = packed (chunk_of (said_at says a)) i ∷ placed_from (suc i) newer

  -- these rows, ascending
  abbrev pub places_of : (ages : List ℕ) → List ℕ
  places_of ages = arranged (placed_from 0 ages)

-- rows that ascend, of places below the last word, one of which is of a chunk
pub record HasChunk (chunk : ℕ) (rows : List ℕ) : Type 0 where
  pub sorted : Sorted rows
  pub places : (j : ℕ) → j < length rows → value_of (get_or rows j 0) < 0xFFFFFFFF
  pub row : ℕ
  pub inside : row < length rows
  pub its : key_of (get_or rows row 0) ≡ chunk

-- the last place of a chunk among rows
pub record LastPlace (chunk : ℕ) (rows : List ℕ) (place : ℕ) : Type 0 where
  pub row : ℕ
  pub inside : row < length rows
  pub its : get_or rows row 0 ≡ packed chunk place
  pub word : place < word_values
  pub last : (j : ℕ) → j < length rows → key_of (get_or rows j 0) ≡ chunk → value_of (get_or rows j 0) ≤ place
