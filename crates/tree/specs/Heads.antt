-- The newest header of each object as a row: the object's id as its key, the page as its value. The rows of all headers are put in order, and of
-- those of one object, which stand side by side then, the newest is kept.
use Rattle.std.specs.Prelude.{ℕ, ◌<◌, Bool, List, [], ◌∷◌, map, ◌≡◌, eqb, leb, length, get_or, Some}
use Rattle.page.specs.Choice.{pick}
use Rattle.page.specs.Records.{is_header}
use Rattle.page.specs.Search.{count}
use Rattle.page.specs.declared.record.Record.{Record}
use Rattle.sort.specs.Ascending.{In, Ascends}
use Rattle.sort.specs.Packed.{packed, key_of, value_of}
use Rattle.chunk.specs.Live.{ids_of}
use Rattle.chunk.specs.Records.{age_of, object_of}
use Rattle.tree.specs.Objects.{head_of}

-- the object of row i
abbrev pub object_at : (heads : List ℕ) (row : ℕ) → ℕ
object_at heads i = key_of (get_or heads i 0)

-- over what each page says
module _ (says : ℕ → Record) where
  -- what the newest header of row i says
  abbrev pub said_at : (heads : List ℕ) (row : ℕ) → Record
  said_at heads i = says (value_of (get_or heads i 0))

  -- whether a page is a header, and its row
  abbrev pub is_head : (page : ℕ) → Bool
  is_head p = is_header (says p)

  abbrev pub head_row : (page : ℕ) → ℕ
  head_row p = packed (object_of (says p)) p

  -- how many headers there are
  abbrev pub head_count : (pages : ℕ) → ℕ
  head_count n = count is_head n

  -- the newer of two rows, the second of which stands behind the first
  unfoldable pub newer_row : (row next : ℕ) → ℕ
  newer_row a b = pick (leb (age_of says (value_of a)) (age_of says (value_of b))) b a

  -- rows in order, of which the newest of each object is kept; the first is the newest so far of its object
  unfoldable pub newest_from : (row : ℕ) (rows : List ℕ) → List ℕ
  newest_from b [] = b ∷ []
  newest_from b (x ∷ rest) =
      let same = newest_from (newer_row b x) rest in
      let other = newest_from x rest in
      pick (eqb (key_of b) (key_of x)) same (b ∷ other)

  abbrev pub newest_each : (rows : List ℕ) → List ℕ
  newest_each [] = []
  newest_each (x ∷ rest) = newest_from x rest

  -- the rows of the newest headers of all objects, in order
  unfoldable pub head_rows : (pages : ℕ) → List ℕ
  head_rows n = newest_each (ids_of is_head head_row n)

  -- what they are: a row for each object that has a header, ascending by id, with its newest header
  pub record Heads (n : ℕ) (rows : List ℕ) : Type 0 where
    pub ascend : Ascends 0 (map key_of rows)
    pub right : (row : ℕ) → In row rows → head_of says n (key_of row) ≡ Some (value_of row)
    pub all : (o p : ℕ) → head_of says n o ≡ Some p → In (packed o p) rows
    pub few : length rows < 0x100000000
