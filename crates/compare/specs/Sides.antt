-- One object by the words that a dump was prepared to: its records, the newest first, and the rows of the copies that its file shows, ascending.
-- Said of any words; of those that preparing leaves it comes to the same as the rules (proofs/Prepared.antt).
use Rattle.std.specs.Prelude.{ℕ, ◌+◌, ◌-◌, ◌*◌, ◌/◌, not, List, [], ◌∷◌, map, eqb, leb, length, Option, Some, None}
use Rattle.page.specs.Choice.{pick}
use Rattle.page.specs.Records.{is_header, record_at}
use Rattle.page.specs.declared.geometry.Geometry.{Geometry}
use Rattle.page.specs.declared.record.Record.{Record}
use Rattle.sort.specs.Packed.{value_of}
use Rattle.chunk.specs.Answers.{valid_part}
use Rattle.chunk.specs.Records.{base_of}
use Rattle.index.specs.Held.{from_list}
use Rattle.index.specs.Walks.{size_walk}
use Rattle.file.specs.Copies.{copy_of}
use Rattle.compare.specs.Views.{View, byte_of, bytes_on, is_deleted, size_in}
use Rattle.compare.specs.Differences.{stretch_bytes}

-- where the copy of a row begins in its file, and where its valid bytes end
abbrev pub row_begin : (P row : ℕ) → ℕ
row_begin P r = base_of P (copy_of r).chunk

abbrev pub row_end : (P row : ℕ) → ℕ
row_end P r = row_begin P r + (copy_of r).valid

-- the rows from the first on that does not end at or before a position
unfoldable pub standing : (P position : ℕ) (rows : List ℕ) → List ℕ
standing P x [] = []
standing P x (r ∷ rest) = let on = standing P x rest in pick (leb (row_end P r) x) on (r ∷ rest)

-- where the stretch of a position begins
abbrev pub stretch_begin : (position : ℕ) → ℕ
stretch_begin x = stretch_bytes * (x / stretch_bytes)

-- the first header of a list of pages
unfoldable pub first_header : (says : ℕ → Record) (pages : List ℕ) → Option ℕ
first_header says [] = None
first_header says (p ∷ rest) = let more = first_header says rest in pick (is_header (says p)) (Some p) more

module _ (g : Geometry) (dump : List ℕ) where
  -- the byte at a position by the first of these rows: of its valid bytes, if it does not begin behind the position's stretch, or 0
  unfoldable pub byte_by : (rows : List ℕ) (position : ℕ) → ℕ
  byte_by [] x = 0
  byte_by (r ∷ rest) x =
      pick (leb (row_begin g.layout.«data» r) (stretch_begin x))
      (byte_of (valid_part g dump (copy_of r).page (copy_of r).valid) (x - row_begin g.layout.«data» r))
      0

  -- the byte that rows show at a position: by the first that does not end at or before its stretch
  unfoldable pub rows_show : (rows : List ℕ) (position : ℕ) → ℕ
  rows_show rows x = byte_by (standing g.layout.«data» (stretch_begin x) rows) x

  -- the pages of an object's words
  abbrev pub pages_in : (order : List ℕ) → List ℕ
  pages_in order = map value_of order

  -- the object by its words
  unfoldable pub side_of : (order copies : List ℕ) → View
  side_of order copies =
      let says = record_at g dump in
      let header = first_header says (pages_in order) in
      record {
        has = not (eqb (length order) 0);
        header = bytes_on g dump header;
        gone = is_deleted says header;
        size = size_in (size_walk says g.layout.«data» (from_list (pages_in order)));
        shows = rows_show copies;
      }
