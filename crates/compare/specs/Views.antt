-- What a dump shows of one object, as far as two dumps are compared (document 02, item 1), by the rules of document 01.
use Rattle.std.specs.Prelude.{ℕ, ◌/◌, ◌%◌, ◌+◌, Bool, false, not, List, eqb, get_or, Option, Some, None, Ok, Err}
use Rattle.page.specs.Layouts.{header_bytes}
use Rattle.page.specs.Records.{record_at}
use Rattle.page.specs.declared.geometry.Geometry.{Geometry}
use Rattle.page.specs.declared.record.Record.{Record}
use Rattle.chunk.specs.Answers.{valid_part, part_by}
use Rattle.chunk.specs.Lookups.{sized_of, looked_of}
use Rattle.chunk.specs.Newest.{newest_header, records}
use Rattle.chunk.specs.Records.{is_gone}
use Rattle.chunk.specs.Sized.{Sized}

-- an object of a dump: whether it has a record; the bytes of its newest header, if it has one; whether that is deleted; its size, if it is a
-- live file; and the byte that it shows at a position
pub record View : Type 0 where
  pub has : Bool
  pub header : Option (List ℕ)
  pub gone : Bool
  pub size : Option ℕ
  pub shows : ℕ → ℕ

-- the byte of a list at a position; 0 behind its end
abbrev pub byte_of : List ℕ → (position : ℕ) → ℕ
byte_of bytes x = get_or bytes x 0

-- the bytes of the header on a page, if there is one, and whether it is deleted
abbrev pub bytes_on : Geometry → (dump : List ℕ) → Option ℕ → Option (List ℕ)
bytes_on g dump None = None
bytes_on g dump (Some h) = Some (valid_part g dump h header_bytes)

abbrev pub is_deleted : (says : ℕ → Record) → Option ℕ → Bool
is_deleted says None = false
is_deleted says (Some h) = is_gone (says h)

-- a size that was looked up; none of an object that is no live file
abbrev pub size_in : Sized → Option ℕ
size_in (Ok x) = Some x.answer
size_in (Err e) = None

-- object o of a dump of n pages
module _ (g : Geometry) (dump : List ℕ) (n o : ℕ) where
  -- the byte shown at a position: of the valid bytes of the chunk that the position lies in, or 0
  unfoldable pub shown_at : (position : ℕ) → ℕ
  shown_at x =
      let P = g.layout.«data» in
      byte_of (part_by g dump (looked_of (record_at g dump) o n P (x / P + 1))) (x % P)

  unfoldable pub view_of : View
  view_of =
      let says = record_at g dump in
      record {
        has = not (eqb (records says o n) 0);
        header = bytes_on g dump (newest_header says o n);
        gone = is_deleted says (newest_header says o n);
        size = size_in (sized_of says o n g.layout.«data»);
        shows = shown_at;
      }
