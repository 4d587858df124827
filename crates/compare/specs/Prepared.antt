-- What a dump is prepared to, so that it can be compared: a word for each record, ascending by object and the newest first in each; and as many words for
-- the rows of the copies that each object's file shows, with zeros behind them.
use Rattle.std.specs.Prelude.{ℕ, ◌-◌, ◌*◌, Bool, not, ◌&&◌, List, [], ◌++◌, map, eqb, leb, length, replicate, Ok, Err}
use Rattle.page.specs.Choice.{pick}
use Rattle.page.specs.Lengths.{opened_of}
use Rattle.page.specs.Records.{record_at}
use Rattle.page.specs.Search.{count}
use Rattle.page.specs.declared.geometry.Geometry.{Geometry}
use Rattle.page.specs.declared.record.Record.{Record}
use Rattle.page.specs.declared.refusal.Refusal.TheVariants.{ShortBuffer}
use Rattle.sort.specs.Lists.{joined}
use Rattle.sort.specs.Packed.{packed}
use Rattle.sort.specs.Room.{in_room}
use Rattle.chunk.specs.Answers.{on_pages}
use Rattle.chunk.specs.Lists.{in_front}
use Rattle.chunk.specs.Live.{object_at, object_ids}
use Rattle.chunk.specs.Lookups.{sized_of, looked_of}
use Rattle.chunk.specs.Records.{age_of}
use Rattle.chunk.specs.Sized.{Sized}
use Rattle.index.specs.Chains.{objects}
use Rattle.index.specs.Held.{recs}
use Rattle.file.specs.Copies.{copies_to, packed_copy}
use Rattle.file.specs.Table.{chunks_in}
use Rattle.compare.specs.Preparing.{Prepared, Refused}

module _ (says : ℕ → Record) where
  -- whether a page is a record, and how many are
  abbrev pub is_record : (page : ℕ) → Bool
  is_record p = not (eqb (object_at says p) 0)

  abbrev pub record_count : (pages : ℕ) → ℕ
  record_count n = count is_record n

  module _ (n : ℕ) where
    -- the records of object o, the newest first
    abbrev pub records_of : (object : ℕ) → List ℕ
    records_of o = recs (objects says) (age_of says) o n

    -- their words
    abbrev pub order_of : (object : ℕ) → List ℕ
    order_of o = map (packed o) (records_of o)

    -- the words of all objects
    unfoldable pub order : List ℕ
    order = joined order_of (object_ids says n)

    module _ (P : ℕ) where
      -- the rows of the copies that a file of a size shows; none of an object that is no live file
      abbrev pub rows_by : (object : ℕ) → Sized → List ℕ
      rows_by o (Ok x) = map packed_copy (copies_to (looked_of says o n P) (chunks_in P x.answer))
      rows_by o (Err e) = []

      abbrev pub rows_of : (object : ℕ) → List ℕ
      rows_of o = rows_by o (sized_of says o n P)

      -- the rows of object o, in as many words as it has records
      abbrev pub copies_of : (object : ℕ) → List ℕ
      copies_of o = rows_of o ++ replicate (length (records_of o) - length (rows_of o)) 0

      -- those of all objects
      unfoldable pub copies : List ℕ
      copies = joined copies_of (object_ids says n)

-- how many words are worked in for so many records
abbrev pub work_for : (records : ℕ) → ℕ
work_for m = 2 * m

-- whether so many words of each slice are enough for so many records
abbrev pub is_room : (records order copies work : ℕ) → Bool
is_room m a b c = leb m a && (leb m b && leb (work_for m) c)

-- a dump prepared in lent words, of which each slice has so many
module _ (g : Geometry) (dump : List ℕ) where
  abbrev pub records_in : (pages : ℕ) → ℕ
  records_in n = record_count (record_at g dump) n

  -- what is answered: how many records there are, or a refusal, with that number beside ShortBuffer
  unfoldable pub prepared_on : (order copies work : ℕ) → Prepared
  prepared_on a b c =
      on_pages (λ r. Refused r 0) (λ n. pick (is_room (records_in n) a b c) (Ok (records_in n)) (Refused ShortBuffer (records_in n)))
      (opened_of g (length dump))

  -- words that hold something in front where the dump is prepared; after a refusal all as they were
  abbrev pub left_on : (order copies work : ℕ) → (ℕ → List ℕ) → List ℕ → List ℕ
  left_on a b c words old = on_pages (λ r. old) (λ n. pick (is_room (records_in n) a b c) (words n) old) (opened_of g (length dump))

  -- the three slices then: the words of the records, the rows of the copies, and what was worked in is cleared
  unfoldable pub order_left : (words : List ℕ) (copies work : ℕ) → List ℕ
  order_left words b c = left_on (length words) b c (λ n. in_front (order (record_at g dump) n) words) words

  unfoldable pub copies_left : (words : List ℕ) (order work : ℕ) → List ℕ
  copies_left words a c = left_on a (length words) c (λ n. in_front (copies (record_at g dump) n g.layout.«data») words) words

  unfoldable pub work_left : (words : List ℕ) (order copies : ℕ) → List ℕ
  work_left words a b = left_on a b (length words) (λ n. in_room [] (work_for (records_in n)) words) words
