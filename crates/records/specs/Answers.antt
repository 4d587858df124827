-- What is answered of an object's records, and what the lent words hold then.
use Rattle.std.specs.Prelude.{ℕ, List, [], eqb, ltb, length, Err}
use Rattle.page.specs.Choice.{pick}
use Rattle.page.specs.Lengths.{opened_of}
use Rattle.page.specs.Numbers.{bad_object}
use Rattle.page.specs.declared.geometry.Geometry.{Geometry}
use Rattle.page.specs.declared.record.Record.{Record}
use Rattle.page.specs.declared.refusal.Refusal.TheVariants.{BadPage, BadObject, NoObject, ShortBuffer}
use Rattle.sort.specs.Room.{in_room}
use Rattle.chunk.specs.Answers.{on_pages}
use Rattle.chunk.specs.Lists.{in_front}
use Rattle.chunk.specs.Moments.{is_missing}
use Rattle.chunk.specs.Newest.{records}
use Rattle.chunk.specs.declared.moment.Moment.{Moment}
use Rattle.why.specs.Answers.{says_at}
use Rattle.records.specs.Rows.{standing_rows, standing_details, history_rows, history_sizes}
use Rattle.records.specs.Recorded.{Recorded}
use Rattle.records.specs.Recorded.{Records, Refused}

-- the records of object o of a dump of n pages at a moment, in so many words: how many they are; or a refusal, with that number beside ShortBuffer
unfoldable pub recorded_in : (says : ℕ → Record) (pages : ℕ) → Moment → (object room : ℕ) → Recorded
recorded_in says n m o room =
    pick (is_missing n m) (Refused BadPage 0)
    (pick (bad_object o) (Refused BadObject 0)
    (pick (eqb (records says o n) 0) (Refused NoObject 0)
    (pick (ltb room (records says o n)) (Refused ShortBuffer (records says o n))
    (Records (records says o n)))))

-- words with what an accepted call leaves in front of them; after a refusal as they were
abbrev pub kept_by : Recorded → (front words : List ℕ) → List ℕ
kept_by (Records k) front words = in_front front words
kept_by (Err e) front words = words

-- working words: cleared as far as they were needed; after a refusal as they were
abbrev pub worked_by : Recorded → (words : List ℕ) → List ℕ
worked_by (Records k) words = in_room [] k words
worked_by (Err e) words = words

-- object o of a dump at a moment
module _ (g : Geometry) (dump : List ℕ) (m : Moment) (o : ℕ) where
  abbrev says : ℕ → Record
  says = says_at g dump m o

  abbrev P : ℕ
  P = g.layout.«data»

  -- what is answered, where each slice has so many words or more
  unfoldable pub recorded_on : (room : ℕ) → Recorded
  recorded_on room = on_pages (λ r. Refused r 0) (λ n. recorded_in says n m o room) (opened_of g (length dump))

  -- words that hold something of a dump of n pages
  abbrev pub left_on : (room : ℕ) (front : ℕ → List ℕ) (words : List ℕ) → List ℕ
  left_on room front words = on_pages (λ r. words) (λ n. kept_by (recorded_in says n m o room) (front n) words) (opened_of g (length dump))

  -- how the records stand: their rows, and the second words
  unfoldable pub standing_left : (room : ℕ) (words : List ℕ) → List ℕ
  standing_left room words = left_on room (λ n. standing_rows says P o n) words

  unfoldable pub details_left : (room : ℕ) (words : List ℕ) → List ℕ
  details_left room words = left_on room (λ n. standing_details says P o n) words

  -- the words that were worked in
  unfoldable pub work_left : (room : ℕ) (words : List ℕ) → List ℕ
  work_left room words = worked_by (recorded_on room) words

  -- what the file was after each: its rows, and the sizes
  unfoldable pub history_left : (room : ℕ) (words : List ℕ) → List ℕ
  history_left room words = left_on room (λ n. history_rows says P o n) words

  unfoldable pub sizes_left : (room : ℕ) (words : List ℕ) → List ℕ
  sizes_left room words = left_on room (λ n. history_sizes says P o n) words
