-- The copies that a list of pages shows, an object's records from the newest on, by what lies ahead along it for each chunk.
use Rattle.std.specs.Prelude.{ℕ, true, List, map, ltb, leb, length, None}
use Rattle.page.specs.Choice.{pick}
use Rattle.page.specs.Lengths.{opened_of}
use Rattle.page.specs.Numbers.{page_values}
use Rattle.page.specs.Records.{record_at}
use Rattle.page.specs.declared.geometry.Geometry.{Geometry}
use Rattle.page.specs.declared.refusal.Refusal.TheVariants.{BadPage, ShortBuffer}
use Rattle.sort.specs.Packed.{value_of}
use Rattle.sort.specs.Room.{in_room}
use Rattle.chunk.specs.Answers.{on_pages}
use Rattle.page.specs.declared.record.Record.{Record}
use Rattle.chunk.specs.Lookups.{shown_of}
use Rattle.index.specs.Held.{from_list}
use Rattle.index.specs.Ahead.{ahead}
use Rattle.file.specs.Copies.{copies_to, met, packed_copy, room_for}
use Rattle.file.specs.Table.{chunks_in}
use Rattle.file.specs.Laid.{Along}
use Rattle.file.specs.Laid.{Rows, Refused}
use Rattle.file.specs.declared.copy.Copy.{Copy}

-- of a file of a size, with P data bytes to a page
module _ (says : ℕ → Record) (P size : ℕ) (pages : List ℕ) where
  -- the copies, ascending by chunk
  unfoldable pub copies_along : List Copy
  copies_along = copies_to (λ c. ahead says P c (shown_of P c size) true None (from_list pages)) (chunks_in P size)

  -- those that are met, older ones of a chunk too, and how many they are
  abbrev pub met_on : List Copy
  met_on = met says P (chunks_in P size) size true None (from_list pages)

  unfoldable pub met_along : ℕ
  met_along = length met_on

-- what is answered for a list of words, each with a page as its value, and a file of a size, in so many words: a list of more records than there are
-- numbers of pages is refused, and so are fewer words than two for each record
module _ (g : Geometry) (dump list : List ℕ) (size : ℕ) where
  abbrev pub shown_by : List Copy
  shown_by = copies_along (record_at g dump) g.layout.«data» size (map value_of list)

  unfoldable pub along_on : (words : ℕ) → Along
  along_on words =
      on_pages (λ r. Refused r 0)
      (λ n.
      pick (leb page_values (length list)) (Refused BadPage 0)
      (pick (ltb words (room_for (length list))) (Refused ShortBuffer (room_for (length list)))
      (Rows (length shown_by))))
      (opened_of g (length dump))

  -- the words then: the rows in the room of the copies that are met; after a refusal all as they were
  unfoldable pub along_left : (words : List ℕ) → List ℕ
  along_left words =
      on_pages (λ r. words)
      (λ n.
      pick (leb page_values (length list)) words
      (pick (ltb (length words) (room_for (length list))) words
      (in_room (map packed_copy shown_by) (room_for (met_along (record_at g dump) g.layout.«data» size (map value_of list))) words)))
      (opened_of g (length dump))
