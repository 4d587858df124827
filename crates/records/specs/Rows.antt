-- The rows that tell how records stand and what the file was after each: a word each, and beside it a second one.
use Rattle.std.specs.Prelude.{ℕ, ◌+◌, List, map, eqb}
use Rattle.page.specs.Choice.{pick}
use Rattle.page.specs.declared.record.Record.{Record}
use Rattle.sort.specs.Packed.{packed, key_of, value_of}
use Rattle.chunk.specs.Records.{base_of}
use Rattle.records.specs.Histories.{sized_after, refusal_in, size_in}
use Rattle.records.specs.Standings.{stands_of}
use Rattle.records.specs.Written.{page_of, written}
use Rattle.records.specs.declared.standing.Standing.{Standing}
use Rattle.records.specs.declared.standing.Standing.TheVariants.{NewestHeader, OlderHeader, Superseded, Cut, Holds, NoFile}

-- the number of a standing's kind
abbrev pub kind_of : Standing → ℕ
kind_of NewestHeader = 1
kind_of OlderHeader = 2
kind_of (Superseded q) = 3
kind_of (Cut h) = 4
kind_of (Holds c a) = 5
kind_of NoFile = 6

-- the second word: the page that supersedes or cuts; the chunk and how many bytes it holds; 0 for another
abbrev pub detail_of : Standing → ℕ
detail_of NewestHeader = 0
detail_of OlderHeader = 0
detail_of (Superseded q) = packed q.0 0
detail_of (Cut h) = packed h.0 0
detail_of (Holds c a) = packed c.0 a
detail_of NoFile = 0

-- the standing that a row and its second word tell
unfoldable pub standing_of : (row detail : ℕ) → Standing
standing_of row detail =
    let kind = value_of row in
    pick (eqb kind 1) NewestHeader
    (pick (eqb kind 2) OlderHeader
    (pick (eqb kind 3) (Superseded (record { 0 = key_of detail }))
    (pick (eqb kind 4) (Cut (record { 0 = key_of detail }))
    (pick (eqb kind 5) (Holds (record { 0 = key_of detail }) (value_of detail))
    NoFile))))

-- the page that supersedes or cuts; 0 where there is none
abbrev pub by_of : Standing → ℕ
by_of NewestHeader = 0
by_of OlderHeader = 0
by_of (Superseded q) = q.0
by_of (Cut h) = h.0
by_of (Holds c a) = 0
by_of NoFile = 0

-- from where up to where a record holds bytes of the file, with P data bytes to a page; 0 and 0 where it holds none
abbrev pub from_of : (P : ℕ) → Standing → ℕ
from_of P NewestHeader = 0
from_of P OlderHeader = 0
from_of P (Superseded q) = 0
from_of P (Cut h) = 0
from_of P (Holds c a) = base_of P c.0
from_of P NoFile = 0

abbrev pub until_of : (P : ℕ) → Standing → ℕ
until_of P NewestHeader = 0
until_of P OlderHeader = 0
until_of P (Superseded q) = 0
until_of P (Cut h) = 0
until_of P (Holds c a) = base_of P c.0 + a
until_of P NoFile = 0

module _ (says : ℕ → Record) (P o n : ℕ) where
  -- the words of the record of an age: its page and the number of its standing's kind, and that standing's second word
  abbrev pub standing_row : (age : ℕ) → ℕ
  standing_row a = packed (page_of a) (kind_of (stands_of says P o n (page_of a)))

  abbrev pub standing_detail : (age : ℕ) → ℕ
  standing_detail a = detail_of (stands_of says P o n (page_of a))

  -- those of all records
  unfoldable pub standing_rows : List ℕ
  standing_rows = map standing_row (written says o n)

  unfoldable pub standing_details : List ℕ
  standing_details = map standing_detail (written says o n)

  -- the words of what the file was after the record of an age: its page and the number of the refusal, and the size
  abbrev pub history_row : (age : ℕ) → ℕ
  history_row a = packed (page_of a) (refusal_in (sized_after says P o n a))

  abbrev pub history_size : (age : ℕ) → ℕ
  history_size a = size_in (sized_after says P o n a)

  unfoldable pub history_rows : List ℕ
  history_rows = map history_row (written says o n)

  unfoldable pub history_sizes : List ℕ
  history_sizes = map history_size (written says o n)
