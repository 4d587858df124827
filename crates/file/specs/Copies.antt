-- The copies that a file shows, ascending by chunk, by what the lookup of each chunk answers. Each is a row of one number. Chunks that are holes
-- have no row, so that a file has no more rows than its object has records, whatever size it claims.
use Rattle.std.specs.Prelude.{ℕ, zero, suc, ◌+◌, ◌-◌, ◌*◌, ◌/◌, ◌%◌, ◌<◌, Bool, true, false, ◌||◌, List, [], ◌∷◌, ◌++◌, map, length, take, drop, replicate, set, get_or, eqb, ltb, Option, None, Ok, Err}
use Rattle.page.specs.Choice.{pick}
use Rattle.page.specs.Records.{record_at}
use Rattle.page.specs.Lengths.{opened_of}
use Rattle.page.specs.Numbers.{most_chunk, page_values}
use Rattle.page.specs.declared.record.Record.{Record}
use Rattle.page.specs.declared.geometry.Geometry.{Geometry}
use Rattle.page.specs.declared.refusal.Refusal.TheVariants.{ShortBuffer}
use Rattle.sort.specs.Arranged.{arranged}
use Rattle.sort.specs.Packed.{packed, key_of, value_of}
use Rattle.sort.specs.Room.{in_room}
use Rattle.chunk.specs.Records.{chunk_of}
use Rattle.chunk.specs.Answers.{on_pages}
use Rattle.chunk.specs.Lookups.{shown_of, valid_of}
use Rattle.chunk.specs.Looked.{Looked}
use Rattle.chunk.specs.Looked as looked
use Rattle.chunk.specs.Sized.{Sized}
use Rattle.index.specs.Chains.{Trace, clean, broken, rec, top}
use Rattle.index.specs.Walks.{cut_by, chain_of, under, size_from, chunk_from}
use Rattle.index.specs.Ahead.{still_newest}
use Rattle.file.specs.Shows.{is_met}
use Rattle.file.specs.Table.{chunks_in, all_ahead}
use Rattle.file.specs.declared.copy.Copy.{Copy}
use Rattle.file.specs.Copied.{Copied}
use Rattle.file.specs.Copied.{Rows, Refused}

-- how many chunks and valid lengths a row tells apart; pages as many as there are numbers of them
abbrev pub chunk_values : ℕ
chunk_values = most_chunk + 1

abbrev pub valid_values : ℕ
valid_values = 0x8000

-- a copy that a row can tell
pub record Fits (x : Copy) : Type 0 where
  pub chunk : x.chunk < chunk_values
  pub page : x.page < page_values
  pub valid : x.valid < valid_values

-- the number of a copy, and the copy of a number
abbrev pub packed_copy : Copy → ℕ
packed_copy x = (x.chunk * page_values + x.page) * valid_values + x.valid

abbrev pub copy_of : ℕ → Copy
copy_of row = record { chunk = row / valid_values / page_values; page = row / valid_values % page_values; valid = row % valid_values }

-- the copy of chunk c, if its lookup found one
abbrev pub copy_in : (chunk : ℕ) → Looked → List Copy
copy_in c (looked.Copy p a s v) = record { chunk = c; page = p.0; valid = a } ∷ []
copy_in c (looked.Hole s v) = []
copy_in c (Err e) = []

-- whether a lookup is refused
abbrev pub is_refused : Looked → Bool
is_refused (looked.Copy p a s v) = false
is_refused (looked.Hole s v) = false
is_refused (Err e) = true

module _ (look : ℕ → Looked) where
  -- the copies of chunks 1 to m
  unfoldable pub copies_to : (chunks : ℕ) → List Copy
  copies_to zero = []
  copies_to (suc c) = copies_to c ++ copy_in (suc c) (look (suc c))

  -- whether the lookup of one of these chunks is refused; a file that has a size refuses them for a damaged link alone
  unfoldable pub any_refused : (chunks : ℕ) → Bool
  any_refused zero = false
  any_refused (suc c) = is_refused (look (suc c)) || any_refused c

-- The room that is asked for: a walk down the whole chain meets copies from the newest on, and of each chunk it may meet older ones too.

-- page q, which says k, as a copy, if it is met as one
abbrev pub met_of : (P chunks size : ℕ) → Option ℕ → (page : ℕ) → Record → List Copy
met_of P chunks size cut q k =
    pick (is_met P chunks cut (chunk_of k))
    (record { chunk = chunk_of k; page = q; valid = valid_of P (chunk_of k) k (shown_of P (chunk_of k) size) cut } ∷ [])
    []

module _ (says : ℕ → Record) (P chunks size : ℕ) where
  -- the copies met: `newest` says whether the newest header is still ahead, `cut` is the lowest cut of the headers passed
  unfoldable pub met : (newest : Bool) → Option ℕ → Trace → List Copy
  met newest cut clean = []
  met newest cut broken = []
  met newest cut (rec q t) = met_of P chunks size cut q (says q) ++ met (still_newest says newest q) (cut_by says newest q cut) t

-- of object o of a dump, from a link on: the copies met, and those that lie ahead for the file's chunks
module _ (says : ℕ → Record) (P size pages : ℕ) (cells : List ℕ) (o first : ℕ) where
  abbrev pub met_ahead : List Copy
  met_ahead = met says P (chunks_in P size) size true None (under says pages cells o top first)

  abbrev pub copies_ahead : List Copy
  copies_ahead = copies_to (all_ahead says P size pages cells o first) (chunks_in P size)

-- how many words so many copies need: a key and a row for each
abbrev pub room_for : ℕ → ℕ
room_for n = 2 * n

-- by what the lookups answer, and by how many copies are met of a file of a size, with P data bytes to a page
module _ (look : ℕ → Looked) (copiesMet : ℕ → ℕ) (P : ℕ) where
  -- the copies of a file that has a size or not, in so many words
  unfoldable pub copied_by : (words : ℕ) → Sized → Copied
  copied_by words (Err e) = Refused e.answer 0
  copied_by words (Ok x) =
      pick (ltb words (room_for (copiesMet x.answer))) (Refused ShortBuffer (room_for (copiesMet x.answer)))
      (Rows x.answer (length (copies_to look (chunks_in P x.answer))) (any_refused look (chunks_in P x.answer)))

  -- the words after the call: the rows in the room that was asked for; after a refusal all as they were
  unfoldable pub rows_by : (words : List ℕ) → Copied → List ℕ
  rows_by words (Err e) = words
  rows_by words (Ok x) = in_room (map packed_copy (copies_to look (chunks_in P x.size))) (room_for (copiesMet x.size)) words

-- the copies of object o of a dump, by any cells
module _ (g : Geometry) (dump cells : List ℕ) (o : ℕ) where
  -- how many are met, if its file has a size
  unfoldable pub met_from : (size : ℕ) → ℕ
  met_from z =
      let P = g.layout.«data» in
      on_pages (λ r. 0) (λ n. length (met (record_at g dump) P (chunks_in P z) z true None (chain_of (record_at g dump) P cells o n))) (opened_of g (length dump))

  -- what is answered, in so many words, and what these are then
  unfoldable pub copied_from : (words : ℕ) → Copied
  copied_from words = copied_by (chunk_from g dump cells o) met_from g.layout.«data» words (size_from g dump cells o)

  unfoldable pub rows_from : (words : List ℕ) → Copied → List ℕ
  rows_from words r = rows_by (chunk_from g dump cells o) met_from g.layout.«data» words r

-- How they come into order. Copy i of those met puts the key of its chunk and of i into the first n words, from the last of these on, and its row into
-- word n + i, where i is below n. A file that was written in order is met from its last chunk on, so that its keys then stand in order.
module _ (n : ℕ) where
  abbrev pub put_copy : (words : List ℕ) (i : ℕ) → Copy → List ℕ
  put_copy w i x = pick (ltb i n) (set (set w (n - 1 - i) (packed x.chunk i)) (n + i) (packed_copy x)) w

  unfoldable pub put_from : (words : List ℕ) (i : ℕ) → List Copy → List ℕ
  put_from w i [] = w
  put_from w i (x ∷ L) = put_from (put_copy w i x) (suc i) L

-- of keys that ascend, the first of each chunk: what its number stands for
module _ {A : Type 0} (at : ℕ → A) where
  abbrev pub first_of : (last key : ℕ) → List A
  first_of last k = pick (eqb (key_of k) last) [] (at (value_of k) ∷ [])

  unfoldable pub firsts : (last : ℕ) (keys : List ℕ) → List A
  firsts last [] = []
  firsts last (k ∷ S) = first_of last k ++ firsts (key_of k) S

-- words whose front half are keys, and the other half rows: with the keys in order, and what is then gathered of them
abbrev pub keys_sorted : (words : List ℕ) → List ℕ
keys_sorted w = arranged (take (length w / 2) w) ++ drop (length w / 2) w

abbrev pub gathered : (words : List ℕ) → List ℕ
gathered w = let s = keys_sorted w in firsts (λ j. get_or s (length w / 2 + j) 0) 0 (take (length w / 2) s)

-- rows with zeros behind them, as many words as there is room
abbrev pub padded : (rows : List ℕ) (room : ℕ) → List ℕ
padded rows room = rows ++ replicate (room - length rows) 0
