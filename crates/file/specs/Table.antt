-- The table of a file's chunks. It has a row of two words for each chunk from 1 on, by what the chunk's lookup on the index answers. The
-- first word says where the copy is: 0 for a hole, 1 where a damaged link is met before a copy, q + 2 for page q. The second is the copy's
-- valid length.
use Rattle.std.specs.Prelude.{ℕ, zero, suc, ◌+◌, ◌-◌, ◌*◌, ◌≤◌, ◌<◌, min, true, not, List, [], ◌∷◌, ◌++◌, ◌≡◌, length, set, drop, eqb, ltb, Option, None, Ok, Err}
use Rattle.std.specs.Int.{div_ceil}
use Rattle.page.specs.Choice.{pick}
use Rattle.page.specs.Numbers.{most_chunk}
use Rattle.page.specs.declared.record.Record.{Record}
use Rattle.page.specs.declared.geometry.Geometry.{Geometry}
use Rattle.page.specs.declared.refusal.Refusal.TheVariants.{ShortBuffer}
use Rattle.chunk.specs.Records.{base_of}
use Rattle.chunk.specs.Cuts.{leaves}
use Rattle.chunk.specs.Answers.{valid_part}
use Rattle.chunk.specs.Looked.{Looked}
use Rattle.chunk.specs.Looked as looked
use Rattle.chunk.specs.Sized.{Sized}
use Rattle.chunk.specs.Lookups.{shown_of}
use Rattle.index.specs.Cells.{word, link_to}
use Rattle.index.specs.Chains.{top}
use Rattle.index.specs.Walks.{under, size_from}
use Rattle.index.specs.Ahead.{ahead}
use Rattle.file.specs.Shows.{is_met}
use Rattle.file.specs.Tabled.{Tabled}
use Rattle.file.specs.Tabled.{Rows, Refused}

-- the words of a row, by what the lookup answers
abbrev pub where_word : Looked → ℕ
where_word (looked.Copy p a s v) = link_to p.0
where_word (looked.Hole s v) = 0
where_word (Err e) = 1

abbrev pub valid_word : Looked → ℕ
valid_word (looked.Copy p a s v) = a
valid_word (looked.Hole s v) = 0
valid_word (Err e) = 0

-- the part of a dump that a row of these words names: the valid bytes of the copy, and an empty part for the others
unfoldable pub row_part : Geometry → (dump : List ℕ) (place valid : ℕ) → List ℕ
row_part g dump place valid = pick (ltb place 2) [] (valid_part g dump (place - 2) valid)

-- how many words so many rows have
abbrev pub words_of : ℕ → ℕ
words_of m = 2 * m

-- where the row of chunk c stands
abbrev pub row_at : ℕ → ℕ
row_at c = words_of (c - 1)

-- how many chunks a file of a size has, with P data bytes to a page, of those that have numbers
unfoldable pub chunks_in : (P size : ℕ) → ℕ
chunks_in P size = min most_chunk (div_ceil size P)

-- the rows of chunks 1 to m
unfoldable pub rows : (ℕ → Looked) → ℕ → List ℕ
rows look zero = []
rows look (suc c) = rows look c ++ (where_word (look (suc c)) ∷ valid_word (look (suc c)) ∷ [])

-- the table of a file that has a size or not, in so many words
unfoldable pub table_by : (P room : ℕ) → Sized → Tabled
table_by P room (Err e) = Refused e.answer 0
table_by P room (Ok x) = pick (ltb room (words_of (chunks_in P x.answer))) (Refused ShortBuffer (words_of (chunks_in P x.answer))) (Rows x.answer (chunks_in P x.answer))

-- the words after the call: the rows, and those behind them as they were; after a refusal all as they were
unfoldable pub filled_by : (ℕ → Looked) → List ℕ → Tabled → List ℕ
filled_by look table (Err e) = table
filled_by look table (Ok x) = rows look x.rows ++ drop (words_of x.rows) table

-- the table of object o of a dump, by any cells, in so many words
unfoldable pub table_from : Geometry → (dump cells : List ℕ) (object room : ℕ) → Tabled
table_from g dump cells o room = table_by g.layout.«data» room (size_from g dump cells o)

-- what lies ahead for each chunk of a file of a size, from a link on
abbrev pub all_ahead : (says : ℕ → Record) (P size pages : ℕ) (cells : List ℕ) (object first chunk : ℕ) → Looked
all_ahead says P size n cells o first c = ahead says P c (shown_of P c size) true None (under says n cells o top first)

-- a table of m rows in which page q, of chunk number c and byte count n, is noted: if it is met as a copy, and nothing is noted in its row
unfoldable pub noted : (table : List ℕ) (rows P size : ℕ) → Option ℕ → (page chunk count : ℕ) → List ℕ
noted t m P size cut q c n =
    pick (not (is_met P m cut c)) t
    (pick (not (eqb (word t (row_at c)) 0)) t
    (set (set t (row_at c) (link_to q)) (row_at c + 1) (min n (leaves cut (base_of P c) (shown_of P c size)))))

-- the first word of a row after a damaged link was met
abbrev pub closed_word : ℕ → ℕ
closed_word w = pick (eqb w 0) 1 w

-- the rows of t in which nothing is noted are marked as damaged in u, and all else is the same
pub record Closed (m : ℕ) (t u : List ℕ) : Type 0 where
  pub long : length u ≡ length t
  pub rest : drop (words_of m) u ≡ drop (words_of m) t
  pub marked : (c : ℕ) → 0 < c → c ≤ m → word u (row_at c) ≡ closed_word (word t (row_at c))
  pub valid : (c : ℕ) → 0 < c → c ≤ m → word u (row_at c + 1) ≡ word t (row_at c + 1)
