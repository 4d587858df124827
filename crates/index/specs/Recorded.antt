-- The records of an object by the index, on any cells: the pages of its chain, from the newest on.
use Rattle.std.specs.Prelude.{ℕ, Bool, true, false, List, [], ◌∷◌, length, eqb, ltb, Result, Ok, Err}
use Rattle.page.specs.declared.refusal.Refusal.{Refusal}
use Rattle.page.specs.Choice.{pick}
use Rattle.page.specs.Records.{record_at}
use Rattle.page.specs.Lengths.{opened_of}
use Rattle.page.specs.Numbers.{bad_object}
use Rattle.page.specs.declared.record.Record.{Record}
use Rattle.page.specs.declared.geometry.Geometry.{Geometry}
use Rattle.page.specs.declared.refusal.Refusal.TheVariants.{BadObject, NoObject, ShortIndex, IndexDamaged}
use Rattle.chunk.specs.Answers.{on_pages}
use Rattle.chunk.specs.Lists.{listed_by}
use Rattle.chunk.specs.Listed.{Listed}
use Rattle.chunk.specs.Listed as listed
use Rattle.index.specs.Cells.{cells_for}
use Rattle.index.specs.Chains.{Trace, clean, broken, rec}
use Rattle.index.specs.Walks.{records_in, chain_of}

-- the pages of a chain, from the newest record on
unfoldable pub pages_of : Trace → List ℕ
pages_of clean = []
pages_of broken = []
pages_of (rec q t) = q ∷ pages_of t

-- whether a chain ends at a damaged link
unfoldable pub is_broken : Trace → Bool
is_broken clean = false
is_broken broken = true
is_broken (rec q t) = is_broken t

-- how many records a chain has, if it has no damaged link
unfoldable pub tally_of : Trace → Result ℕ Refusal
tally_of t = pick (is_broken t) (Err IndexDamaged) (Ok (records_in t))

-- the pages of a chain in so many words, if there is one, by that tally
unfoldable pub records_by : (room : ℕ) (pages : List ℕ) → Result ℕ Refusal → Listed
records_by room L (Err r) = listed.Refused r 0
records_by room L (Ok m) = pick (eqb m 0) (listed.Refused NoObject 0) (listed_by room L)

-- the records of object o on the cells of n pages
module _ (says : ℕ → Record) (P : ℕ) (cells : List ℕ) (o n : ℕ) where
  unfoldable pub records_at : (room : ℕ) → Listed
  records_at room =
      pick (ltb (length cells) (cells_for n)) (listed.Refused ShortIndex 0)
      (pick (bad_object o) (listed.Refused BadObject 0)
      (records_by room (pages_of (chain_of says P cells o n)) (tally_of (chain_of says P cells o n))))

-- the records of object o on a dump, by any cells
module _ (g : Geometry) (dump cells : List ℕ) (o : ℕ) where
  -- their pages; none where the dump is refused
  unfoldable pub pages_from : List ℕ
  pages_from = on_pages (λ r. []) (λ n. pages_of (chain_of (record_at g dump) g.layout.«data» cells o n)) (opened_of g (length dump))

  unfoldable pub records_from : (room : ℕ) → Listed
  records_from room = on_pages (λ r. listed.Refused r 0) (λ n. records_at (record_at g dump) g.layout.«data» cells o n room) (opened_of g (length dump))
