-- Listing the live objects and counting all objects by the index, on any cells (document 01, "Index" and the refusal table's last sentences).
-- The table of objects is gone over slot by slot, and of each object the links are met that a size lookup of it meets: those down to its newest
-- header.
use Rattle.std.specs.Prelude.{ℕ, Bool, true, false, ◌&&◌, List, [], length, eqb, ltb, Result, Ok, Err}
use Rattle.page.specs.declared.refusal.Refusal.{Refusal}
use Rattle.page.specs.Choice.{pick}
use Rattle.page.specs.Search.{count}
use Rattle.page.specs.Records.{is_header, record_at}
use Rattle.page.specs.Lengths.{opened_of}
use Rattle.page.specs.declared.record.Record.{Record}
use Rattle.page.specs.declared.geometry.Geometry.{Geometry}
use Rattle.page.specs.declared.refusal.Refusal.TheVariants.{ShortIndex, IndexDamaged}
use Rattle.chunk.specs.Records.{is_gone}
use Rattle.chunk.specs.Answers.{on_pages}
use Rattle.chunk.specs.Live.{ids_of}
use Rattle.chunk.specs.Lists.{listed_by}
use Rattle.chunk.specs.Listed.{Listed}
use Rattle.chunk.specs.Listed as listed
use Rattle.index.specs.Cells.{cells_for, slots_for, keys}
use Rattle.index.specs.Slots.{slot_of, used}
use Rattle.index.specs.Chains.{Trace, clean, broken, rec}
use Rattle.index.specs.Walks.{chain_of}
use Rattle.index.specs.declared.list.Ask.{Ask}
use Rattle.index.specs.declared.list.Ask.TheVariants.{Live, Any}
use Rattle.index.specs.declared.list.Standing.{Standing}
use Rattle.index.specs.declared.list.Standing.TheVariants.{Asked, Damaged, Other}

-- whether every object with a record is asked for, and not the live ones alone
abbrev pub is_any : Ask → Bool
is_any Live = false
is_any Any = true

abbrev pub is_asked : Standing → Bool
is_asked Asked = true
is_asked Damaged = false
is_asked Other = false

abbrev pub is_damaged : Standing → Bool
is_damaged Asked = false
is_damaged Damaged = true
is_damaged Other = false

-- how an object stands by its newest header, which is this record: it is live if the parent is neither 3 nor 4
abbrev pub headed_standing : Ask → Record → Standing
headed_standing ask r = pick (is_any ask) Asked (pick (is_gone r) Other Asked)

-- and without a header: one with data records only is an object too
abbrev pub headless_standing : Ask → Bool → Standing
headless_standing ask hasRecord = pick (is_any ask && hasRecord) Asked Other

-- how an object stands by its chain from here on, of which a record was met before or not: its newest header decides, and a link that is damaged
-- before that
unfoldable pub stands : Ask → (ℕ → Record) → Bool → Trace → Standing
stands ask says met clean = headless_standing ask met
stands ask says met broken = Damaged
stands ask says met (rec q t) = pick (is_header (says q)) (headed_standing ask (says q)) (stands ask says true t)

-- whether slot s is used, and is where its object is looked for
abbrev pub is_own : (cells : List ℕ) (pages slot : ℕ) → Bool
is_own cells n s = used (keys cells) s && eqb (slot_of n cells (keys cells s)) s

-- the objects asked for, on the cells of n pages
module _ (ask : Ask) (says : ℕ → Record) (P : ℕ) (cells : List ℕ) (n : ℕ) where
  -- how object o stands, by its whole chain
  abbrev pub standing_of : ℕ → Standing
  standing_of o = stands ask says false (chain_of says P cells o n)

  -- how the object of slot s stands, if that is its slot
  unfoldable pub standing_at : ℕ → Standing
  standing_at s = pick (is_own cells n s) (standing_of (keys cells s)) Other

  abbrev pub asked_slot : ℕ → Bool
  asked_slot s = is_asked (standing_at s)

  abbrev pub damaged_slot : ℕ → Bool
  damaged_slot s = is_damaged (standing_at s)

  -- their ids, ascending
  unfoldable pub slot_ids : List ℕ
  slot_ids = ids_of asked_slot (keys cells) (slots_for n)

  -- how many they are, if no damaged link is met
  unfoldable pub tally_in : Result ℕ Refusal
  tally_in = pick (ltb 0 (count damaged_slot (slots_for n))) (Err IndexDamaged) (Ok (count asked_slot (slots_for n)))

-- the calls on the cells of n pages
module _ (says : ℕ → Record) (P : ℕ) (cells : List ℕ) (n : ℕ) where
  -- listing the live objects into so many words
  unfoldable pub list_in : ℕ → Listed
  list_in room =
      pick (ltb (length cells) (cells_for n)) (listed.Refused ShortIndex 0)
      (pick (ltb 0 (count (damaged_slot Live says P cells n) (slots_for n))) (listed.Refused IndexDamaged 0)
      (listed_by room (slot_ids Live says P cells n)))

  -- counting all objects
  unfoldable pub objects_in : Result ℕ Refusal
  objects_in = pick (ltb (length cells) (cells_for n)) (Err ShortIndex) (tally_in Any says P cells n)

-- the calls on a dump, by any cells
module _ (g : Geometry) (dump cells : List ℕ) where
  -- the live ids; none where the dump is refused
  unfoldable pub ids_from : List ℕ
  ids_from = on_pages (λ r. []) (λ n. slot_ids Live (record_at g dump) g.layout.«data» cells n) (opened_of g (length dump))

  unfoldable pub list_from : ℕ → Listed
  list_from room = on_pages (λ r. listed.Refused r 0) (λ n. list_in (record_at g dump) g.layout.«data» cells n room) (opened_of g (length dump))

  unfoldable pub objects_from : Result ℕ Refusal
  objects_from = on_pages (λ r. Err r) (λ n. objects_in (record_at g dump) g.layout.«data» cells n) (opened_of g (length dump))
