-- What starting an index and adding a page answer and store, on any cells (document 01, "Index" and the refusal table).
use Rattle.std.specs.Prelude.{ℕ, List, ◌++◌, length, set, drop, replicate, eqb, leb, ltb, Result, Ok, Err}
use Rattle.page.specs.Choice.{pick}
use Rattle.page.specs.Lengths.{opened_of}
use Rattle.page.specs.Records.{record_at}
use Rattle.page.specs.declared.record.Record.{Record}
use Rattle.page.specs.declared.geometry.Geometry.{Geometry}
use Rattle.page.specs.declared.refusal.Refusal.{Refusal}
use Rattle.page.specs.declared.refusal.Refusal.TheVariants.{ShortIndex, BadPage, AlreadyAdded}
use Rattle.chunk.specs.Records.{age_of}
use Rattle.index.specs.Cells.{cells_for, link_at, first_at, is_marked, last, linked, claimed, seed_at}
use Rattle.index.specs.Slots.{slot_of}
use Rattle.index.specs.Chains.{objects, chain}
use Rattle.index.specs.Places.{place_of}

-- what a call answers, and the cells that it leaves
pub record Outcome : Type 0 where
  pub answer : Result Unit Refusal
  pub cells : List ℕ

abbrev pub outcome : Result Unit Refusal → List ℕ → Outcome
outcome r c = record { answer = r; cells = c }

-- a refused call changes nothing
abbrev pub refused : Refusal → List ℕ → Outcome
refused r c = outcome (Err r) c

-- the words of n pages made empty, whatever they held, with a seed
abbrev pub emptied : (pages seed : ℕ) (cells : List ℕ) → List ℕ
emptied n w c = set (replicate (cells_for n) 0 ++ drop (cells_for n) c) seed_at w

-- starting an index of a dump
unfoldable pub start_in : Result ℕ Refusal → (seed : ℕ) (cells : List ℕ) → Outcome
start_in (Err r) w c = refused r c
start_in (Ok n) w c = pick (ltb (length c) (cells_for n)) (refused ShortIndex c) (outcome (Ok tt) (emptied n w c))

unfoldable pub start_of : Geometry → (dump cells : List ℕ) (seed : ℕ) → Outcome
start_of g dump c w = start_in (opened_of g (length dump)) w c

-- a page that is no record is marked
unfoldable pub add_other : (cells : List ℕ) (page : ℕ) → Outcome
add_other c p = pick (is_marked c p) (refused AlreadyAdded c) (outcome (Ok tt) (set c (link_at p) last))

-- a record of object o is put into the object's chain, whose slot is s
unfoldable pub add_at : (cells : List ℕ) (page object slot : ℕ) → Result ℕ Refusal → Outcome
add_at c p o s (Err r) = refused r c
add_at c p o s (Ok at) = pick (is_marked c p) (refused AlreadyAdded c) (outcome (Ok tt) (linked (claimed c s o) p at))

module _ (n : ℕ) (obj age : ℕ → ℕ) where
  unfoldable pub add_record : (cells : List ℕ) (page : ℕ) → Outcome
  add_record c p =
      let s = slot_of n c (obj p) in
      add_at c p (obj p) s (place_of age p (chain n obj age c (obj p)) (first_at s))

  -- adding page p of n
  unfoldable pub add_to : (cells : List ℕ) (page : ℕ) → Outcome
  add_to c p =
      pick (ltb (length c) (cells_for n)) (refused ShortIndex c)
      (pick (leb n p) (refused BadPage c)
      (pick (eqb (obj p) 0) (add_other c p)
      (add_record c p)))

unfoldable pub add_in : Result ℕ Refusal → (says : ℕ → Record) (cells : List ℕ) (page : ℕ) → Outcome
add_in (Err r) says c p = refused r c
add_in (Ok n) says c p = add_to n (objects says) (age_of says) c p

-- adding page p of a dump
unfoldable pub add_of : Geometry → (dump cells : List ℕ) (page : ℕ) → Outcome
add_of g dump c p = add_in (opened_of g (length dump)) (record_at g dump) c p
