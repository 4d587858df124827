-- The chain of an object, on any cells: what the links say (document 01, "Index").
-- There are n pages; `obj` gives the object of a page, 0 for one that is no record, and `age` its place in the order of records.
use Rattle.std.specs.Prelude.{ℕ, zero, suc, ◌-◌, Bool, not, ◌&&◌, List, eqb, ltb}
use Rattle.page.specs.Choice.{pick}
use Rattle.page.specs.declared.record.Record.{Record}
use Rattle.page.specs.declared.record.Record.TheVariants as said
use Rattle.chunk.specs.Records.{object_of, order_of}
use Rattle.index.specs.Cells.{word, link_at}
use Rattle.index.specs.Slots.{first}
use Rattle.page.specs.declared.number.PageNumber.{PageNumber}
use Rattle.index.specs.declared.chains.Role.{Role}
use Rattle.index.specs.declared.chains.Role.TheVariants as role
use Rattle.index.specs.declared.chains.Step.{Step}
use Rattle.index.specs.declared.chains.Step.TheVariants as step

-- the objects of the pages that say this
abbrev pub objects : (ℕ → Record) → ℕ → ℕ
objects says p = object_of (says p)

-- an age that is above that of every record
abbrev pub top : ℕ
top = 18446744073709551615

-- where a link leads: nowhere, where it may not, or to a record and its age
pub data Lead : Type 0 where
  End : Lead
  Damaged : Lead
  To : PageNumber → ℕ → Lead

-- what a record is on its chain: a header, or data; no link leads to another page
abbrev pub role_of : Record → Role
role_of said.Other = role.Header
role_of (said.Header h) = role.Header
role_of (said.Data d) = role.Data d

-- the step down a chain by such a link
unfoldable pub step_of : (says : ℕ → Record) → Lead → Step
step_of says End = step.End
step_of says Damaged = step.Damaged
step_of says (To q a) = step.Record q a (role_of (says q.0))

-- the step to page q, a record of this object and sequence, in the chain of object o below the age b
abbrev pub step_at : (page object sequence : ℕ) → Role → (chain bound : ℕ) → Step
step_at q object sequence r o b =
    pick (eqb object o)
    (pick (ltb (order_of sequence q) b) (step.Record (record { 0 = q }) (order_of sequence q) r)
    step.Damaged) step.Damaged

-- the records that the links lead to, from the newest on: an end, a link that is damaged, or a record and the rest
pub data Trace : Type 0 where
  clean : Trace
  broken : Trace
  rec : ℕ → Trace → Trace

-- by where the next link leads; the rest is the chain from a page and below its age
abbrev pub by : Lead → (ℕ → ℕ → Trace) → Trace
by End rest = clean
by Damaged rest = broken
by (To q a) rest = rec q.0 (rest q.0 a)

-- whether a page that has the object x is a record of object o
abbrev pub is_record_of : (chain object : ℕ) → Bool
is_record_of o x = not (eqb x 0) && eqb x o

module _ (n : ℕ) (obj age : ℕ → ℕ) where
  -- where the link w leads in the chain of object o below the age b. It is damaged if it leads outside the dump, to a page that is not a
  -- record of that object, or to one that is not older
  unfoldable pub lead_of : (chain bound link : ℕ) → Lead
  lead_of o b w =
      pick (ltb w 2) End
      (pick (ltb (w - 2) n)
      (pick (is_record_of o (obj (w - 2)))
      (pick (ltb (age (w - 2)) b) (To (record { 0 = w - 2 }) (age (w - 2)))
      Damaged) Damaged) Damaged)

  -- the chain of object o below the age b from the link w, by at most so many steps
  unfoldable pub trace_by : (cells : List ℕ) (chain steps bound link : ℕ) → Trace
  trace_by c o zero b w = by (lead_of o b w) (λ q a. broken)
  trace_by c o (suc f) b w = by (lead_of o b w) (λ q a. trace_by c o f a (word c (link_at q)))

  -- the chain of object o below the age b from the link w. Ages fall along it, so that it has at most b steps
  unfoldable pub trace : (cells : List ℕ) (chain bound link : ℕ) → Trace
  trace c o b w = trace_by c o b b w

  -- the chain of object o: what the stored links give from its stored first record
  unfoldable pub chain : (cells : List ℕ) (object : ℕ) → Trace
  chain c o = trace c o top (first n c o)
