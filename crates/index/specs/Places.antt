-- Where the link to a page goes in the chain of its object (document 01, "Index" and the refusal table).
use Rattle.std.specs.Prelude.{ℕ, ◌≤◌, ◌<◌, ◌^◌, List, ◌≡◌, length, eqb, leb, Result, Ok, Err}
use Rattle.page.specs.declared.refusal.Refusal.{Refusal}
use Rattle.page.specs.Choice.{pick}
use Rattle.page.specs.declared.record.Record.{Record}
use Rattle.page.specs.declared.refusal.Refusal.TheVariants.{IndexDamaged, AlreadyAdded}
use Rattle.chunk.specs.Records.{age_of}
use Rattle.index.specs.Cells.{cells_for, link_at}
use Rattle.index.specs.Chains.{objects, top, Trace, clean, broken, rec, trace}

-- where the link to page p goes in a chain whose first link stands at a place: the link to the first record not newer than p, or the last.
-- Every link down to there is met
unfoldable pub place_of : (age : ℕ → ℕ) (page : ℕ) → Trace → (at : ℕ) → Result ℕ Refusal
place_of age p clean at = Ok at
place_of age p broken at = Err IndexDamaged
place_of age p (rec q rest) at =
    let below = place_of age p rest (link_at q) in
    pick (leb (age q) (age p)) (pick (eqb q p) (Err AlreadyAdded) (Ok at)) below

-- a place is one of so many words
abbrev pub Within : ℕ → Result ℕ Refusal → Type 0
Within n (Ok at) = at < n
Within n (Err r) = Unit {0}

-- the place of page p in the chain of object o from the link w, which stands at a place, where the n pages say this
abbrev pub place_from : (says : ℕ → Record) (pages : ℕ) (cells : List ℕ) (object page link at : ℕ) → Result ℕ Refusal
place_from says n c o p w at = place_of (age_of says) p (trace n (objects says) (age_of says) c o top w) at

-- page p is a record of object o and of this age, in a dump of n pages whose index has room
pub record Recorded (says : ℕ → Record) (n : ℕ) (c : List ℕ) (o p age : ℕ) : Type 0 where
  pub few : n ≤ 2 ^ 31
  pub inside : p < n
  pub room : cells_for n ≤ length c
  pub some : 0 < o
  pub own : o ≡ objects says p
  pub aged : age ≡ age_of says p
