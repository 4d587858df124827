-- What the cells of our own calls hold: exactly the added pages, each object's records in a chain of their own.
-- Everything above speaks of this predicate, and not of cells.
use Rattle.std.specs.Prelude.{ℕ, zero, suc, ◌≤◌, ◌<◌, ◌≡◌, Bool, false, ◌||◌, List, [], ◌∷◌, length, eqb, leb}
use Rattle.page.specs.Choice.{pick}
use Rattle.page.specs.Search.{count}
use Rattle.index.specs.Cells.{cells_for, slots_for, keys, is_marked}
use Rattle.index.specs.Slots.{slot_of, used}
use Rattle.index.specs.Chains.{Trace, clean, rec, chain}

-- the pages not yet added read as blank: they are no records
abbrev pub seen : (ℕ → ℕ) → (ℕ → Bool) → ℕ → ℕ
seen obj added p = pick (added p) (obj p) 0

-- no page has been added
abbrev pub none_added : ℕ → Bool
none_added p = false

-- page p added too
abbrev pub with : (page : ℕ) (added : ℕ → Bool) → ℕ → Bool
with p added x = eqb x p || added x

-- page p put into a list that has the newest first
unfoldable pub insert : (age : ℕ → ℕ) (page : ℕ) (sorted : List ℕ) → List ℕ
insert age p [] = p ∷ []
insert age p (q ∷ qs) = let r = insert age p qs in pick (leb (age q) (age p)) (p ∷ q ∷ qs) (q ∷ r)

-- the records of object o among the first n pages, the newest first
unfoldable pub recs : (obj age : ℕ → ℕ) (object pages : ℕ) → List ℕ
recs obj age o zero = []
recs obj age o (suc p) = pick (eqb (obj p) o) (insert age p (recs obj age o p)) (recs obj age o p)

-- the chain that has exactly these records
unfoldable pub from_list : List ℕ → Trace
from_list [] = clean
from_list (q ∷ qs) = rec q (from_list qs)

-- the cells hold exactly the added pages
pub record Held (n : ℕ) (obj age : ℕ → ℕ) (added : ℕ → Bool) (c : List ℕ) : Type 0 where
  -- there are words for every page
  pub room : cells_for n ≤ length c
  -- a page is marked exactly if it has been added
  pub marks : (p : ℕ) → p < n → is_marked c p ≡ added p
  -- the chain of an object is its added records, the newest first
  pub chains : (o : ℕ) → 0 < o → chain n obj age c o ≡ from_list (recs (seen obj added) age o n)
  -- a used slot is the slot of its object
  pub homes : (s : ℕ) → s < slots_for n → (keys c s ≡ 0 → ⊥) → slot_of n c (keys c s) ≡ s
  -- no more slots are used than pages have been added
  pub spare : count (used (keys c)) (slots_for n) ≤ count added n
