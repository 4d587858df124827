-- The search for an object's newest header along its records: its turns, and what it finds. The records stand the newest first, so that the first
-- header is the newest, and the data before it is what was written since: so the size that both give is that of a walk along the records.
use Prim.Native.Nat.{ℕ, ◌+◌, ◌≤◌, ◌<◌, max}
use Rattle.std.specs.Prelude.{Option, Some, None, is_some}
use Rattle.page.specs.declared.number.PageNumber.{PageNumber}
use mathlib.Core.Bool.{Bool, true, false, not}
use mathlib.Core.List.{List, [], ◌∷◌, map}
use mathlib.Core.Path.{◌≡◌, refl, ap}
use native.Mathlib.Numerals.{add-one}
use lib.Dec.{eqb}
use lib.ListN.{length, drop, get_or, drop_of_length-le}
use lib.Seq.{drop-cons}
use Rattle.page.specs.Records.{is_header}
use Rattle.page.specs.declared.record.Record.{Record}
use Rattle.page.proofs.Searching.{by_test}
use Rattle.sort.specs.Packed.{value_of}
use Rattle.chunk.specs.Sizes.{end_of}
use Rattle.chunk.specs.Lookups.{file_at}
use Rattle.chunk.specs.Records.{is_gone, is_file}
use Rattle.index.specs.Held.{from_list}
use Rattle.index.specs.Walks.{size_file, size_at, size_reached, reach, size_walk}
use Rattle.compare.specs.Heads.{Head, At, head_from, page_of, size_by}
use Rattle.compare.specs.Differences.{lacks}
use Rattle.compare.specs.Sides.{first_header}
use Rattle.compare.specs.Views.{size_in}

module _ (says : ℕ → Record) (P end : ℕ) (order : List ℕ) (i : ℕ) where
  -- the records from place i on
  abbrev pub on : List ℕ
  on = map value_of (drop i order)

  abbrev q : ℕ
  q = value_of (get_or order i 0)

  -- the first of them is page q
  next : i < length order → on ≡ q ∷ map value_of (drop (i + 1) order)
  next h = rw add-one (ap (map value_of) (drop-cons order i 0 h))

  -- none is left: there is no header
  pub head_none : length order ≤ i → head_from says P end on ≡ None
  unfolding head_from
  head_none h = rw (drop_of_length-le order h)

  -- page q is one: it is found
  pub head_here : i < length order → is_header (says q) ≡ true → head_from says P end on ≡ At q end
  unfolding head_from
  head_here h t = rw (next h, t)

  -- it is none: the search goes on, with its end if it is data
  pub head_on_lem : i < length order → is_header (says q) ≡ false → head_from says P end on ≡ head_from says P (max (end_of P (says q)) end) (map value_of (drop (i + 1) order))
  unfolding head_from
  head_on_lem h t = rw (next h, t)

-- whether there is none
pub head_lacks : (h : Head) (t : Bool) → is_some h ≡ not t → lacks (page_of h) ≡ t
head_lacks None true e = refl
head_lacks None false e = cc
head_lacks (Some q) true e = cc
head_lacks (Some q) false e = refl

-- the header that is found is the first one
pub head_page : (says : ℕ → Record) (P : ℕ) (L : List ℕ) (end : ℕ) → page_of (head_from says P end L) ≡ first_header says L
unfolding head_from first_header
head_page says P [] end = refl
head_page says P (p ∷ L) end = by_test (is_header (says p)) _ (λ t. rw t) (λ t. rw t (head_page says P L _))

-- and the size that it gives with the data above it is the size by a walk along the records
size_found : (says : ℕ → Record) (h end v : ℕ) → size_in (size_file (size_at says h end) (file_at (says h) h v)) ≡ size_by says (At h end)
unfolding file_at
size_found says h end v =
    by_test (is_gone (says h)) _ (λ t. rw t) (λ t. rw t (by_test (is_file (says h)) _ (λ u. rw u) (λ u. rw u)))

-- on the way as well, with any end so far
pub head_reached :
    (says : ℕ → Record) (P c : ℕ) (L : List ℕ) (end : ℕ) (m : Option PageNumber) (v : ℕ) →
    size_in (size_reached says (reach says P c end m v (from_list L))) ≡ size_by says (head_from says P end L)
unfolding size_reached reach from_list head_from
head_reached says P c [] end m v = by_test (eqb v 0) _ (λ t. rw t) (λ t. rw t)
head_reached says P c (p ∷ L) end m v =
    by_test (is_header (says p)) _ (λ t. rw t (size_found says p end (v + 1))) (λ t. rw t (head_reached says P c L _ _ _))

-- and so for the whole walk
pub head_size : (says : ℕ → Record) (P : ℕ) (L : List ℕ) → size_in (size_walk says P (from_list L)) ≡ size_by says (head_from says P 0 L)
unfolding size_walk
head_size says P L = head_reached says P 0 L 0 None 0
