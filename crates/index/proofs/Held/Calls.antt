-- The index of a dump, call by call: what a start and an addition of any request leave, where the cells hold exactly the added pages. The
-- page count goes by layout and length alone, so that each call may name a K of its own; and each may be lent as many of the words as it
-- likes, if they are enough. A refused call changes nothing, on any cells.
use Prim.Native.Nat.{ℕ, ◌≤◌, ◌<◌}
use Rattle.std.specs.Prelude.{Result, Ok, Err}
use mathlib.Core.Bool.{Bool, true, false}
use mathlib.Core.List.{List, ◌∷◌, ◌++◌}
use mathlib.Core.Path.{◌≡◌, refl, sym, ◌∙◌}
use native.Mathlib.Omega.{arith}
use lib.ListN.{length, take, drop}
use lib.Seq.{length-take-le}
use lib.Dec.{ltb, leb, eqb}
use Rattle.page.specs.Choice.{pick}
use Rattle.page.specs.Records.{record_at}
use Rattle.page.specs.Lengths.{opened_of}
use Rattle.page.specs.declared.geometry.Geometry.{Geometry}
use Rattle.page.specs.declared.refusal.Refusal.{Refusal}
use Rattle.page.proofs.Lengths.{opened_some}
use Rattle.page.proofs.Searching.{clash}
use Rattle.chunk.specs.Records.{age_of}
use Rattle.sort.specs.Ascending.{In}
use Rattle.index.specs.Cells.{cells_for, first_at, is_marked}
use Rattle.index.specs.Slots.{slot_of}
use Rattle.index.specs.Chains.{objects, top, chain}
use Rattle.index.specs.Places.{place_of}
use Rattle.index.specs.Additions.{Outcome, start_in, start_of, add_other, add_at, add_record, add_to, add_in, add_of}
use Rattle.index.specs.Held.{seen, none_added, with, recs, Held}
use Rattle.index.proofs.Sorted.Records.{recs_in, recs_of}
use Rattle.index.proofs.Chain.Insertion.{Falls, falls_in, trace_falls}
use Rattle.index.proofs.Held.Stores.{seen_of}
use Rattle.index.proofs.Held.Cases.{start_done}
use Rattle.index.proofs.Held.Additions.{answer_to, add_keeps, start_holds}
use Rattle.index.proofs.Held.Slices.{held_part, held_whole}
use Rattle.index.proofs.Sorted.Order.{ages_differ, ages_below}

-- ---- what the chains of held cells are

module _ (n : ℕ) (obj age : ℕ → ℕ) (added : ℕ → Bool) (c : List ℕ) (g : Held n obj age added c) (o : ℕ) (pos : 0 < o) where
  abbrev L : List ℕ
  L = recs (seen obj added) age o n

  -- strictly from newest to oldest
  pub held_falls : Falls age top L
  unfolding chain
  held_falls = trace_falls n obj age c o L top _ (g.chains o pos)

  -- exactly the object's added records
  pub held_in_lem : (x : ℕ) → x < n → obj x ≡ o → added x ≡ true → In x L
  held_in_lem x h e m = recs_in (seen obj added) age o n x h (simp m e)

  pub held_of : (x : ℕ) → In x L → (x < n) × (obj x ≡ o) × (added x ≡ true)
  held_of x i =
      let r = recs_of (seen obj added) age o n x i in
      let s = seen_of obj added o x pos r.1 in
      (r.0, s.0, s.1)

  -- no other chain has one of them
  pub held_apart : (o' x : ℕ) → In x L → In x (recs (seen obj added) age o' n) → o ≡ o'
  held_apart o' x i j = sym (recs_of (seen obj added) age o n x i).1 ∙ (recs_of (seen obj added) age o' n x j).1

-- a list that falls has each of its records once
pub falls_once : (age : ℕ → ℕ) (b q : ℕ) (L : List ℕ) → Falls age b (q ∷ L) → In q L → ⊥
falls_once age b q L f i = let k = falls_in age q L (age q) f.1 i in absurd (omega arith)

-- ---- a refused call changes nothing

module _ (c : List ℕ) where
  abbrev Unchanged : Outcome → Type 0
  Unchanged x = (r : Refusal) → x.answer ≡ Err r → x.cells ≡ c

  either : (t : Bool) (x y : Outcome) → Unchanged x → Unchanged y → Unchanged (pick t x y)
  either true x y h k = h
  either false x y h k = k

  stored : (d : List ℕ) → Unchanged (record { answer = (Ok tt); cells = d })
  stored d r e = clash (cc)

  start_in_refused : (seed : ℕ) (x : (Result ℕ Refusal)) → Unchanged (start_in x seed c)
  unfolding start_in
  start_in_refused seed (Err s) = λ r e. refl
  start_in_refused seed (Ok n) = either (ltb (length c) (cells_for n)) _ _ (λ r e. refl) (stored _)

  module _ (p : ℕ) where
    at_refused : (o s : ℕ) (x : (Result ℕ Refusal)) → Unchanged (add_at c p o s x)
    unfolding add_at
    at_refused o s (Err s') = λ r e. refl
    at_refused o s (Ok i) = either (is_marked c p) _ _ (λ r e. refl) (stored _)

    to-refused : (n : ℕ) (obj age : ℕ → ℕ) → Unchanged (add_to n obj age c p)
    unfolding add_to add_other add_record
    to-refused n obj age =
        either (ltb (length c) (cells_for n)) _ _ (λ r e. refl)
        (either (leb n p) _ _ (λ r e. refl)
        (either (eqb (obj p) 0) _ _ (either (is_marked c p) _ _ (λ r e. refl) (stored _))
        (at_refused (obj p) (slot_of n c (obj p)) (place_of age p (chain n obj age c (obj p)) (first_at (slot_of n c (obj p)))))))

  module _ (g : Geometry) (dump : List ℕ) where
    pub start_refused : (seed : ℕ) (r : Refusal) → (start_of g dump c seed).answer ≡ Err r → (start_of g dump c seed).cells ≡ c
    unfolding start_of
    start_refused seed = start_in_refused seed (opened_of g (length dump))

    pub add_refused : (p : ℕ) (r : Refusal) → (add_of g dump c p).answer ≡ Err r → (add_of g dump c p).cells ≡ c
    unfolding add_of add_in
    add_refused p = go (opened_of g (length dump))
      where
        go : (x : (Result ℕ Refusal)) → Unchanged (add_in x (record_at g dump) c p)
        go (Err s) = λ r e. refl
        go (Ok n) = to-refused p n (objects (record_at g dump)) (age_of (record_at g dump))

-- ---- the index of a dump

module _ (g : Geometry) (dump : List ℕ) (n : ℕ) (e : opened_of g (length dump) ≡ Ok n) where
  abbrev obj : ℕ → ℕ
  obj = objects (record_at g dump)

  abbrev age : ℕ → ℕ
  age = age_of (record_at g dump)

  -- the cells hold exactly these added pages of the dump
  abbrev Holds : (ℕ → Bool) → List ℕ → Type 0
  Holds added c = Held n obj age added c

  pos : 0 < n
  pos = opened_some g (length dump) n e

  -- a start that is lent enough words makes the index hold no page
  pub start_kept :
      (c : List ℕ) (seed : ℕ) →
      cells_for n ≤ length c →
      ((start_of g dump c seed).answer ≡ (Ok tt)) × Holds none_added (start_of g dump c seed).cells
  unfolding start_of
  start_kept c seed h = rw (e, start_done n c seed h) (refl, start_holds n obj age pos c seed h)

  -- an addition is Done the first time and AlreadyAdded afterwards, and the cells hold the page then
  pub add_kept :
      (added : ℕ → Bool) (c : List ℕ) →
      Holds added c →
      (p : ℕ) →
      p < n →
      ((add_of g dump c p).answer ≡ answer_to (added p)) × Holds (with p added) (add_of g dump c p).cells
  unfolding add_of add_in
  add_kept added c held p h = rw e (add_keeps n obj age (ages_differ g dump n e) (ages_below g dump n e) added c held p h)

  -- the same where the call was lent the first `len` words
  pub add_lent :
      (added : ℕ → Bool) (c : List ℕ) →
      Holds added c →
      (p : ℕ) →
      p < n →
      (len : ℕ) →
      cells_for n ≤ len →
      len ≤ length c →
      ((add_of g dump (take len c) p).answer ≡ answer_to (added p)) × Holds (with p added) ((add_of g dump (take len c) p).cells ++ drop len c)
  add_lent added c held p h len enough short =
      let r = add_kept added (take len c) (held_part n obj age pos added c len enough short held) p h in
      (r.0, held_whole n obj age pos (with p added) c len enough short (add_of g dump (take len c) p).cells r.1)

  pub start_lent :
      (c : List ℕ) (seed len : ℕ) →
      cells_for n ≤ len →
      len ≤ length c →
      ((start_of g dump (take len c) seed).answer ≡ (Ok tt)) × Holds none_added ((start_of g dump (take len c) seed).cells ++ drop len c)
  start_lent c seed len enough short =
      let r = start_kept (take len c) seed (rw (length-take-le len c short) enough) in
      (r.0, held_whole n obj age pos none_added c len enough short (start_of g dump (take len c) seed).cells r.1)
