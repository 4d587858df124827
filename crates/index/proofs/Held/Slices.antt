-- What the cells hold goes by their first words alone, so that a call may be lent any part of the cells that has these. What a call on a part
-- leaves, followed by the words that it was not lent, holds what the call left.
use Prim.Native.Nat.{ℕ, ◌+◌, ◌-◌, ◌≤◌, ◌<◌}
use mathlib.Core.Bool.{Bool, not}
use mathlib.Core.List.{List, ◌++◌}
use mathlib.Core.Path.{◌≡◌, refl, sym, ap, ◌∙◌}
use native.Mathlib.Omega.{arith}
use lib.ListN.{length, take, drop, length-append, get_or-append}
use lib.Seq.{get_or-take, get_or-append-add, length-take-le}
use lib.Dec.{eqb, ltb}
use borrow.Author.Tests.{ltb-true, ltb-false}
use Rattle.page.proofs.Searching.{by_test}
use Rattle.index.specs.Cells.{cells_for, slots_for, word, link_at, key_at, first_at, seed_at, keys}
use Rattle.index.specs.Slots.{serves, slot_of, first_in, first, used}
use Rattle.index.specs.Chains.{trace, chain, top}
use Rattle.index.specs.Held.{Held}
use Rattle.index.proofs.Chain.Links.{frame}
use Rattle.index.proofs.Slot.Counts.{count_same}
use Rattle.index.proofs.Slot.Words.{key_inside, first_inside}
use Rattle.index.proofs.Slot.Search.{slot_lt, slot_same}

-- a word behind the first of two lists
pub word_past : (c d : List ℕ) (i : ℕ) → length c ≤ i → word (c ++ d) i ≡ word d (i - length c)
word_past c d i h =
    let e : length c + (i - length c) ≡ i = omega arith in
    ap (word (c ++ d)) (sym e) ∙ get_or-append-add c d (i - length c) 0

-- a word of two lists, the first of which has another of its length in its place with the same word there
pub word_swap : (c c' d : List ℕ) (i : ℕ) → length c ≡ length c' → word c i ≡ word c' i → word (c ++ d) i ≡ word (c' ++ d) i
word_swap c c' d i e h =
    by_test (ltb i (length c)) _
    (λ t.
    let k : i < length c = ltb-true _ _ t in
    get_or-append c d 0 i k ∙ h ∙ sym (get_or-append c' d 0 i (omega arith)))
    (λ t.
    let k : length c ≤ i = ltb-false _ _ t in
    word_past c d i k ∙ ap (λ (m : ℕ). word d (i - m)) e ∙ sym (word_past c' d i (omega arith)))

module _
    (n : ℕ) (obj age : ℕ → ℕ) (pos : 0 < n) (c c' : List ℕ)
    (same : (i : ℕ) → i < cells_for n → word c' i ≡ word c i)
  where
    slot_lent : (o : ℕ) → slot_of n c' o ≡ slot_of n c o
    slot_lent o = slot_same n c c' (same seed_at (omega arith)) o pos (λ j jn. ap (serves o) (same (key_at j) (key_inside n j jn)))

    first-lent : (o : ℕ) → first n c' o ≡ first n c o
    unfolding first first_in
    first-lent o =
        let s = slot_lt n c o pos in
        rw (slot_lent o, same (key_at (slot_of n c o)) (key_inside n _ s), same (first_at (slot_of n c o)) (first_inside n _ s)) refl

    -- the chains of cells with the same first words are the same
    pub chain_lent : (o : ℕ) → chain n obj age c' o ≡ chain n obj age c o
    unfolding chain
    chain_lent o =
        ap (trace n obj age c' o top) (first-lent o)
        ∙ frame n obj age o c' c top (first n c o) (λ x xn _ _. same (link_at x) (omega arith))

    -- and they hold the same pages
    pub held_lent : (added : ℕ → Bool) → cells_for n ≤ length c' → Held n obj age added c → Held n obj age added c'
    held_lent added room g = record {
      room = room;
      marks = λ p pn. ap (λ (v : ℕ). not (eqb v 0)) (same (link_at p) (omega arith)) ∙ g.marks p pn;
      chains = λ o po. chain_lent o ∙ g.chains o po;
      homes = λ j jn k.
          let e : keys c' j ≡ keys c j = same (key_at j) (key_inside n j jn) in
          slot_lent (keys c' j) ∙ rw e (g.homes j jn (λ z. k (e ∙ z)));
      spare = rw (count_same (used (keys c)) (used (keys c')) (slots_for n) (λ i l. ap (λ (v : ℕ). not (eqb v 0)) (same (key_at i) (key_inside n i l)))) g.spare;
    }

-- the first `len` words are lent
module _ (n : ℕ) (obj age : ℕ → ℕ) (pos : 0 < n) (added : ℕ → Bool) (c : List ℕ) (len : ℕ) (enough : cells_for n ≤ len) (short : len ≤ length c) where
  pub held_part : Held n obj age added c → Held n obj age added (take len c)
  held_part = held_lent n obj age pos c (take len c) (λ i k. get_or-take len c i 0 (omega arith)) added (rw (length-take-le len c short) enough)

  pub held_whole : (c' : List ℕ) → Held n obj age added c' → Held n obj age added (c' ++ drop len c)
  held_whole c' g =
      held_lent n obj age pos c' (c' ++ drop len c)
      (λ i k. get_or-append c' (drop len c) 0 i (omega (arith, g.room)))
      added
      (simp length-append (omega (arith, g.room)))
      g
