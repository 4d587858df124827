-- An addition to cells that hold exactly the added pages is Done the first time a page comes, AlreadyAdded exactly when it comes again, and
-- never IndexDamaged; and the cells it leaves hold that page too. A record that was added is in its object's chain, so that it is met there;
-- one that was not has a place in it, for the chain has no damaged link. A slot is free for a new object, since no more slots are used
-- than pages were added, and this page was not.
use Prim.Native.Nat.{ℕ, suc, ◌+◌, ◌-◌, ◌*◌, ◌≤◌, ◌<◌}
use Rattle.std.specs.Prelude.{Result, Ok, Err}
use Rattle.page.specs.declared.refusal.Refusal.{Refusal}
use mathlib.Core.Bool.{Bool, true, false, not, ◌||◌}
use mathlib.Core.List.{List, ◌++◌}
use mathlib.Core.Logic.{⊎_elim}
use mathlib.Core.Path.{◌≡◌, refl, sym, ap, ◌∙◌, fun_ext}
use native.Mathlib.Nat.{le_refl}
use native.Mathlib.Decide.{ℕ_discrete}
use native.Mathlib.Omega.{arith}
use lib.ListN.{length, set, drop, replicate, get_or-replicate, get_or-append, length-set, length-replicate, length-append, length-drop}
use lib.Seq.{get_or-drop, get_or-set_other}
use lib.Dec.{eqb}
use borrow.Author.Tests.{eqb-true, ne_eqb}
use Rattle.page.specs.Search.{count}
use Rattle.page.specs.declared.refusal.Refusal.TheVariants.{AlreadyAdded}
use Rattle.page.proofs.Searching.{clash, by_test}
use Rattle.sort.specs.Ascending.{In}
use Rattle.index.specs.Cells.{cells_for, slots_for, word, link_at, link_to, marked, key_at, first_at, seed_at, keys, is_marked, last, linked, claimed}
use Rattle.index.specs.Slots.{slot_of, first_in, first, used}
use Rattle.index.specs.Chains.{Trace, chain, trace, top}
use Rattle.index.specs.Places.{place_of}
use Rattle.index.specs.Additions.{Outcome, outcome, refused, emptied, add_to}
use Rattle.index.specs.Held.{seen, none_added, with, recs, from_list, Held}
use Rattle.index.proofs.Chain.Links.{trace_end}
use Rattle.index.proofs.Sorted.Records.{recs_in, recs_of, recs_none}
use Rattle.index.proofs.Chain.Insertion.{spot, spot_form, place_spot, place_met, trace_falls}
use Rattle.index.proofs.Slot.Counts.{count_miss, count_nothing, count_same, count_more}
use Rattle.index.proofs.Slot.Words.{table_behind, key_inside, first_inside, slots_most}
use Rattle.index.proofs.Slot.Search.{slot_lt, slot_serves, first_none}
use Rattle.index.proofs.Held.Stores.{Sound, Owned, with_itself, with_other, out, link_key, link_sound, claim_own, claim_free, mark_key, mark_sound}
use Rattle.index.proofs.Held.Slices.{word_past}
use Rattle.index.proofs.Held.Cases.{other_marked, other_new, at_refused, at_new, add_other_lem, add_record_lem, record_at_lem}

-- what an addition to an index answers where a page has been added or not
abbrev pub answer_to : Bool → Result Unit Refusal
answer_to true = Err AlreadyAdded
answer_to false = Ok tt

or_left : (t u : Bool) → (t || u) ≡ true → u ≡ false → t ≡ true
or_left true u e f = refl
or_left false u e f = clash (cc)

module _
    (n : ℕ) (obj age : ℕ → ℕ)
    (inj : (x y : ℕ) → x < n → y < n → age x ≡ age y → x ≡ y)
    (old : (x : ℕ) → x < n → age x < top)
    (added : ℕ → Bool)
    (c : List ℕ)
    (g : Held n obj age added c)
    (p : ℕ)
    (pn : p < n)
  where
    abbrev o : ℕ
    o = obj p

    abbrev L : List ℕ
    L = recs (seen obj added) age o n

    abbrev s : ℕ
    s = slot_of n c o

    sound : Sound n obj age added c
    sound = record { room = g.room; marks = g.marks; chains = g.chains; homes = g.homes }

    -- the chain of its object
    from : 0 < o → trace n obj age c o top (first_in c s o) ≡ from_list L
    unfolding chain first
    from pos = g.chains o pos

    -- a page that comes again
    module _ (there : added p ≡ true) where
      marked-there : is_marked c p ≡ true
      marked-there = g.marks p pn ∙ there

      met : 0 < o → place_of age p (trace n obj age c o top (first_in c s o)) (first_at s) ≡ Err AlreadyAdded
      met pos =
          ap (λ (t : Trace). place_of age p t (first_at s)) (from pos)
          ∙ place_met age p L top (first_at s) (trace_falls n obj age c o L top (first_in c s o) (from pos))
          (recs_in (seen obj added) age o n p pn (simp there))

      again : Dec (o ≡ 0) → add_to n obj age c p ≡ refused AlreadyAdded c
      again (yes z) = add_other_lem n obj age c p g.room pn z ∙ other_marked c p marked-there
      again (no z) =
          add_record_lem n obj age c p g.room pn z
          ∙ sym (record_at_lem n obj age c p s o (Err AlreadyAdded) refl refl (sym (met (omega arith))))
          ∙ at_refused c p o s AlreadyAdded

      -- it is one of the added pages as before
      same : with p added ≡ added
      same = fun_ext (λ x. go x (ℕ_discrete x p))
        where
          go : (x : ℕ) → Dec (x ≡ p) → with p added x ≡ added x
          go x (yes q) = ap (with p added) q ∙ with_itself added p ∙ sym (ap added q ∙ there)
          go x (no q) = with_other added p x q

    -- a page that comes for the first time
    module _ (fresh : added p ≡ false) where
      unmarked : is_marked c p ≡ false
      unmarked = g.marks p pn ∙ fresh

      more : count (with p added) n ≡ suc (count added n)
      more = count_more added (with p added) p fresh (with_itself added p) (λ i ne. with_other added p i ne) n pn

      -- sound cells hold the pages if at most one slot more is used
      held : (c' : List ℕ) → Sound n obj age (with p added) c' → count (used (keys c')) (slots_for n) ≤ suc (count (used (keys c)) (slots_for n)) → Held n obj age (with p added) c'
      held c' h k = record { room = h.room; marks = h.marks; chains = h.chains; homes = h.homes; spare = omega (arith, more, g.spare) }

      keys-used : (c₁ c₂ : List ℕ) → ((j : ℕ) → keys c₂ j ≡ keys c₁ j) → count (used (keys c₂)) (slots_for n) ≡ count (used (keys c₁)) (slots_for n)
      keys-used c₁ c₂ h = count_same (used (keys c₁)) (used (keys c₂)) (slots_for n) (λ i _. ap (λ (v : ℕ). not (eqb v 0)) (h i))

      -- the page is no record
      module _ (z : o ≡ 0) where
        mark-answer : add_to n obj age c p ≡ outcome (Ok tt) (set c (link_at p) last)
        mark-answer = add_other_lem n obj age c p g.room pn z ∙ other_new c p unmarked

        mark-held : Held n obj age (with p added) (set c (link_at p) last)
        mark-held =
            held (set c (link_at p) last) (mark_sound n obj age added c sound p pn z fresh)
            (omega (arith, keys-used c (set c (link_at p) last) (mark_key n obj age added c sound p pn z fresh)))

      -- the page is a record
      module _ (pos : 0 < o) where
        -- its object's slot is its own or free
        owned : Dec (keys c s ≡ o) → Owned n obj age added o s (count (used (keys c)) (slots_for n)) (claimed c s o)
        owned (yes k) = claim_own n obj age added c sound o s pos (omega arith) (slot_lt n c o (omega arith)) refl k
        owned (no k) =
            let few : count (used (keys c)) (slots_for n) < slots_for n = omega (arith, g.spare, count_miss added p n pn fresh, slots_most n) in
            let free : keys c s ≡ 0 = eqb-true (keys c s) 0 (or_left _ _ (slot_serves n c o few) (ne_eqb (keys c s) o k)) in
            claim_free n obj age added c sound o s pos (omega arith) (slot_lt n c o (omega arith)) refl free

        abbrev c₁ : List ℕ
        c₁ = claimed c s o

        abbrev C : List ℕ
        C = linked c₁ p (spot age p L (first_at s))

        free-place : place_of age p (trace n obj age c o top (first_in c s o)) (first_at s) ≡ Ok (spot age p L (first_at s))
        free-place =
            ap (λ (t : Trace). place_of age p t (first_at s)) (from pos)
            ∙ place_spot age p L (first_at s) (out n obj age inj old added p pn fresh pos)

        link-answer : add_to n obj age c p ≡ outcome (Ok tt) C
        link-answer =
            add_record_lem n obj age c p g.room pn (λ z. absurd (omega arith))
            ∙ sym (record_at_lem n obj age c p s o (Ok (spot age p L (first_at s))) refl refl (sym free-place))
            ∙ at_new c p o s (spot age p L (first_at s)) unmarked

        link-held : Held n obj age (with p added) C
        link-held =
            let w = owned (ℕ_discrete (keys c s) o) in
            held C (link_sound n obj age inj old added p pn fresh pos c₁ w.sound s w.at w.own)
            (omega (arith, w.few, keys-used c₁ C (link_key n obj age inj old added p pn fresh pos c₁ w.sound s w.at w.own)))

    abbrev Next : Outcome → Type 0
    Next x = (x.answer ≡ answer_to (added p)) × Held n obj age (with p added) x.cells

    -- the one step of an index
    pub add_keeps : Next (add_to n obj age c p)
    add_keeps = go (added p) refl (ℕ_discrete o 0)
      where
        go : (t : Bool) → added p ≡ t → Dec (o ≡ 0) → Next (add_to n obj age c p)
        go true e d = rw (again e d) (ap answer_to (sym e), rw (same e) g)
        go false e (yes z) = rw (mark-answer e z) (ap answer_to (sym e), mark-held e z)
        go false e (no z) = let pos : 0 < o = omega arith in rw (link-answer e pos) (ap answer_to (sym e), link-held e pos)

    -- it stores to no word past the index
    module _ (i : ℕ) (past : cells_for n ≤ i) where
      claimed-past : word (claimed c s o) i ≡ word c i
      unfolding claimed
      claimed-past =
          let sn : s < slots_for n = slot_lt n c o (omega arith) in
          by_test (eqb (keys c s) o) _
          (λ t. rw t)
          (λ t.
          rw t
          (get_or-set_other (set c (key_at s) o) (first_at s) i 0 0 (λ e. absurd (omega (arith, first_inside n s sn)))
          ∙ get_or-set_other c (key_at s) i o 0 (λ e. absurd (omega (arith, key_inside n s sn)))))

      linked-past : (at : ℕ) → at < cells_for n → word (linked (claimed c s o) p at) i ≡ word c i
      unfolding linked
      linked-past at h =
          get_or-set_other (set (claimed c s o) (link_at p) (marked (word (claimed c s o) at))) at i (link_to p) 0 (λ e. absurd (omega arith))
          ∙ get_or-set_other (claimed c s o) (link_at p) i (marked (word (claimed c s o) at)) 0 (λ e. absurd (omega arith))
          ∙ claimed-past

      spot-inside : spot age p L (first_at s) < cells_for n
      spot-inside =
          let sn : s < slots_for n = slot_lt n c o (omega arith) in
          ⊎_elim
          (λ (e : spot age p L (first_at s) ≡ first_at s). omega (arith, first_inside n s sn))
          (λ (w : (x : ℕ) × In x L × (spot age p L (first_at s) ≡ link_at x)). omega (arith, (recs_of (seen obj added) age o n w.0 w.1).0, w.2))
          (spot_form age p L (first_at s))

      pub add_past : word (add_to n obj age c p).cells i ≡ word c i
      add_past = go (added p) refl (ℕ_discrete o 0)
        where
          go : (t : Bool) → added p ≡ t → Dec (o ≡ 0) → word (add_to n obj age c p).cells i ≡ word c i
          go true e d = rw (again e d)
          go false e (yes z) = rw (mark-answer e z) (get_or-set_other c (link_at p) i last 0 (λ q. absurd (omega arith)))
          go false e (no z) = let pos : 0 < o = omega arith in rw (link-answer e pos) (linked-past (spot age p L (first_at s)) spot-inside)

-- a start makes the index hold no page, whatever its seed
module _ (n : ℕ) (obj age : ℕ → ℕ) (pos : 0 < n) (c : List ℕ) (seed : ℕ) (room : cells_for n ≤ length c) where
  -- the words without a seed
  abbrev zeros : List ℕ
  zeros = replicate (cells_for n) 0 ++ drop (cells_for n) c

  abbrev E : List ℕ
  E = emptied n seed c

  zero_at : (i : ℕ) → seed_at < i → i < cells_for n → word E i ≡ 0
  zero_at i l h =
      get_or-set_other zeros seed_at i seed 0 (λ e. absurd (omega arith))
      ∙ get_or-append (replicate (cells_for n) 0) (drop (cells_for n) c) 0 i (rw length-replicate h)
      ∙ get_or-replicate (cells_for n) i 0 0 h

  free_key : (s : ℕ) → s < slots_for n → keys E s ≡ 0
  free_key s h = zero_at (key_at s) (omega (arith, table_behind (2 * s))) (key_inside n s h)

  -- and stores to no word past it
  pub start_past : (i : ℕ) → cells_for n ≤ i → word E i ≡ word c i
  start_past i h =
      let e : cells_for n + (i - cells_for n) ≡ i = omega arith in
      get_or-set_other zeros seed_at i seed 0 (λ q. absurd (omega arith))
      ∙ word_past (replicate (cells_for n) 0) (drop (cells_for n) c) i (rw length-replicate h)
      ∙ rw (length-replicate, get_or-drop, e)

  pub start_holds : Held n obj age none_added E
  unfolding chain from_list
  start_holds = record {
    room = simp (length-set, length-append, length-replicate, length-drop) (omega arith);
    marks = λ p pn. ap (λ (v : ℕ). not (eqb v 0)) (zero_at (link_at p) (omega arith) (omega arith));
    chains = λ o po.
        let k : keys E (slot_of n E o) ≡ 0 = free_key _ (slot_lt n E o pos) in
        ap (trace n obj age E o top) (first_none n E o _ refl (λ e. absurd (omega arith)))
        ∙ trace_end n obj age o E top 0 (omega arith)
        ∙ ap from_list (sym (recs_none (seen obj none_added) age o n (λ x e. absurd (omega arith))));
    homes = λ j jn k. absurd (k (free_key j jn));
    spare = rw (
      count_nothing (used (keys E)) (slots_for n) (λ i l. ap (λ (v : ℕ). not (eqb v 0)) (free_key i l)),
      count_nothing none_added n (λ i l. refl),
    ) (le_refl _);
  }
