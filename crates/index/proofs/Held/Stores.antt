-- Each of the three things that an addition stores keeps what the cells hold. A page put into its object's chain makes that chain the list
-- with the page inserted; the links it changes are the page's own and one of its object's, so every other chain stays. A free slot that
-- becomes an object's hides no other, and the object had no record. A page that is no record changes its own link alone, which no chain
-- reads.
use Prim.Native.Nat.{ℕ, suc, ◌+◌, ◌*◌, ◌≤◌, ◌<◌}
use mathlib.Core.Bool.{Bool, true, false, not}
use mathlib.Core.List.{List}
use mathlib.Core.Logic.{◌≢◌, ◌⊎◌, inl, inr, ⊎_elim}
use mathlib.Core.Path.{◌≡◌, refl, sym, ap, ◌∙◌}
use native.Mathlib.Nat.{le_refl}
use native.Mathlib.Decide.{ℕ_discrete}
use native.Mathlib.Omega.{arith}
use lib.ListN.{length, set, length-set}
use lib.Seq.{get_or-set_same, get_or-set_other}
use lib.Dec.{ltb, eqb}
use borrow.Author.Tests.{ltb-false, eq-eqb, ne_eqb}
use Rattle.page.specs.Choice.{pick}
use Rattle.page.specs.Search.{count}
use Rattle.sort.specs.Ascending.{In}
use Rattle.index.specs.Cells.{cells_for, slots_for, word, link_at, key_at, first_at, seed_at, seed_of, keys, is_marked, last, link_to, marked, linked, claimed}
use Rattle.index.specs.Slots.{serves, slot_of, first_in, first, used}
use Rattle.index.specs.Chains.{trace, chain, top}
use Rattle.index.specs.Held.{seen, with, recs, from_list}
use Rattle.index.proofs.Chain.Links.{trace_end, frame}
use Rattle.index.proofs.Sorted.Records.{recs_of, recs_same, recs_add}
use Rattle.index.proofs.Chain.Insertion.{spot, spot_form, word_at, word_own, word_other, insert_trace}
use Rattle.index.proofs.Slot.Counts.{count_more}
use Rattle.index.proofs.Slot.Words.{table_seed, table_link, key_same, first_same, key_first, key_inside, first_inside}
use Rattle.index.proofs.Slot.Search.{slot_lt, slot_same, slot_fill, first_own, first_none}

-- what the cells hold, but for how many slots are used
pub record Sound (n : ℕ) (obj age : ℕ → ℕ) (added : ℕ → Bool) (c : List ℕ) : Type 0 where
  pub room : cells_for n ≤ length c
  pub marks : (p : ℕ) → p < n → is_marked c p ≡ added p
  pub chains : (o : ℕ) → 0 < o → chain n obj age c o ≡ from_list (recs (seen obj added) age o n)
  pub homes : (s : ℕ) → s < slots_for n → (keys c s ≡ 0 → ⊥) → slot_of n c (keys c s) ≡ s

-- an added page's link is not 0
marked_some : (w : ℕ) → 0 < marked w
marked_some w = go (ltb w 2) refl
  where
    go : (t : Bool) → ltb w 2 ≡ t → 0 < pick t last w
    go true e = omega arith
    go false e = omega (arith, ltb-false w 2 e)

-- a word that is not 0 marks its page
marks_it : (w : ℕ) → 0 < w → not (eqb w 0) ≡ true
marks_it w h = ap not (ne_eqb w 0 (λ e. absurd (omega arith)))

module _ (obj : ℕ → ℕ) (added : ℕ → Bool) where
  -- the record of an object that is seen has been added
  pub seen_of : (o x : ℕ) → 0 < o → seen obj added x ≡ o → (obj x ≡ o) × (added x ≡ true)
  seen_of o x pos = go (added x) refl
    where
      go : (t : Bool) → added x ≡ t → pick t (obj x) 0 ≡ o → (obj x ≡ o) × (added x ≡ true)
      go true m e = (e, m)
      go false m e = absurd (omega arith)

-- page p is added, and no other
pub with_other : (added : ℕ → Bool) (p x : ℕ) → x ≢ p → with p added x ≡ added x
with_other added p x ne = simp (ne_eqb x p ne)

pub with_itself : (added : ℕ → Bool) (p : ℕ) → with p added p ≡ true
with_itself added p = simp (eq-eqb p p refl)

-- an object that p is no record of sees the same pages
pub seen_same :
    (obj : ℕ → ℕ) (added : ℕ → Bool) (p o : ℕ) →
    0 < o →
    o ≢ obj p →
    added p ≡ false →
    (x : ℕ) →
    eqb (seen obj added x) o ≡ eqb (seen obj (with p added) x) o
seen_same obj added p o pos ne fresh x = go (ℕ_discrete x p)
  where
    go : Dec (x ≡ p) → eqb (seen obj added x) o ≡ eqb (seen obj (with p added) x) o
    go (yes q) =
        let a : seen obj added x ≡ 0 = simp (ap added q ∙ fresh) in
        let b : seen obj (with p added) x ≡ obj p = simp (eq-eqb x p q) (ap obj q) in
        ne_eqb (seen obj added x) o (λ e. absurd (omega arith)) ∙ sym (ne_eqb (seen obj (with p added) x) o (λ e. ne (sym e ∙ b)))
    go (no q) = simp (ne_eqb x p q)

-- ---- a page put into its object's chain

module _
    (n : ℕ) (obj age : ℕ → ℕ)
    (inj : (x y : ℕ) → x < n → y < n → age x ≡ age y → x ≡ y)
    (old : (x : ℕ) → x < n → age x < top)
    (added : ℕ → Bool)
    (p : ℕ)
    (pn : p < n)
    (fresh : added p ≡ false)
    (pos : 0 < obj p)
  where
    abbrev o : ℕ
    o = obj p

    abbrev L : List ℕ
    L = recs (seen obj added) age o n

    unseen : seen obj added p ≡ o → ⊥
    unseen e = let z : seen obj added p ≡ 0 = simp fresh in absurd (omega arith)

    pub out : In p L → ⊥
    out i = unseen (recs_of (seen obj added) age o n p i).1

    -- an added record of the object, other than p
    record Older (x : ℕ) : Type 0 where
      inside : x < n
      own : obj x ≡ o
      there : added x ≡ true
      other : x ≢ p

    older : (x : ℕ) → In x L → Older x
    older x i =
        let r = recs_of (seen obj added) age o n x i in
        let s = seen_of obj added o x pos r.1 in
        record { inside = r.0; own = s.0; there = s.1; other = λ e. out (rw e at i) }

    module _ (c : List ℕ) (g : Sound n obj age added c) (s : ℕ) (at : slot_of n c o ≡ s) (own : keys c s ≡ o) where
      sn : s < slots_for n
      sn = rw (← at) (slot_lt n c o (omega arith))

      abbrev l : ℕ
      l = spot age p L (first_at s)

      abbrev C : List ℕ
      C = linked c p l

      from : trace n obj age c o top (word c (first_at s)) ≡ from_list L
      unfolding chain
      from = rw (first_own n c o s at own) at (g.chains o pos)

      -- where the link to p goes
      form : (l ≡ first_at s) ⊎ ((x : ℕ) × Older x × (l ≡ link_at x))
      form = ⊎_elim (λ e. inl e) (λ (w : (x : ℕ) × In x L × (l ≡ link_at x)). inr (w.0, older w.0 w.1, w.2)) (spot_form age p L (first_at s))

      lc : l < length c
      lc = ⊎_elim (λ (e : l ≡ first_at s). omega (arith, g.room, first_inside n s sn)) (λ (w : (x : ℕ) × Older x × (l ≡ link_at x)). omega (arith, g.room, w.1.inside, w.2)) form

      -- no other word is where it goes
      off : (i : ℕ) → i ≢ first_at s → ((x : ℕ) → Older x → i ≢ link_at x) → i ≢ l
      off i a b =
          ⊎_elim
          (λ (e : l ≡ first_at s) (f : i ≡ l). a (f ∙ e))
          (λ (w : (x : ℕ) × Older x × (l ≡ link_at x)) (f : i ≡ l). b w.0 w.1 (f ∙ w.2))
          form

      apart : l ≢ link_at p
      apart e = off (link_at p) (λ f. table_link _ p (sym f)) (λ x h f. h.other (omega arith)) (sym e)

      pc : link_at p < length c
      pc = omega (arith, g.room)

      kept : (i : ℕ) → i ≢ first_at s → i ≢ link_at p → ((x : ℕ) → Older x → i ≢ link_at x) → word C i ≡ word c i
      kept i a b d = word_other c p l lc pc apart i (off i a d) b

      pub link_key : (j : ℕ) → keys C j ≡ keys c j
      link_key j = kept (key_at j) (key_first j s) (table_link _ p) (λ x _. table_link _ x)

      -- a word of the whole index
      link-seed : seed_of C ≡ seed_of c
      link-seed = kept seed_at (table_seed (2 * s + 1)) (λ e. absurd (omega arith)) (λ x _ e. absurd (omega arith))

      link-slot : (o' : ℕ) → slot_of n C o' ≡ slot_of n c o'
      link-slot o' = slot_same n c C link-seed o' (omega arith) (λ j _. ap (serves o') (link_key j))

      link-own : chain n obj age C o ≡ from_list (recs (seen obj (with p added)) age o n)
      unfolding chain
      link-own =
          ap (trace n obj age C o top) (first_own n C o s (link-slot o ∙ at) (link_key s ∙ own))
          ∙ insert_trace n obj age inj c g.room p pn pos l lc apart L top (first_at s) from out (old p pn) (λ x _. table_link _ x) refl
          ∙ ap from_list
          (sym (recs_add (seen obj added) (seen obj (with p added)) age o p unseen (simp (with_itself added p))
          (λ x ne. simp (with_other added p x ne)) n (λ x xn ne e. ne (inj x p xn pn e)) n (le_refl n) pn))

      link-other : (o' : ℕ) → 0 < o' → o' ≢ o → chain n obj age C o' ≡ from_list (recs (seen obj (with p added)) age o' n)
      unfolding chain
      link-other o' pos' ne =
          ap (trace n obj age C o' top) (begin (ℕ_discrete (keys c (slot_of n c o')) o'))
          ∙ frame n obj age o' C c top (first n c o')
          (λ x _ xo _. kept (link_at x) (λ e. table_link _ x (sym e)) (λ e. let q : x ≡ p = omega arith in ne (sym xo ∙ ap obj q))
          (λ y h e. let q : x ≡ y = omega arith in ne (sym xo ∙ ap obj q ∙ h.own)))
          ∙ g.chains o' pos'
          ∙ ap from_list (recs_same (seen obj added) age o' (seen obj (with p added)) n (λ x _. seen_same obj added p o' pos' ne fresh x))
        where
          begin : Dec (keys c (slot_of n c o') ≡ o') → first n C o' ≡ first n c o'
          begin (yes k) =
              first_own n C o' _ (link-slot o') (link_key _ ∙ k)
              ∙ kept (first_at (slot_of n c o')) (λ e. ne (sym k ∙ ap (keys c) (first_same _ s e) ∙ own)) (table_link _ p) (λ x _. table_link _ x)
              ∙ sym (first_own n c o' _ refl k)
          begin (no k) = first_none n C o' _ (link-slot o') (λ e. k (sym (link_key _) ∙ e)) ∙ sym (first_none n c o' _ refl k)

      link-mark : (x : ℕ) → x < n → is_marked C x ≡ with p added x
      link-mark x xn = go (ℕ_discrete x p) (ℕ_discrete (link_at x) l)
        where
          go : Dec (x ≡ p) → Dec (link_at x ≡ l) → is_marked C x ≡ with p added x
          go (yes q) d =
              ap (λ (y : ℕ). is_marked C y) q
              ∙ ap (λ (v : ℕ). not (eqb v 0)) (word_own c p l lc pc apart)
              ∙ marks_it (marked (word c l)) (marked_some (word c l))
              ∙ sym (simp (eq-eqb x p q))
          go (no q) (yes d) =
              let m : added x ≡ true =
              ⊎_elim
              (λ (e : l ≡ first_at s). absurd (table_link _ x (sym e ∙ sym d)))
              (λ (w : (x : ℕ) × Older x × (l ≡ link_at x)). let k : x ≡ w.0 = omega (arith, w.2) in ap added k ∙ w.1.there)
              form in
              ap (λ (i : ℕ). not (eqb (word C i) 0)) d
              ∙ ap (λ (v : ℕ). not (eqb v 0)) (word_at c p l lc pc apart)
              ∙ marks_it (link_to p) (omega arith)
              ∙ sym (simp (ne_eqb x p q, m))
          go (no q) (no d) =
              ap (λ (v : ℕ). not (eqb v 0)) (word_other c p l lc pc apart (link_at x) d (λ e. q (omega arith)))
              ∙ g.marks x xn
              ∙ sym (with_other added p x q)

      link-length : length C ≡ length c
      unfolding linked
      link-length = simp length-set

      pub link_sound : Sound n obj age (with p added) C
      link_sound = record {
        room = rw link-length g.room;
        marks = link-mark;
        chains = λ o' pos'. elim (ℕ_discrete o' o) [ yes q ↦ rw q link-own | no q ↦ link-other o' pos' q ];
        homes = λ j jn k. link-slot (keys C j) ∙ rw (link_key j) (g.homes j jn (λ e. k (link_key j ∙ e)));
      }

-- ---- a slot made an object's

-- slot s is object o's in cells that are sound, and at most one slot more is used than before
pub record Owned (n : ℕ) (obj age : ℕ → ℕ) (added : ℕ → Bool) (o s used-before : ℕ) (c : List ℕ) : Type 0 where
  pub sound : Sound n obj age added c
  pub at : slot_of n c o ≡ s
  pub own : keys c s ≡ o
  pub few : count (used (keys c)) (slots_for n) ≤ suc used-before

module _
    (n : ℕ) (obj age : ℕ → ℕ) (added : ℕ → Bool) (c : List ℕ)
    (g : Sound n obj age added c)
    (o s : ℕ)
    (pos : 0 < o)
    (pages : 0 < n)
    (sn : s < slots_for n)
    (at : slot_of n c o ≡ s)
  where
    -- its own slot stays as it is
    pub claim_own : keys c s ≡ o → Owned n obj age added o s (count (used (keys c)) (slots_for n)) (claimed c s o)
    unfolding claimed
    claim_own k =
        rw (eq-eqb (keys c s) o k) (record { sound = g; at = at; own = k; few = omega arith })

    -- a free slot becomes the object's, which has no record yet
    module _ (free : keys c s ≡ 0) where
      abbrev D : List ℕ
      D = set (set c (key_at s) o) (first_at s) 0

      d-key : keys D s ≡ o
      d-key =
          get_or-set_other (set c (key_at s) o) (first_at s) (key_at s) 0 0 (key_first s s)
          ∙ get_or-set_same c (key_at s) o 0 (omega (arith, g.room, key_inside n s sn))

      d-first : word D (first_at s) ≡ 0
      d-first = get_or-set_same (set c (key_at s) o) (first_at s) 0 0 (rw length-set (omega (arith, g.room, first_inside n s sn)))

      d-kept : (i : ℕ) → i ≢ key_at s → i ≢ first_at s → word D i ≡ word c i
      d-kept i a b = get_or-set_other (set c (key_at s) o) (first_at s) i 0 0 b ∙ get_or-set_other c (key_at s) i o 0 a

      d-keys : (j : ℕ) → j ≢ s → keys D j ≡ keys c j
      d-keys j ne = d-kept (key_at j) (λ e. ne (key_same j s e)) (key_first j s)

      d-seed : seed_of D ≡ seed_of c
      d-seed = d-kept seed_at (table_seed (2 * s)) (table_seed (2 * s + 1))

      d-slot : slot_of n D o ≡ s
      d-slot = slot_same n c D d-seed o pages (λ j _. go j (ℕ_discrete j s)) ∙ at
        where
          go : (j : ℕ) → Dec (j ≡ s) → serves o (keys D j) ≡ serves o (keys c j)
          go j (yes q) =
              let a : keys D j ≡ o = ap (keys D) q ∙ d-key in
              let b : keys c j ≡ 0 = ap (keys c) q ∙ free in
              rw (a, b) (simp (ne_eqb o 0 (λ e. absurd (omega arith)), eq-eqb o o refl))
          go j (no q) = ap (serves o) (d-keys j q)

      -- every other object's slot and first record stay
      d-start : (o' : ℕ) → 0 < o' → o' ≢ o → first n D o' ≡ first n c o'
      d-start o' pos' ne = go (ℕ_discrete (keys c (slot_of n c o')) o')
        where
          stays : (j : ℕ) → slot_of n c o' ≡ j → keys c j ≡ o' → (slot_of n D o' ≡ j) × (j ≢ s)
          stays j e k =
              let js : j ≢ s = λ q. absurd (omega (arith, sym k ∙ ap (keys c) q ∙ free)) in
              (slot_fill n c D d-seed o' s free d-keys (λ z. absurd (omega (arith, sym z ∙ ap (keys c) e ∙ k))) ∙ e, js)

          go : Dec (keys c (slot_of n c o') ≡ o') → first n D o' ≡ first n c o'
          go (yes k) =
              let r = stays _ refl k in
              first_own n D o' _ r.0 (d-keys _ r.1 ∙ k)
              ∙ d-kept (first_at (slot_of n c o')) (λ e. key_first s _ (sym e)) (λ e. r.1 (first_same _ s e))
              ∙ sym (first_own n c o' _ refl k)
          go (no k) =
              first_none n D o' _ refl (λ e. k (found _ refl e (ℕ_discrete (slot_of n D o') s)))
              ∙ sym (first_none n c o' _ refl k)
            where
              found : (j : ℕ) → slot_of n D o' ≡ j → keys D j ≡ o' → Dec (j ≡ s) → keys c (slot_of n c o') ≡ o'
              found j e f (yes q) = absurd (ne (sym f ∙ ap (keys D) q ∙ d-key))
              found j e f (no q) =
                  let kj : keys c j ≡ o' = sym (d-keys j q) ∙ f in
                  let h : slot_of n c (keys c j) ≡ j =
                  g.homes j (rw (← e) (slot_lt n D o' pages)) (λ z. absurd (omega arith)) in
                  ap (keys c) (ap (slot_of n c) (sym kj) ∙ h) ∙ kj

      d-chain : (o' : ℕ) → 0 < o' → Dec (o' ≡ o) → chain n obj age D o' ≡ chain n obj age c o'
      unfolding chain
      d-chain o' pos' (yes q) =
          rw q
          (ap (trace n obj age D o top) (first_own n D o s d-slot d-key ∙ d-first)
          ∙ trace_end n obj age o D top 0 (omega arith)
          ∙ sym (ap (trace n obj age c o top) (first_none n c o s at (λ e. absurd (omega arith))) ∙ trace_end n obj age o c top 0 (omega arith)))
      d-chain o' pos' (no q) =
          ap (trace n obj age D o' top) (d-start o' pos' q)
          ∙ frame n obj age o' D c top (first n c o') (λ x _ _ _. d-kept (link_at x) (λ e. table_link _ x (sym e)) (λ e. table_link _ x (sym e)))

      d-homes : (j : ℕ) → j < slots_for n → (keys D j ≡ 0 → ⊥) → Dec (j ≡ s) → slot_of n D (keys D j) ≡ j
      d-homes j jn k (yes q) = ap (slot_of n D) (ap (keys D) q ∙ d-key) ∙ d-slot ∙ sym q
      d-homes j jn k (no q) =
          let kc : keys c j ≡ 0 → ⊥ = λ z. k (d-keys j q ∙ z) in
          let h = g.homes j jn kc in
          ap (slot_of n D) (d-keys j q)
          ∙ slot_fill n c D d-seed (keys c j) s free d-keys (λ z. kc (ap (keys c) (sym h) ∙ z))
          ∙ h

      d-length : length D ≡ length c
      d-length = simp length-set

      d-used : count (used (keys D)) (slots_for n) ≡ suc (count (used (keys c)) (slots_for n))
      d-used =
          count_more (used (keys c)) (used (keys D)) s
          (ap not (eq-eqb (keys c s) 0 free))
          (ap not (ne_eqb (keys D s) 0 (λ y. absurd (omega (arith, d-key)))))
          (λ i ne. ap (λ (v : ℕ). not (eqb v 0)) (d-keys i ne)) (slots_for n) sn

      pub claim_free : Owned n obj age added o s (count (used (keys c)) (slots_for n)) (claimed c s o)
      unfolding claimed
      claim_free = rw (ne_eqb (keys c s) o (λ e. absurd (omega arith))) (record {
        sound = record {
          room = rw d-length g.room;
          marks = λ p pn. ap (λ (v : ℕ). not (eqb v 0)) (d-kept (link_at p) (λ e. table_link _ p (sym e)) (λ e. table_link _ p (sym e))) ∙ g.marks p pn;
          chains = λ o' pos'. d-chain o' pos' (ℕ_discrete o' o) ∙ g.chains o' pos';
          homes = λ j jn k. d-homes j jn k (ℕ_discrete j s);
        };
        at = d-slot;
        own = d-key;
        few = omega (arith, d-used);
      })

-- ---- a page that is no record

module _
    (n : ℕ) (obj age : ℕ → ℕ) (added : ℕ → Bool) (c : List ℕ)
    (g : Sound n obj age added c)
    (p : ℕ)
    (pn : p < n)
    (none : obj p ≡ 0)
    (fresh : added p ≡ false)
  where
    abbrev E : List ℕ
    E = set c (link_at p) last

    e-kept : (i : ℕ) → i ≢ link_at p → word E i ≡ word c i
    e-kept i a = get_or-set_other c (link_at p) i last 0 a

    pub mark_key : (j : ℕ) → keys E j ≡ keys c j
    mark_key j = e-kept (key_at j) (table_link _ p)

    e-slot : (o : ℕ) → slot_of n E o ≡ slot_of n c o
    e-slot o = slot_same n c E (e-kept seed_at (λ e. absurd (omega arith))) o (omega arith) (λ j _. ap (serves o) (mark_key j))

    e-first : (o : ℕ) → first n E o ≡ first n c o
    unfolding first first_in
    e-first o =
        rw (e-slot o, mark_key (slot_of n c o), e-kept (first_at (slot_of n c o)) (table_link _ p)) refl

    e-mark : (x : ℕ) → x < n → Dec (x ≡ p) → is_marked E x ≡ with p added x
    e-mark x xn (yes q) =
        ap (λ (y : ℕ). is_marked E y) q
        ∙ ap (λ (v : ℕ). not (eqb v 0)) (get_or-set_same c (link_at p) last 0 (omega (arith, g.room)))
        ∙ sym (simp (eq-eqb x p q))
    e-mark x xn (no q) =
        ap (λ (v : ℕ). not (eqb v 0)) (e-kept (link_at x) (λ e. q (omega arith))) ∙ g.marks x xn ∙ sym (with_other added p x q)

    pub mark_sound : Sound n obj age (with p added) E
    unfolding chain
    mark_sound = record {
      room = simp length-set g.room;
      marks = λ x xn. e-mark x xn (ℕ_discrete x p);
      chains = λ o pos.
          ap (trace n obj age E o top) (e-first o)
          ∙ frame n obj age o E c top (first n c o)
          (λ x _ xo _. e-kept (link_at x) (λ e. let q : x ≡ p = omega arith in absurd (omega (arith, sym xo ∙ ap obj q ∙ none))))
          ∙ g.chains o pos
          ∙ ap from_list
          (recs_same (seen obj added) age o (seen obj (with p added)) n (λ x _. seen_same obj added p o pos (λ e. absurd (omega (arith, none))) fresh x));
      homes = λ j jn k. e-slot (keys E j) ∙ rw (mark_key j) (g.homes j jn (λ e. k (mark_key j ∙ e)));
    }
