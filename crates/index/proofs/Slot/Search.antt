-- The search for an object's slot. On any cells it ends at a slot of the table. Where a slot is free, the slot that it ends at is free or the
-- object's. It goes by the tests of the slots alone, and a free slot that gets a key hides no slot behind it: what is found elsewhere is
-- found there still.
use Prim.Native.Nat.{ℕ, zero, suc, ◌+◌, ◌-◌, ◌≤◌, ◌<◌, ◌^◌}
use Rattle.std.specs.Prelude.{Option, Some, None}
use Rattle.std.specs.Option.{unwrap_or}
use mathlib.Core.Bool.{Bool, true, false, not, ◌||◌}
use mathlib.Core.List.{List}
use mathlib.Core.Logic.{◌≢◌}
use mathlib.Core.Path.{◌≡◌, refl, sym, ap, ◌∙◌}
use native.Mathlib.Nat.{not-suc-le-zero, mod-lt, le_refl, add-zero, mul-zero}
use native.Mathlib.Decide.{ℕ_discrete}
use native.Mathlib.Omega.{arith}
use lib.ListN.{length}
use lib.Dec.{eqb}
use borrow.Author.Tests.{eq-eqb, ne_eqb, le-ltb}
use Rattle.page.specs.Choice.{pick}
use Rattle.page.specs.Search.{count}
use Rattle.page.proofs.Searching.{clash}
use Rattle.index.specs.Cells.{cells_for, slots_for, InTable, word, keys, first_at, seed_of}
use Rattle.index.specs.Slots.{serves, down, mixed, home_of, slot, slot_of, first_in, first, first_link, used}
use Rattle.index.proofs.Slot.Counts.{count_all}
use Rattle.index.proofs.Slot.Words.{slots_some, slot_in}

module _ (key : ℕ → ℕ) (o : ℕ) where
  -- a search downwards, one slot at a time
  pub down_none : (m : ℕ) → m ≤ 0 → down key o m ≡ None
  unfolding down
  down_none zero h = refl
  down_none (suc m) h = absurd (not-suc-le-zero h)

  pub down_free : (m : ℕ) → 0 < m → key (m - 1) ≡ 0 → down key o m ≡ Some (m - 1)
  unfolding down
  down_free zero h e = absurd (not-suc-le-zero h)
  down_free (suc s) h e =
      let k : suc s - 1 ≡ s = omega arith in
      rw k (simp (eq-eqb (key s) 0 (rw k at e)))

  pub down_own : (m : ℕ) → 0 < m → key (m - 1) ≡ o → (key (m - 1) ≡ 0 → ⊥) → down key o m ≡ Some (m - 1)
  unfolding down
  down_own zero h e f = absurd (not-suc-le-zero h)
  down_own (suc s) h e f =
      let k : suc s - 1 ≡ s = omega arith in
      rw k (simp (ne_eqb (key s) 0 (rw k at f), eq-eqb (key s) o (rw k at e)))

  pub down_on : (m : ℕ) → 0 < m → (key (m - 1) ≡ o → ⊥) → (key (m - 1) ≡ 0 → ⊥) → down key o m ≡ down key o (m - 1)
  unfolding down
  down_on zero h e f = absurd (not-suc-le-zero h)
  down_on (suc s) h e f =
      let k : suc s - 1 ≡ s = omega arith in
      rw k (simp (ne_eqb (key s) 0 (rw k at f), ne_eqb (key s) o (rw k at e)))

  -- what a search found serves, and what it passed does not
  abbrev Ended : ℕ → Option ℕ → Type 0
  Ended m None = (i : ℕ) → i < m → serves o (key i) ≡ false
  Ended m (Some s) = (s < m) × (serves o (key s) ≡ true)

  ended : (m : ℕ) → Ended m (down key o m)
  unfolding down
  ended zero = λ i h. absurd (not-suc-le-zero h)
  ended (suc m) = go (serves o (key m)) refl (down key o m) (ended m)
    where
      go : (t : Bool) → serves o (key m) ≡ t → (f : (Option ℕ)) → Ended m f → Ended (suc m) (pick t (Some m) f)
      go true e f h = (le_refl _, e)
      go false e None h = λ i k. at i k (ℕ_discrete i m)
        where
          at : (i : ℕ) → i < suc m → Dec (i ≡ m) → serves o (key i) ≡ false
          at i k (yes q) = ap (λ (x : ℕ). serves o (key x)) q ∙ e
          at i k (no q) = h i (omega arith)
      go false e (Some s) h = (omega (arith, h.0), h.1)

  -- among m slots from a home on
  module _ (m home : ℕ) where
    slot-among : home < m → slot m home key o < m
    unfolding slot
    slot-among h = go (down key o (home + 1)) (down key o m) (ended (home + 1)) (ended m)
      where
        go : (a b : (Option ℕ)) → Ended (home + 1) a → Ended m b → unwrap_or a (unwrap_or b home) < m
        go (Some s) b f i = omega (arith, f.0, h)
        go None (Some s) f i = i.0
        go None None f i = h

    -- what the two searches give
    module _ (r : ℕ) where
      slot-near : down key o (home + 1) ≡ Some r → r ≡ slot m home key o
      unfolding slot
      slot-near e = rw e refl

      slot-far : down key o (home + 1) ≡ None → r ≡ unwrap_or (down key o m) home → r ≡ slot m home key o
      unfolding slot
      slot-far e f = rw e f

    -- where a slot is free, the object's slot is free or its own
    slot-free : count (used key) m < m → serves o (key (slot m home key o)) ≡ true
    unfolding slot
    slot-free few = go (down key o (home + 1)) (down key o m) (ended (home + 1)) (ended m)
      where
        in_use : (t u : Bool) → (t || u) ≡ false → not t ≡ true
        in_use true u e = sym e
        in_use false u e = refl

        go : (a b : (Option ℕ)) → Ended (home + 1) a → Ended m b → serves o (key (unwrap_or a (unwrap_or b home))) ≡ true
        go (Some s) b h i = h.1
        go None (Some s) h i = i.1
        go None None h i =
            let all = count_all (used key) m (λ j l. in_use (eqb (key j) 0) (eqb (key j) o) (i j l)) in
            absurd (omega arith)

-- two tables with the same tests
module _ (key key' : ℕ → ℕ) (o : ℕ) where
  down_same : (m : ℕ) → ((s : ℕ) → s < m → serves o (key' s) ≡ serves o (key s)) → down key' o m ≡ down key o m
  unfolding down
  down_same zero h = refl
  down_same (suc m) h = rw (h m (le_refl _), down_same m (λ s l. h s (omega arith))) refl

  slot_alike : (m home : ℕ) → home < m → ((s : ℕ) → s < m → serves o (key' s) ≡ serves o (key s)) → slot m home key' o ≡ slot m home key o
  unfolding slot
  slot_alike m home in-m h = rw (down_same (home + 1) (λ s l. h s (omega (arith, in-m))), down_same m h) refl

-- the free slot s gets a key
module _ (key key' : ℕ → ℕ) (o s : ℕ) (free : key s ≡ 0) (others : (x : ℕ) → x ≢ s → key' x ≡ key x) where
  -- a search that did not end at a free slot ends where it did
  down_fill : (m : ℕ) → ((j : ℕ) → down key o m ≡ Some j → key j ≡ 0 → ⊥) → down key' o m ≡ down key o m
  unfolding down
  down_fill zero h = refl
  down_fill (suc m) h = go (serves o (key m)) refl (λ h'. down_fill m h')
    where
      go :
          (t : Bool) →
          serves o (key m) ≡ t →
          (((j : ℕ) → down key o m ≡ Some j → key j ≡ 0 → ⊥) → down key' o m ≡ down key o m) →
          down key' o (suc m) ≡ down key o (suc m)
      go true f ih =
          let ne : m ≢ s = λ q. h m (simp f refl) (ap key q ∙ free) in
          rw (others m ne) (simp f)
      go false f ih =
          let ne : m ≢ s =
          λ q. let b : serves o 0 ≡ false = ap (serves o) (sym free ∙ ap key (sym q)) ∙ f in clash (cc) in
          rw (others m ne) (simp f (ih (λ j e. h j (simp f e))))

  slot_filled : (m home : ℕ) → (key (slot m home key o) ≡ 0 → ⊥) → slot m home key' o ≡ slot m home key o
  unfolding slot
  slot_filled m home h = go (down key o (home + 1)) (down key o m) refl refl h
    where
      go :
          (a b : (Option ℕ)) →
          down key o (home + 1) ≡ a →
          down key o m ≡ b →
          (key (unwrap_or a (unwrap_or b home)) ≡ 0 → ⊥) →
          unwrap_or (down key' o (home + 1)) (unwrap_or (down key' o m) home) ≡ unwrap_or a (unwrap_or b home)
      go (Some i) b e f u = rw (down_fill (home + 1) (λ j q z. let k : i ≡ j = cc in u (ap key k ∙ z)) ∙ e) refl
      go None (Some i) e f u =
          rw (
            down_fill (home + 1) (λ j q z. clash (cc)) ∙ e,
            down_fill m (λ j q z. let k : i ≡ j = cc in u (ap key k ∙ z)) ∙ f,
          ) refl
      go None None e f u =
          rw (
            down_fill (home + 1) (λ j q z. clash (cc)) ∙ e,
            down_fill m (λ j q z. clash (cc)) ∙ f,
          ) refl

-- ---- the slot of an object on the cells of n pages

-- with the seed 0 an id is not mixed
pub unmixed : (o : ℕ) → mixed 0 o ≡ o
unfolding mixed
unmixed o = rw (mul-zero o) (add-zero o)

module _ (n : ℕ) (c : List ℕ) (o : ℕ) where
  -- its home is one of the slots
  pub home_lt : 0 < n → home_of (slots_for n) (seed_of c) o < slots_for n
  home_lt pos = mod-lt (mixed (seed_of c) o) (slots_some n pos)

  pub slot_lt : 0 < n → slot_of n c o < slots_for n
  unfolding slot_of
  slot_lt pos = slot-among (keys c) o (slots_for n) (home_of (slots_for n) (seed_of c) o) (home_lt pos)

  -- what the two searches give
  module _ (pos : 0 < n) (few : n < 2 ^ 32) (room : cells_for n ≤ length c) (r : ℕ) where
    -- what the slot is, is one of the table
    abbrev Given : Type 0
    Given = (r ≡ slot_of n c o) × InTable c r

    within : r ≡ slot_of n c o → Given
    within e = (e, slot_in n r (rw e (slot_lt pos)) c few room)

    pub slot_first : down (keys c) o (home_of (slots_for n) (seed_of c) o + 1) ≡ Some r → Given
    unfolding slot_of
    slot_first e = within (slot-near (keys c) o (slots_for n) (home_of (slots_for n) (seed_of c) o) r e)

    pub slot_second :
        down (keys c) o (home_of (slots_for n) (seed_of c) o + 1) ≡ None →
        r ≡ unwrap_or (down (keys c) o (slots_for n)) (home_of (slots_for n) (seed_of c) o) →
        Given
    unfolding slot_of
    slot_second e f = within (slot-far (keys c) o (slots_for n) (home_of (slots_for n) (seed_of c) o) r e f)

  pub slot_serves : count (used (keys c)) (slots_for n) < slots_for n → serves o (keys c (slot_of n c o)) ≡ true
  unfolding slot_of
  slot_serves few = slot-free (keys c) o (slots_for n) (home_of (slots_for n) (seed_of c) o) few

-- other cells with the same seed
module _ (n : ℕ) (c c' : List ℕ) (seeds : seed_of c' ≡ seed_of c) (o : ℕ) where
  pub slot_same : 0 < n → ((s : ℕ) → s < slots_for n → serves o (keys c' s) ≡ serves o (keys c s)) → slot_of n c' o ≡ slot_of n c o
  unfolding slot_of
  slot_same pos h = rw seeds (slot_alike (keys c) (keys c') o (slots_for n) (home_of (slots_for n) (seed_of c) o) (home_lt n c o pos) h)

  -- in which the free slot s has a key
  pub slot_fill :
      (s : ℕ) → keys c s ≡ 0 →
      ((x : ℕ) → x ≢ s → keys c' x ≡ keys c x) →
      (keys c (slot_of n c o) ≡ 0 → ⊥) →
      slot_of n c' o ≡ slot_of n c o
  unfolding slot_of
  slot_fill s free others h = rw seeds (slot_filled (keys c) (keys c') o s free others (slots_for n) (home_of (slots_for n) (seed_of c) o) h)

-- the link to an object's first record, if s is its slot
module _ (c : List ℕ) (s o : ℕ) where
  pub first_in_own : keys c s ≡ o → first_in c s o ≡ word c (first_at s)
  unfolding first_in
  first_in_own k = simp (eq-eqb (keys c s) o k)

  pub first_in_none : (keys c s ≡ o → ⊥) → first_in c s o ≡ 0
  unfolding first_in
  first_in_none k = simp (ne_eqb (keys c s) o k)

module _ (n : ℕ) (c : List ℕ) (o s : ℕ) (at : slot_of n c o ≡ s) where
  pub first_own : keys c s ≡ o → first n c o ≡ word c (first_at s)
  unfolding first
  first_own k = rw at (first_in_own c s o k)

  pub first_none : (keys c s ≡ o → ⊥) → first n c o ≡ 0
  unfolding first
  first_none k = rw at (first_in_none c s o k)

-- words that are enough for some pages
pub first_link_lem : (n : ℕ) (c : List ℕ) (o : ℕ) → 0 < n → cells_for n ≤ length c → first_link n c o ≡ first n c o
unfolding first_link
first_link_lem n c o h k = rw (ne_eqb n 0 (λ e. absurd (omega arith)), le-ltb (length c) (cells_for n) k)
