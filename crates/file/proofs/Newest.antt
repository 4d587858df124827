-- The first copy of each chunk, ascending. A walk meets copies from the newest on, so that the key of a newer copy goes right before the keys of the
-- older copies of its chunk: what is gathered with it is what was gathered without it, with the newer copy in place of the older one.
use Prim.Native.Nat.{ℕ, suc, ◌+◌, ◌≤◌, ◌<◌}
use mathlib.Core.List.{List, [], ◌∷◌, map}
use mathlib.Core.Path.{◌≡◌, refl, sym, ap, ◌∙◌}
use native.Mathlib.Omega.{arith}
use lib.Dec.{eqb, ltb}
use lib.ListN.{length, get_or}
use borrow.Author.Tests.{eqb-true, eqb-false, eq-eqb, ne_eqb, ltb-true, ltb-false, lt-ltb, le-ltb}
use Rattle.page.specs.Choice.{pick}
use Rattle.page.proofs.Searching.{by_test}
use Rattle.sort.specs.Arranged.{ascend, arranged, Every}
use Rattle.sort.specs.Packed.{word_values, packed, key_of, value_of}
use Rattle.sort.proofs.Arranging.{ascend_behind, ascend_before, every_arranged}
use Rattle.sort.proofs.Packing.{packed_key, packed_value}
use Rattle.file.specs.Copies.{packed_copy, firsts}
use Rattle.file.specs.declared.copy.Copy.{Copy}
use Rattle.file.proofs.Putting.{keys_from}
use Rattle.file.proofs.Gathering.{firsts_none, firsts_on}

-- what is said of a copy holds of each copy of a list
abbrev pub EveryCopy : (Copy → Type 0) → List Copy → Type 0
EveryCopy P [] = Unit {0}
EveryCopy P (x ∷ L) = P x × EveryCopy P L

-- ascending copies with x for its chunk
unfoldable pub over : Copy → List Copy → List Copy
over x [] = x ∷ []
over x (y ∷ L) =
    let rest = over x L in pick (ltb y.chunk x.chunk) (y ∷ rest) (pick (eqb y.chunk x.chunk) (x ∷ L) (x ∷ y ∷ L))

module _ (x : Copy) where
  pub over_none : over x [] ≡ x ∷ []
  unfolding over
  over_none = refl

  module _ (y : Copy) (L : List Copy) where
    pub over_behind : y.chunk < x.chunk → over x (y ∷ L) ≡ y ∷ over x L
    unfolding over
    over_behind h = rw (lt-ltb y.chunk x.chunk h)

    pub over_same : y.chunk ≡ x.chunk → over x (y ∷ L) ≡ x ∷ L
    unfolding over
    over_same e = rw (le-ltb y.chunk x.chunk (omega arith), eq-eqb y.chunk x.chunk e)

    pub over_before : x.chunk < y.chunk → over x (y ∷ L) ≡ x ∷ y ∷ L
    unfolding over
    over_before h = rw (le-ltb y.chunk x.chunk (omega arith), ne_eqb y.chunk x.chunk (λ e. absurd (omega arith)))

-- of copies from the newest on, the newest of each chunk
unfoldable pub newest_of : List Copy → List Copy
newest_of [] = []
newest_of (x ∷ L) = over x (newest_of L)

-- a key of another chunk than the last is a first one
module _ {A : Type 0} (at : ℕ → A) (last k : ℕ) (S : List ℕ) where
  pub first_new : (key_of k ≡ last → ⊥) → firsts at last (k ∷ S) ≡ at (value_of k) ∷ firsts at (key_of k) S
  first_new h = firsts_on at last k S ∙ rw (ne_eqb (key_of k) last h)

  pub first_old : key_of k ≡ last → firsts at last (k ∷ S) ≡ firsts at (key_of k) S
  first_old e = firsts_on at last k S ∙ rw (eq-eqb (key_of k) last e)

-- a key before others, of which those of its chunk have higher numbers
module _ (at : ℕ → Copy) (k : ℕ) (mine : (at (value_of k)).chunk ≡ key_of k) where
  pub record Later (s : ℕ) : Type 0 where
    pub own : (at (value_of s)).chunk ≡ key_of s
    pub later : value_of k < value_of s

  abbrev x : Copy
  x = at (value_of k)

  pub firsts_over : (last : ℕ) (S : List ℕ) → last < key_of k → Every Later S → firsts at last (ascend k S) ≡ over x (firsts at last S)
  unfolding ascend
  firsts_over last [] h e =
      first_new at last k [] (λ q. absurd (omega arith))
      ∙ ap (λ (r : List Copy). x ∷ r) (firsts_none at (key_of k))
      ∙ sym (over_none x)
      ∙ ap (over x) (sym (firsts_none at last))
  firsts_over last (s ∷ S) h e =
      let own-s = e.0.own in
      let later-s = e.0.later in
      let y = at (value_of s) in
      let R = firsts at (key_of s) S in
      by_test (ltb s k) _
      (λ t.
      let lt : s < k = ltb-true s k t in
      let less : key_of s < key_of k = omega arith in
      let on = firsts_over (key_of s) S less e.1 in
      ap (firsts at last) (ascend_behind k s S lt)
      ∙ by_test (eqb (key_of s) last) _
      (λ u.
      let z : key_of s ≡ last = eqb-true _ _ u in
      first_old at last s (ascend k S) z ∙ on ∙ ap (over x) (sym (first_old at last s S z)))
      (λ u.
      let z : key_of s ≡ last → ⊥ = eqb-false _ _ u in
      first_new at last s (ascend k S) z
      ∙ ap (λ (r : List Copy). y ∷ r) on
      ∙ sym (over_behind x y R (omega arith))
      ∙ ap (over x) (sym (first_new at last s S z))))
      (λ t.
      let le : k ≤ s = ltb-false s k t in
      let least : key_of k ≤ key_of s = omega arith in
      let z : key_of s ≡ last → ⊥ = λ q. absurd (omega arith) in
      ap (firsts at last) (ascend_before k s S le)
      ∙ first_new at last k (s ∷ S) (λ q. absurd (omega arith))
      ∙ by_test (eqb (key_of s) (key_of k)) _
      (λ u.
      let same : key_of s ≡ key_of k = eqb-true _ _ u in
      ap (λ (r : List Copy). x ∷ r) (first_old at (key_of k) s S same)
      ∙ sym (over_same x y R (omega arith))
      ∙ ap (over x) (sym (first_new at last s S z)))
      (λ u.
      let differs : key_of s ≡ key_of k → ⊥ = eqb-false _ _ u in
      ap (λ (r : List Copy). x ∷ r) (first_new at (key_of k) s S differs)
      ∙ sym (over_before x y R (omega arith))
      ∙ ap (over x) (sym (first_new at last s S z))))

-- what stands for a number that no copy has
abbrev pub no_copy : Copy
no_copy = record { chunk = 0; page = 0; valid = 0 }

-- the keys of copies from number i on, which stand for them
module _ (at : ℕ → Copy) where
  abbrev pub Stands : ℕ → List Copy → Type 0
  Stands i L = (j : ℕ) → at (i + j) ≡ get_or L j no_copy

  here : (i : ℕ) (x : Copy) (L : List Copy) → Stands i (x ∷ L) → at i ≡ x
  here i x L f = let e : i + 0 ≡ i = omega arith in rw e at (f 0)

  behind : (i : ℕ) (x : Copy) (L : List Copy) → Stands i (x ∷ L) → Stands (suc i) L
  behind i x L f j = let e : i + suc j ≡ suc i + j = omega arith in rw e at (f (suc j))

  keys_later :
      (k : ℕ) (own : (at (value_of k)).chunk ≡ key_of k) (i : ℕ) (L : List Copy) →
      value_of k < i → i + length L ≤ word_values → Stands i L → Every (Later at k own) (keys_from i L)
  keys_later k own i [] h b f = tt
  keys_later k own i (x ∷ L) h b f =
      let v : value_of (packed x.chunk i) ≡ i = packed_value x.chunk i (omega arith) in
      let c : key_of (packed x.chunk i) ≡ x.chunk = packed_key x.chunk i (omega arith) in
      (record { own = rw (v, c) (ap (λ (y : Copy). y.chunk) (here i x L f)); later = rw v h }, keys_later k own (suc i) L (omega arith) (omega arith) (behind i x L f))

  pub newest_gathered :
      (i : ℕ) (L : List Copy) → i + length L ≤ word_values → Stands i L → EveryCopy (λ y. 0 < y.chunk) L →
      firsts at 0 (arranged (keys_from i L)) ≡ newest_of L
  unfolding arranged newest_of
  newest_gathered i [] b f e = firsts_none at 0
  newest_gathered i (x ∷ L) b f e =
      let k = packed x.chunk i in
      let v : value_of k ≡ i = packed_value x.chunk i (omega arith) in
      let c : key_of k ≡ x.chunk = packed_key x.chunk i (omega arith) in
      let me : at (value_of k) ≡ x = rw v (here i x L f) in
      let own : (at (value_of k)).chunk ≡ key_of k = rw c (ap (λ (y : Copy). y.chunk) me) in
      let S = arranged (keys_from (suc i) L) in
      firsts_over at k own 0 S (omega (arith, e.0)) (every_arranged (Later at k own) (keys_from (suc i) L) (keys_later k own (suc i) L (omega arith) (omega arith) (behind i x L f)))
      ∙ rw (me, newest_gathered (suc i) L (omega arith) (behind i x L f) e.1)

-- rows in place of copies
pub firsts_map :
    (at : ℕ → ℕ) (to : ℕ → Copy) (last : ℕ) (S : List ℕ) →
    Every (λ s. at (value_of s) ≡ packed_copy (to (value_of s))) S →
    firsts at last S ≡ map packed_copy (firsts to last S)
firsts_map at to last [] e = firsts_none at last ∙ ap (map packed_copy) (sym (firsts_none to last))
firsts_map at to last (s ∷ S) e =
    by_test (eqb (key_of s) last) _
    (λ t.
    let z : key_of s ≡ last = eqb-true _ _ t in
    first_old at last s S z ∙ firsts_map at to (key_of s) S e.1 ∙ ap (map packed_copy) (sym (first_old to last s S z)))
    (λ t.
    let z : key_of s ≡ last → ⊥ = eqb-false _ _ t in
    first_new at last s S z
    ∙ (rw (e.0, firsts_map at to (key_of s) S e.1))
    ∙ ap (map packed_copy) (sym (first_new to last s S z)))
