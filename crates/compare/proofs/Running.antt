-- Runs of one object in a list of words. In the words of all objects each object's are one run: every word of an object has it as its key, and the
-- objects behind it are others.
use Prim.Native.Nat.{ℕ, suc, ◌+◌, ◌≤◌, ◌<◌}
use mathlib.Core.List.{List, [], ◌∷◌, ◌++◌, map}
use mathlib.Core.Logic.{inl, inr}
use mathlib.Core.Path.{◌≡◌, refl, sym, ap, ap₂, ◌∙◌}
use native.Mathlib.Numerals.{add-one}
use native.Mathlib.Omega.{arith}
use lib.ListN.{length, length-map, drop, get_or, drop_of_length-le}
use lib.Seq.{drop-cons}
use borrow.Author.Tests.{eq-eqb, ne_eqb}
use Rattle.sort.specs.Arranged.{Every}
use Rattle.sort.specs.Ascending.{In}
use Rattle.sort.specs.Packed.{word_values, packed, key_of, value_of}
use Rattle.sort.proofs.Packing.{packed_key, packed_value}
use Rattle.sort.specs.Lists.{joined}
use Rattle.compare.specs.Lists.{run_of}

module _ (o : ℕ) where
  -- the pages of its words, and their keys
  pub values_back : (L : List ℕ) → ((x : ℕ) → In x L → x < word_values) → map value_of (map (packed o) L) ≡ L
  values_back [] h = refl
  values_back (p ∷ L) h = ap₂ {C = List ℕ} (λ x M. x ∷ M) (packed_value o p (h p (inl refl))) (values_back L (λ x i. h x (inr i)))

  -- and their keys are the object
  pub keys_back : (L : List ℕ) → ((x : ℕ) → In x L → x < word_values) → Every (λ w. key_of w ≡ o) (map (packed o) L)
  keys_back [] h = tt
  keys_back (p ∷ L) h = (packed_key o p (h p (inl refl)), keys_back L (λ x i. h x (inr i)))

  -- a word of the object is one of the run
  pub run_own : (x : ℕ) (rest : List ℕ) → key_of x ≡ o → run_of o (x ∷ rest) ≡ suc (run_of o rest)
  unfolding run_of
  run_own x rest e = rw (eq-eqb (key_of x) o e)

  -- a word of another object ends the run
  pub run_other : (x : ℕ) (rest : List ℕ) → (key_of x ≡ o → ⊥) → run_of o (x ∷ rest) ≡ 0
  unfolding run_of
  run_other x rest h = rw (ne_eqb (key_of x) o h)

  -- and so does the end of the words
  pub run_none : run_of o [] ≡ 0
  unfolding run_of
  run_none = refl

  -- from word i of a list on
  module _ (list : List ℕ) (i : ℕ) where
    -- word i is of the object: the run goes on behind it
    pub run_on : i < length list → key_of (get_or list i 0) ≡ o → run_of o (drop i list) ≡ suc (run_of o (drop (i + 1) list))
    run_on h e = rw (drop-cons list i 0 h, add-one i) (run_own (get_or list i 0) (drop (suc i) list) e)

    -- it is of another: the run has ended
    pub run_off : i < length list → (key_of (get_or list i 0) ≡ o → ⊥) → run_of o (drop i list) ≡ 0
    run_off h e = rw (drop-cons list i 0 h) (run_other (get_or list i 0) (drop (suc i) list) e)

    -- there is no word i: it has ended
    pub run_end : length list ≤ i → run_of o (drop i list) ≡ 0
    run_end h = rw (drop_of_length-le list {i = i} h) run_none

  -- words of the object, and what comes behind them
  pub run_keyed : (L M : List ℕ) → Every (λ w. key_of w ≡ o) L → run_of o (L ++ M) ≡ length L + run_of o M
  run_keyed [] M k = omega arith
  run_keyed (w ∷ L) M k = run_own w (L ++ M) k.0 ∙ ap suc (run_keyed L M k.1) ∙ omega arith

  -- the words of its pages
  pub run_words : (L M : List ℕ) → ((x : ℕ) → In x L → x < word_values) → run_of o (map (packed o) L ++ M) ≡ length L + run_of o M
  run_words L M h = run_keyed (map (packed o) L) M (keys_back L h) ∙ rw (length-map L (packed o))

  -- words of another object are not of the run
  run_past : (x : ℕ) (L M : List ℕ) → ((p : ℕ) → In p L → p < word_values) → (x ≡ o → ⊥) → run_of o M ≡ 0 → run_of o (map (packed x) L ++ M) ≡ 0
  run_past x [] M h z e = e
  run_past x (p ∷ L) M h z e = run_other (packed x p) (map (packed x) L ++ M) (λ k. z (sym (packed_key x p (h p (inl refl))) ∙ k))

  -- nor are words of other objects of this one
  pub run_others :
      (pages : ℕ → List ℕ) → ((x p : ℕ) → In p (pages x) → p < word_values) → (ids : List ℕ) → ((x : ℕ) → In x ids → x ≡ o → ⊥) →
      run_of o (joined (λ x. map (packed x) (pages x)) ids) ≡ 0
  unfolding joined
  run_others pages h [] z = run_none
  run_others pages h (x ∷ ids) z = run_past x (pages x) _ (h x) (z x (inl refl)) (run_others pages h ids (λ y i. z y (inr i)))
