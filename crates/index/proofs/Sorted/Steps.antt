-- A gathering over all pages is a walk along the sorted list of an object's records. Where the pages of other objects change nothing and the
-- steps of two pages may change places, a page put into the list is one step more, wherever it is put (`through_insert`), so that the steps
-- of all pages in their own order give what the steps of the list give, the newest record first (`gather_recs`).
use Prim.Native.Nat.{ℕ, zero, suc, ◌+◌, ◌≤◌, ◌<◌}
use mathlib.Core.Bool.{false}
use mathlib.Core.List.{List, [], ◌∷◌, ◌++◌}
use mathlib.Core.Logic.{◌≢◌, inl, inr}
use mathlib.Core.Path.{◌≡◌, refl, sym, ap, ◌∙◌}
use native.Mathlib.Omega.{arith}
use lib.Dec.{eqb, leb}
use lib.ListN.{length}
use Rattle.page.proofs.Searching.{by_test}
use Rattle.sort.specs.Ascending.{In}
use Rattle.index.specs.Held.{insert, recs}
use Rattle.index.proofs.Sorted.Records.{recs_of}

module _ {A : Type 0} (f : ℕ → A → A) where
  -- what the records of a list make of a, the first one first
  unfoldable pub through : A → List ℕ → A
  through a [] = a
  through a (q ∷ L) = through (f q a) L

  pub through_at : (L : List ℕ) (a : A) (q : ℕ) (M : List ℕ) → through a (L ++ (q ∷ M)) ≡ through (f q (through a L)) M
  unfolding through
  through_at [] a q M = refl
  through_at (p ∷ L) a q M = through_at L (f p a) q M

  -- records that change nothing
  pub through_idle : (L : List ℕ) (a : A) → ((q : ℕ) → In q L → f q a ≡ a) → through a L ≡ a
  unfolding through
  through_idle [] a h = refl
  through_idle (q ∷ L) a h = ap (λ (x : A). through x L) (h q (inl refl)) ∙ through_idle L a (λ x i. h x (inr i))

  module _ (p : ℕ) where
    abbrev Swaps : List ℕ → Type 0
    Swaps L = (q : ℕ) → In q L → (a : A) → f q (f p a) ≡ f p (f q a)

    through-swap : (L : List ℕ) → Swaps L → (a : A) → through (f p a) L ≡ f p (through a L)
    unfolding through
    through-swap [] h a = refl
    through-swap (q ∷ L) h a = ap (λ (x : A). through x L) (h q (inl refl) a) ∙ through-swap L (λ x i. h x (inr i)) (f q a)

    pub through_insert : (age : ℕ → ℕ) (L : List ℕ) → Swaps L → (a : A) → through a (insert age p L) ≡ f p (through a L)
    unfolding through insert
    through_insert age [] h a = refl
    through_insert age (q ∷ L) h a =
        by_test (leb (age q) (age p)) _
        (λ t. rw t (through-swap (q ∷ L) h a))
        (λ t. rw t (through_insert age L (λ x i. h x (inr i)) (f q a)))

-- another step that does the same
pub through_same :
    {A : Type 0} (f g : ℕ → A → A) (L : List ℕ) (a : A) → ((q : ℕ) → In q L → (x : A) → f q x ≡ g q x) → through f a L ≡ through g a L
unfolding through
through_same f g [] a h = refl
through_same {A} f g (q ∷ L) a h = through_same f g L (f q a) (λ x i. h x (inr i)) ∙ ap (λ (x : A). through g x L) (h q (inl refl) a)

-- so many records, each counted
pub through_count : (f : ℕ → ℕ → ℕ) (L : List ℕ) (v : ℕ) → ((q : ℕ) → In q L → (x : ℕ) → f q x ≡ suc x) → through f v L ≡ v + length L
unfolding through
through_count f [] v h = omega arith
through_count f (q ∷ L) v h =
    ap (λ (x : ℕ). through f x L) (h q (inl refl) v) ∙ through_count f L (suc v) (λ x i. h x (inr i)) ∙ omega arith

module _
    (obj age : ℕ → ℕ) (o n : ℕ) {A : Type 0} (f : ℕ → A → A)
    (others : (p : ℕ) → eqb (obj p) o ≡ false → (a : A) → f p a ≡ a)
    (swaps : (p q : ℕ) → p < n → q < n → q ≢ p → (a : A) → f q (f p a) ≡ f p (f q a))
  where
    -- whatever makes one step for each page
    pub gather_recs : (G : ℕ → A) → ((m : ℕ) → G (suc m) ≡ f m (G m)) → (m : ℕ) → m ≤ n → G m ≡ through f (G 0) (recs obj age o m)
    unfolding recs through
    gather_recs G step zero h = refl
    gather_recs G step (suc m) h =
        by_test (eqb (obj m) o) _
        (λ t.
        rw (t, step m, gather_recs G step m (omega arith))
        (sym (through_insert f m age (recs obj age o m)
        (λ q i x. let r = recs_of obj age o m q i in swaps m q (omega arith) (omega (arith, r.0)) (λ e. absurd (omega (arith, r.0))) x)
        (G 0))))
        (λ t. rw (t, step m, gather_recs G step m (omega arith)) (others m t _))
