-- Laws of `keep` and `joined`. What is kept of a list is its members that pass, in their order, so that a kept part of an ascending list ascends. What
-- each of a list gives has exactly the members that one of them gives. All go through joined lists part by part.
use Prim.Native.Nat.{ℕ, suc, ◌+◌, ◌≤◌, ◌<◌, zero-le}
use mathlib.Core.Bool.{Bool, true, false, ◌&&◌}
use mathlib.Core.List.{List, [], ◌∷◌, ◌++◌, map, append-nil, map-append}
use mathlib.Core.Logic.{inl, inr, ⊎_elim}
use mathlib.Core.Path.{◌≡◌, refl, ap, ◌∙◌}
use native.Mathlib.Numerals.{add-one}
use native.Mathlib.Omega.{arith}
use lib.ListN.{length, get_or, take}
use lib.Seq.{take-suc}
use Rattle.sort.specs.Ascending.{In, Ascends}
use Rattle.sort.specs.Lists.{keep, joined}
use Rattle.sort.proofs.Arranging.{by_test}
use Rattle.sort.proofs.Ascending.{ascends_lower}
use Rattle.sort.proofs.Times.{joined_in, in_joined}

-- ---- what is kept

module _ {A : Type 0} where
  -- of a joined list what is kept of each
  pub keep_join : (t : A → Bool) (L M : List A) → keep t (L ++ M) ≡ keep t L ++ keep t M
  unfolding keep
  keep_join t [] M = refl
  keep_join t (x ∷ L) M = by_test (t x) _ (λ e. rw e (ap (λ (r : List A). x ∷ r) (keep_join t L M))) (λ e. rw e (keep_join t L M))

  -- no more than there is
  pub keep_few : (t : A → Bool) (L : List A) → length (keep t L) ≤ length L
  unfolding keep
  keep_few t [] = zero-le
  keep_few t (x ∷ L) = let h = keep_few t L in by_test (t x) _ (λ u. rw u (omega arith)) (λ u. rw u (omega arith))

  -- by two tests in turn what passes both
  pub keep_twice : (t u : A → Bool) (L : List A) → keep t (keep u L) ≡ keep (λ x. u x && t x) L
  unfolding keep
  keep_twice t u [] = refl
  keep_twice t u (x ∷ L) =
      by_test (u x) _
      (λ e. by_test (t x) _ (λ f. rw (e, f) (ap (λ (r : List A). x ∷ r) (keep_twice t u L))) (λ f. rw (e, f) (keep_twice t u L)))
      (λ e. rw e (keep_twice t u L))

  module _ (t : A → Bool) (x : A) where
    -- a member that passes is kept
    pub keep_in : (L : List A) → In x L → t x ≡ true → In x (keep t L)
    unfolding keep
    keep_in [] i e = absurd i
    keep_in (y ∷ L) (inl q) e = rw (← q, e) (inl refl)
    keep_in (y ∷ L) (inr i) e = by_test (t y) _ (λ u. rw u (inr (keep_in L i e))) (λ u. rw u (keep_in L i e))

    -- and nothing else is
    pub keep_of : (L : List A) → In x (keep t L) → In x L × (t x ≡ true)
    unfolding keep
    keep_of [] i = absurd i
    keep_of (y ∷ L) i =
        by_test (t y) _
        (λ u.
        ⊎_elim
        (λ (e : x ≡ y). (inl e, rw e u))
        (λ (k : In x (keep t L)). let r = keep_of L k in (inr r.0, r.1))
        (rw u at i))
        (λ u. let r = keep_of L (rw u at i) in (inr r.0, r.1))

-- what is made of those that are kept
module _ (f : ℕ → ℕ) where
  -- is what is kept of what is made
  pub map_keep : (t : ℕ → Bool) (L : List ℕ) → keep t (map f L) ≡ map f (keep (λ x. t (f x)) L)
  unfolding keep
  map_keep t [] = refl
  map_keep t (x ∷ L) = by_test (t (f x)) _ (λ u. rw u (ap (λ (r : List ℕ). f x ∷ r) (map_keep t L))) (λ u. rw u (map_keep t L))

  -- ascends where what is made of all does
  pub kept_ascends : (t : ℕ → Bool) (b : ℕ) (L : List ℕ) → Ascends b (map f L) → Ascends b (map f (keep t L))
  unfolding keep
  kept_ascends t b [] a = tt
  kept_ascends t b (x ∷ L) a =
      let r : Ascends (suc (f x)) (map f (keep t L)) = kept_ascends t (suc (f x)) L a.1 in
      by_test (t x) _ (λ u. rw u (a.0, r)) (λ u. rw u (ascends_lower b (suc (f x)) (map f (keep t L)) (omega (arith, a.0)) r))

-- what is kept of an ascending list ascends
pub keep_ascends : (t : ℕ → Bool) (b : ℕ) (L : List ℕ) → Ascends b L → Ascends b (keep t L)
unfolding keep
keep_ascends t b [] a = tt
keep_ascends t b (x ∷ L) a =
    let r : Ascends (suc x) (keep t L) = keep_ascends t (suc x) L a.1 in
    by_test (t x) _ (λ u. rw u (a.0, r)) (λ u. rw u (ascends_lower b (suc x) (keep t L) (omega (arith, a.0)) r))

-- what is made of the first of a list, where some are kept
module _ (f : ℕ → ℕ) (t : ℕ → Bool) (L : List ℕ) (i : ℕ) (h : i < length L) where
  -- what the first i give
  abbrev made : ℕ → List ℕ
  made k = map f (keep t (take k L))

  -- one more gives what it gives by itself
  made_step : made (i + 1) ≡ made i ++ map f (keep t (get_or L i 0 ∷ []))
  made_step =
      rw (add-one, take-suc L i 0 h, keep_join t (take i L) (get_or L i 0 ∷ [])) (map-append f (keep t (take i L)) (keep t (get_or L i 0 ∷ [])))

  -- nothing, if it is not kept
  pub made_pass : t (get_or L i 0) ≡ false → made (i + 1) ≡ made i
  unfolding keep
  made_pass e = made_step ∙ rw e (append-nil (made i))

  -- one, if it is
  pub made_more : t (get_or L i 0) ≡ true → made (i + 1) ≡ made i ++ (f (get_or L i 0) ∷ [])
  unfolding keep
  made_more e = made_step ∙ rw e

-- ---- what each of a list gives

-- one of a list that gives y
pub record Given {A B : Type 0} (f : A → List B) (L : List A) (y : B) : Type 0 where
  pub by : A
  pub there : In by L
  pub gives : In y (f by)

module _ {A B : Type 0} (f : A → List B) (y : B) where
  -- what one of them gives is there
  pub each_in : (x : A) (L : List A) → In x L → In y (f x) → In y (joined f L)
  unfolding joined
  each_in x [] i h = absurd i
  each_in x (z ∷ L) (inl e) h = joined_in y (f z) (joined f L) (inl (rw e at h))
  each_in x (z ∷ L) (inr i) h = joined_in y (f z) (joined f L) (inr (each_in x L i h))

  -- and nothing else is
  pub each_of : (L : List A) → In y (joined f L) → Given f L y
  unfolding joined
  each_of [] h = absurd h
  each_of (z ∷ L) h =
      ⊎_elim
      (λ k. record { by = z; there = inl refl; gives = k })
      (λ k. let r = each_of L k in record { by = r.by; there = inr r.there; gives = r.gives })
      (in_joined y (f z) (joined f L) h)
