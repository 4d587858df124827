-- Laws of how many numbers below a limit pass a test, by the step of the count.
use Prim.Native.Nat.{ℕ, zero, suc, ◌<◌}
use mathlib.Core.Bool.{Bool, true, false}
use mathlib.Core.Logic.{◌≢◌}
use mathlib.Core.Path.{◌≡◌, refl, sym, ap, ◌∙◌}
use native.Mathlib.Nat.{not-suc-le-zero, le_refl}
use native.Mathlib.Decide.{ℕ_discrete}
use native.Mathlib.Numerals.{add-one}
use native.Mathlib.Omega.{arith}
use Rattle.page.specs.Search.{count, more}
use Rattle.page.proofs.Searching.{clash, count_step, count_none, count_le}

module _ (test : ℕ → Bool) where
  pub count_suc : (m : ℕ) → count test (suc m) ≡ more (test m) (count test m)
  count_suc m = rw (← add-one) (count_step test m)

  -- all pass
  pub count_all : (m : ℕ) → ((i : ℕ) → i < m → test i ≡ true) → count test m ≡ m
  count_all zero h = count_none test
  count_all (suc m) h = count_suc m ∙ rw (h m (le_refl _), count_all m (λ i k. h i (omega arith))) (omega arith)

  -- none passes
  pub count_nothing : (m : ℕ) → ((i : ℕ) → i < m → test i ≡ false) → count test m ≡ 0
  count_nothing zero h = count_none test
  count_nothing (suc m) h = count_suc m ∙ rw (h m (le_refl _)) (count_nothing m (λ i k. h i (omega arith)))

  -- one does not
  pub count_miss : (p m : ℕ) → p < m → test p ≡ false → count test m < m
  count_miss p zero h e = absurd (not-suc-le-zero h)
  count_miss p (suc m) h e = rw (count_suc m) (go (ℕ_discrete p m) (λ k. count_miss p m k e) (test m) refl)
    where
      go : Dec (p ≡ m) → (p < m → count test m < m) → (t : Bool) → test m ≡ t → more t (count test m) < suc m
      go (yes k) ih true f = let z : true ≡ false = sym f ∙ ap test (sym k) ∙ e in clash (cc)
      go (yes k) ih false f = omega (arith, count_le test m)
      go (no k) ih true f = let a = ih (omega arith) in omega arith
      go (no k) ih false f = omega (arith, count_le test m)

-- another test that agrees
pub count_same : (test test' : ℕ → Bool) (m : ℕ) → ((i : ℕ) → i < m → test' i ≡ test i) → count test' m ≡ count test m
count_same test test' zero h = count_none test' ∙ sym (count_none test)
count_same test test' (suc m) h =
    count_suc test' m ∙ rw (h m (le_refl _), count_same test test' m (λ i k. h i (omega arith))) (sym (count_suc test m))

-- one number more passes
pub count_more :
    (test test' : ℕ → Bool) (s : ℕ) →
    test s ≡ false →
    test' s ≡ true →
    ((i : ℕ) → i ≢ s → test' i ≡ test i) →
    (m : ℕ) →
    s < m →
    count test' m ≡ suc (count test m)
count_more test test' s a b h zero k = absurd (not-suc-le-zero k)
count_more test test' s a b h (suc m) k =
    count_suc test' m ∙ go (ℕ_discrete m s) (λ j. count_more test test' s a b h m j) ∙ ap suc (sym (count_suc test m))
  where
    go :
        Dec (m ≡ s) →
        (s < m → count test' m ≡ suc (count test m)) →
        more (test' m) (count test' m) ≡ suc (more (test m) (count test m))
    go (yes e) ih =
        simp (ap test' e ∙ b, ap test e ∙ a)
        (omega (arith, count_same test test' m (λ i l. h i (λ f. let q : i < s = rw e at l in absurd (omega arith)))))
    go (no e) ih = more_of (ih (omega arith)) (test m) refl
      where
        more_of :
            count test' m ≡ suc (count test m) → (t : Bool) → test m ≡ t → more (test' m) (count test' m) ≡ suc (more (test m) (count test m))
        more_of ih true f = simp (h m e ∙ f, f) (omega arith)
        more_of ih false f = simp (h m e ∙ f, f) ih
