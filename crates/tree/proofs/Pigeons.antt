-- The pigeonhole principle: of m + 1 numbers with values below m two have the same. If an earlier one has the value of the last, these are the two.
-- If none has, the value of the last stands free among the others: put in the place of the largest value, it leaves one number less and one value
-- less, and two that are the same then were the same before.
use Prim.Native.Nat.{ℕ, zero, suc, ◌≤◌, ◌<◌}
use mathlib.Core.Bool.{Bool}
use mathlib.Core.Path.{◌≡◌, sym, ◌∙◌}
use native.Mathlib.Nat.{le_refl}
use native.Mathlib.Omega.{arith}
use lib.Dec.{eqb}
use borrow.Author.Tests.{eqb-true, eqb-false}
use Rattle.page.specs.Choice.{pick}
use Rattle.page.proofs.Searching.{by_test}
use Rattle.tree.specs.Ways.{any_below}
use Rattle.tree.proofs.Passing.{any_passes, none_passes}

-- two numbers up to m with the same value
pub record Twice (m : ℕ) (f : ℕ → ℕ) : Type 0 where
  pub one : ℕ
  pub other : ℕ
  pub before : one < other
  pub inside : other ≤ m
  pub same : f one ≡ f other

-- a value v in the place of m
module _ (m v : ℕ) where
  abbrev instead : ℕ → ℕ
  instead x = pick (eqb x m) v x

  -- values up to m are below m then, if v was one of them and no other was v
  instead_below : (x : ℕ) → v ≤ m → x ≤ m → (x ≡ v → ⊥) → instead x < m
  instead_below x h k other =
      by_test (eqb x m) _
      (λ t. let e : x ≡ m = eqb-true x m t in rw t (omega arith))
      (λ t. let e : x ≡ m → ⊥ = eqb-false x m t in rw t (omega arith))

  -- and two that are the same then were so before
  instead_same : (x y : ℕ) → (x ≡ v → ⊥) → (y ≡ v → ⊥) → instead x ≡ instead y → x ≡ y
  instead_same x y f g e =
      by_test (eqb x m) _
      (λ t.
      by_test (eqb y m) _
      (λ u. eqb-true x m t ∙ sym (eqb-true y m u))
      (λ u. absurd (g (sym (rw (t, u) at e)))))
      (λ t.
      by_test (eqb y m) _
      (λ u. absurd (f (rw (t, u) at e)))
      (λ u. rw (t, u) at e))

-- m + 1 numbers with values below m
pub pigeons : (m : ℕ) (f : ℕ → ℕ) → ((i : ℕ) → i ≤ m → f i < m) → Twice m f
pigeons zero f h = absurd (omega (arith, h 0 (le_refl _)))
pigeons (suc m) f h =
    let last = f (suc m) in
    let like : ℕ → Bool = λ i. eqb (f i) last in
    by_test (any_below like (suc m)) _
    (λ t.
    let w = any_passes like (suc m) t in
    record { one = w.number; other = suc m; before = w.below; inside = le_refl _; same = eqb-true _ _ w.passes })
    (λ t.
    let free : (i : ℕ) → i ≤ m → f i ≡ last → ⊥ = λ i k. eqb-false _ _ (none_passes like (suc m) t i (omega arith)) in
    let most : (i : ℕ) → i ≤ suc m → f i ≤ m = λ i k. omega (arith, h i k) in
    let w =
    pigeons m (λ i. instead m last (f i))
    (λ i k. instead_below m last (f i) (most (suc m) (le_refl _)) (most i (omega arith)) (free i k))
    in
    record {
      one = w.one;
      other = w.other;
      before = w.before;
      inside = omega (arith, w.inside);
      same =
          instead_same m last (f w.one) (f w.other) (free w.one (omega (arith, w.before, w.inside))) (free w.other w.inside)
          w.same;
    })
