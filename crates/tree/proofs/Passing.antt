-- Numbers that pass a test: whether one below k does, and which is the first from i on. A search that says yes has one to show; the first is the
-- only one that passes with none before it that does, and a search that has one to find finds it.
use Prim.Native.Nat.{ℕ, zero, suc, ◌+◌, ◌≤◌, ◌<◌}
use mathlib.Core.Bool.{Bool, true, false}
use mathlib.Core.Logic.{⊎_elim}
use mathlib.Core.Path.{◌≡◌}
use native.Mathlib.Nat.{not-suc-le-zero, le_of_suc-le-suc, eq-or-lt_of_le, le_refl, le_antisymm}
use native.Mathlib.Omega.{arith}
use lib.Dec.{leb}
use borrow.Author.Tests.{leb-true, leb-false}
use Rattle.page.specs.Search.{first_from}
use Rattle.page.proofs.Searching.{clash, by_test}
use Rattle.tree.specs.Ways.{any_below}

-- a number below k that passes
pub record Passes (test : ℕ → Bool) (k : ℕ) : Type 0 where
  pub number : ℕ
  pub below : number < k
  pub passes : test number ≡ true

-- the first from i on that passes
pub record IsFirst (test : ℕ → Bool) (i k : ℕ) : Type 0 where
  pub from : i ≤ k
  pub passes : test k ≡ true
  pub before : (j : ℕ) → i ≤ j → j < k → test j ≡ false

module _ (test : ℕ → Bool) where
  -- where one passes, there is one
  pub any_passes : (k : ℕ) → any_below test k ≡ true → Passes test k
  unfolding any_below
  any_passes zero e = clash (cc)
  any_passes (suc k) e =
      by_test (test k) _
      (λ t. record { number = k; below = le_refl _; passes = t })
      (λ t.
      let w = any_passes k (rw t at e) in
      record { number = w.number; below = omega (arith, w.below); passes = w.passes })

  -- and where there is one, one passes
  pub passes_any : (k j : ℕ) → j < k → test j ≡ true → any_below test k ≡ true
  unfolding any_below
  passes_any zero j h t = absurd (not-suc-le-zero h)
  passes_any (suc k) j h t =
      by_test (test k) _
      (λ u. rw u)
      (λ u.
      rw u
      (⊎_elim
      (λ (e : j ≡ k). let z : test k ≡ true = rw (← e) t in clash (cc))
      (λ (l : j < k). passes_any k j l t)
      (eq-or-lt_of_le (le_of_suc-le-suc h))))

  -- where none passes, each fails
  pub none_passes : (k : ℕ) → any_below test k ≡ false → (j : ℕ) → j < k → test j ≡ false
  none_passes k e j h = by_test (test j) _ (λ t. let z = passes_any k j h t in clash (cc)) (λ t. t)

  -- the first is not behind another that passes
  pub first_least : (i k a : ℕ) → IsFirst test i k → i ≤ a → test a ≡ true → k ≤ a
  first_least i k a w h t =
      by_test (leb k a) _ (leb-true k a) (λ u. let z = w.before a h (leb-false k a u) in clash (cc))

  -- there is one first
  pub first_only : (i k m : ℕ) → IsFirst test i k → IsFirst test i m → k ≡ m
  first_only i k m v w = le_antisymm (first_least i k m v w.from w.passes) (first_least i m k w v.from v.passes)

  -- where one of the n numbers from i on passes, the search finds the first
  pub first_found : (i n a : ℕ) → i ≤ a → a < i + n → test a ≡ true → IsFirst test i (first_from test i n)
  unfolding first_from
  first_found i zero a h l t = absurd (omega arith)
  first_found i (suc n) a h l t =
      by_test (test i) _
      (λ u. rw u record { from = le_refl _; passes = u; before = λ j b c. absurd (omega arith) })
      (λ u.
      rw u
      (⊎_elim
      (λ (e : i ≡ a). let z : test i ≡ true = rw e t in clash (cc))
      (λ (g : i < a).
      let w = first_found (i + 1) n a (omega arith) (omega arith) t in
      record {
        from = omega (arith, w.from);
        passes = w.passes;
        before = λ j b c. ⊎_elim (λ (e : i ≡ j). rw (← e) u) (λ (d : i < j). w.before j (omega arith) c) (eq-or-lt_of_le b);
      })
      (eq-or-lt_of_le h)))
