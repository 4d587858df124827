-- Laws of a choice by a test, of the first number that passes a test, and of how many numbers do.
use Prim.Native.Nat.{ℕ, zero, suc, ◌+◌, ◌-◌, ◌≤◌, ◌<◌, zero-le}
use mathlib.Core.Bool.{Bool, true, false}
use mathlib.Core.Logic.{⊎_elim}
use mathlib.Core.Path.{◌≡◌, refl, ◌∙◌}
use native.Mathlib.Nat.{eq-or-lt_of_le, le_of_suc-le-suc}
use native.Mathlib.Numerals.{add-one}
use native.Mathlib.Omega.{arith}
use Rattle.page.specs.Choice.{pick}
use Rattle.page.specs.Search.{first_from, count, more}

-- two different things are not equal
pub clash : {P : Type 0} → ◌≡◌ {A = ℕ} 0 1 → P
clash z = absurd (omega arith)

-- a choice that came out as r came by one of its two ways
pub pick_cases : {A : Type 0} (b : Bool) (x y r : A) (P : Type 0) → pick b x y ≡ r → (b ≡ true → x ≡ r → P) → (b ≡ false → y ≡ r → P) → P
pick_cases true x y r P e f g = f refl e
pick_cases false x y r P e f g = g refl e

-- a test comes out one way or the other
pub by_test : (b : Bool) (P : Type 0) → (b ≡ true → P) → (b ≡ false → P) → P
by_test true P f g = f refl
by_test false P f g = g refl

-- below n + 1 are n and the numbers below n
pub one_more : (P : ℕ → Type 0) (n i : ℕ) → i < n + 1 → P n → (i < n → P i) → P i
one_more P n i h last earlier = ⊎_elim (λ e. rw e last) earlier (eq-or-lt_of_le (le_of_suc-le-suc (rw add-one at h)))

module _ (test : ℕ → Bool) where
  -- a search that is not at its end looks at the next number
  pub first_step : (i end : ℕ) → i < end → first_from test i (end - i) ≡ pick (test i) i (first_from test (i + 1) (end - (i + 1)))
  unfolding first_from
  first_step i end h = let e : end - i ≡ suc (end - (i + 1)) = omega arith in rw e

  -- which is found if it passes
  pub first_here : (i end : ℕ) → i < end → test i ≡ true → first_from test i (end - i) ≡ i
  first_here i end h t = first_step i end h ∙ rw t

  -- and passed over if it does not
  pub first_next : (i end : ℕ) → i < end → test i ≡ false → first_from test i (end - i) ≡ first_from test (i + 1) (end - (i + 1))
  first_next i end h t = first_step i end h ∙ rw t

  -- a search at its end finds nothing
  pub first_end : (i end : ℕ) → end ≤ i → first_from test i (end - i) ≡ i
  unfolding first_from
  first_end i end h = let e : end - i ≡ 0 = omega arith in rw e

  -- what is found below the end passes
  pub first_passes : (i n : ℕ) → first_from test i n < i + n → test (first_from test i n) ≡ true
  unfolding first_from
  first_passes i zero h = absurd (omega arith)
  first_passes i (suc n) h =
      by_test (test i) _
      (λ t. rw (t, t))
      (λ t.
      let g : first_from test (i + 1) n < i + 1 + n = let z : pick (test i) i (first_from test (i + 1) n) ≡ first_from test (i + 1) n = rw t in omega arith in
      rw t (first_passes (i + 1) n g))

  -- a number that does not pass adds nothing to the count, and one that does adds one
  pub count_step : (n : ℕ) → count test (n + 1) ≡ more (test n) (count test n)
  unfolding count
  count_step n = rw add-one

  -- the count of no number
  pub count_none : count test 0 ≡ 0
  unfolding count
  count_none = refl

more_le : (b : Bool) (m n : ℕ) → m ≤ n → more b m ≤ suc n
more_le true m n h = omega arith
more_le false m n h = omega arith

-- no more numbers below n pass a test than there are
pub count_le : (test : ℕ → Bool) (n : ℕ) → count test n ≤ n
unfolding count
count_le test zero = zero-le
count_le test (suc n) = more_le (test n) (count test n) n (count_le test n)
