-- What each of a list gives, one behind the other: what is made of it, and when it ascends: where each gives numbers of its own range, and the ranges
-- ascend.
use Prim.Native.Nat.{ℕ, suc, ◌*◌, ◌≤◌, ◌<◌}
use mathlib.Core.List.{List, [], ◌∷◌, ◌++◌, map, map-append}
use mathlib.Core.Logic.{inl, inr}
use mathlib.Core.Path.{◌≡◌, refl, ap₂, ◌∙◌}
use native.Mathlib.Nat.{mul-le-mul_right, suc-mul}
use native.Mathlib.Omega.{arith}
use lib.ListN.{length}
use Rattle.sort.specs.Ascending.{In, Ascends}
use Rattle.sort.proofs.Ascending.{ascends_lower, ascends_on}
use Rattle.sort.specs.Lists.{joined}

-- ---- lists

-- a list without members is empty
pub length_none : {A : Type 0} (L : List A) → length L ≡ 0 → L ≡ []
length_none [] e = refl
length_none (x ∷ L) e = absurd (omega arith)

-- ---- what each of a list gives

module _ (f : ℕ → List ℕ) where
  -- the numbers made of all of them
  pub joined_map : (g : ℕ → ℕ) (h : ℕ → List ℕ) (L : List ℕ) → ((x : ℕ) → In x L → map g (f x) ≡ h x) → map g (joined f L) ≡ joined h L
  unfolding joined
  joined_map g h [] e = refl
  joined_map g h (x ∷ L) e =
      map-append g (f x) (joined f L)
      ∙ ap₂ {C = List ℕ} (λ u v. u ++ v) (e x (inl refl)) (joined_map g h L (λ y i. e y (inr i)))

  -- where each gives numbers of its own range of so many, ascending, all ascend
  pub joined_ascends :
      (width b : ℕ) (L : List ℕ) → Ascends b L → ((x : ℕ) → In x L → Ascends (x * width) (f x)) →
      ((x y : ℕ) → In x L → In y (f x) → y < suc x * width) → Ascends (b * width) (joined f L)
  unfolding joined
  joined_ascends width b [] s g h = tt
  joined_ascends width b (x ∷ L) s g h =
      let up : b * width ≤ x * width = mul-le-mul_right width s.0 in
      ascends_on (b * width) (suc x * width) (f x) (joined f L) (omega (arith, up, suc-mul x width))
      (ascends_lower (b * width) (x * width) (f x) up (g x (inl refl)))
      (λ y i. h x y (inl refl) i)
      (joined_ascends width (suc x) L s.1 (λ y i. g y (inr i)) (λ y z i. h y z (inr i)))
