-- What a function makes of a list: which are there, and at which place.
use Prim.Native.Nat.{ℕ, zero, suc, ◌<◌}
use mathlib.Core.List.{List, [], ◌∷◌, map}
use mathlib.Core.Logic.{inl, inr}
use mathlib.Core.Path.{◌≡◌, refl, sym, ap, ap₂}
use native.Mathlib.Nat.{le_of_suc-le-suc}
use native.Mathlib.Omega.{arith}
use lib.ListN.{length, get_or}
use Rattle.sort.specs.Ascending.{In}

-- one that it makes of a member
pub record Made {A B : Type 0} (f : A → B) (L : List A) (y : B) : Type 0 where
  pub from : A
  pub there : In from L
  pub made : f from ≡ y

module _ {A B : Type 0} (f : A → B) where
  -- what it makes of a member is there
  pub in_map : (x : A) (L : List A) → In x L → In (f x) (map f L)
  in_map x [] i = absurd i
  in_map x (y ∷ L) (inl e) = inl (ap f e)
  in_map x (y ∷ L) (inr i) = inr (in_map x L i)

  -- and nothing else is
  pub map_in : (y : B) (L : List A) → In y (map f L) → Made f L y
  map_in y [] i = absurd i
  map_in y (x ∷ L) (inl e) = record { from = x; there = inl refl; made = sym e }
  map_in y (x ∷ L) (inr i) = let m = map_in y L i in record { from = m.from; there = inr m.there; made = m.made }

module _ (f : ℕ → ℕ) where
  -- what it makes of the number at a place stands there
  pub map_at : (i : ℕ) (L : List ℕ) → i < length L → get_or (map f L) i 0 ≡ f (get_or L i 0)
  map_at i [] h = absurd (omega arith)
  map_at zero (y ∷ L) h = refl
  map_at (suc i) (y ∷ L) h = map_at i L (le_of_suc-le-suc h)

  -- what another makes of those
  pub map_made : (g h : ℕ → ℕ) (L : List ℕ) → ((x : ℕ) → In x L → g (f x) ≡ h x) → map g (map f L) ≡ map h L
  map_made g h [] e = refl
  map_made g h (x ∷ L) e = ap₂ {C = List ℕ} (λ u v. u ∷ v) (e x (inl refl)) (map_made g h L (λ y i. e y (inr i)))
