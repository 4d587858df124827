-- Lists whose members stand at positions, one behind the other. What holds of each and its position goes through joined lists part by part, since the
-- second part stands where the first ends.
use Prim.Native.Nat.{ℕ, zero, suc, ◌+◌, ◌≤◌, ◌<◌}
use mathlib.Core.List.{List, [], ◌∷◌, ◌++◌, map}
use mathlib.Core.Logic.{inl, inr}
use mathlib.Core.Path.{◌≡◌, refl, sym, subst}
use native.Mathlib.Nat.{add-zero}
use native.Mathlib.Omega.{arith}
use lib.ListN.{length, get_or, length-append}
use lib.Seq.{append_snoc, get_or-append_seam}
use Rattle.sort.specs.Ascending.{In}

-- what holds of each of a list and its position, from a position on
abbrev pub AllAt : {A : Type 0} → (ℕ → A → Type 0) → List A → ℕ → Type 0
AllAt P [] at = Unit {0}
AllAt P (x ∷ xs) at = P at x × AllAt P xs (at + 1)

-- one place further on, a list is one shorter
onward : (at k : ℕ) → at + suc k ≡ at + 1 + k
onward at k = omega arith

module _ {A : Type 0} (P : ℕ → A → Type 0) where
  -- both parts of a joined list
  pub all_join : (xs ys : List A) (at : ℕ) → AllAt P xs at → AllAt P ys (at + length xs) → AllAt P (xs ++ ys) at
  all_join [] ys at h k = subst (λ (i : ℕ). AllAt P ys i) (add-zero at) k
  all_join (x ∷ xs) ys at h k = (h.0, all_join xs ys (at + 1) h.1 (subst (λ (i : ℕ). AllAt P ys i) (onward at (length xs)) k))

  -- its first part
  pub all_left : (xs ys : List A) (at : ℕ) → AllAt P (xs ++ ys) at → AllAt P xs at
  all_left [] ys at h = tt
  all_left (x ∷ xs) ys at h = (h.0, all_left xs ys (at + 1) h.1)

  -- its second part
  pub all_right : (xs ys : List A) (at : ℕ) → AllAt P (xs ++ ys) at → AllAt P ys (at + length xs)
  all_right [] ys at h = subst (λ (i : ℕ). AllAt P ys i) (sym (add-zero at)) h
  all_right (x ∷ xs) ys at h = subst (λ (i : ℕ). AllAt P ys i) (sym (onward at (length xs))) (all_right xs ys (at + 1) h.1)

  -- what follows holds too, and the positions lie in any range that has them all
  pub all_so :
      (Q : ℕ → A → Type 0) (lo hi : ℕ) → ((i : ℕ) (x : A) → lo ≤ i → i < hi → P i x → Q i x) → (xs : List A) (at : ℕ) →
      lo ≤ at → at + length xs ≤ hi → AllAt P xs at → AllAt Q xs at
  all_so Q lo hi so [] at l h p = tt
  all_so Q lo hi so (x ∷ xs) at l h p = (so at x l (omega arith) p.0, all_so Q lo hi so xs (at + 1) (omega arith) (omega arith) p.1)

  -- so it holds of the one at a position
  pub all_at : (none : A) (xs : List A) (at i : ℕ) → i < length xs → AllAt P xs at → P (at + i) (get_or xs i none)
  all_at none [] at i h p = absurd (omega arith)
  all_at none (x ∷ xs) at zero h p = subst (λ (j : ℕ). P j x) (sym (add-zero at)) p.0
  all_at none (x ∷ xs) at (suc i) h p = subst (λ (j : ℕ). P j (get_or xs i none)) (sym (onward at i)) (all_at none xs (at + 1) i (omega arith) p.1)

-- what holds of the numbers that a list's members give, and what of the members themselves
pub all_given :
    (P : ℕ → ℕ → Type 0) (Q : ℕ → Type 0) (f : ℕ → ℕ) (xs : List ℕ) (at : ℕ) → ((x : ℕ) → In x xs → Q x) → AllAt P (map f xs) at →
    AllAt (λ i x. P i (f x) × Q x) xs at
all_given P Q f [] at q p = tt
all_given P Q f (x ∷ xs) at q p = ((p.0, q x (inl refl)), all_given P Q f xs (at + 1) (λ y i. q y (inr i)) p.1)

-- a number stands at a position of a list
pub record StandsAt (rows : List ℕ) (i x : ℕ) : Type 0 where
  pub here : get_or rows i 0 ≡ x
  pub inside : i < length rows

-- the numbers of a list stand in it, behind those before them
pub all_stand : (front rows : List ℕ) → AllAt (StandsAt (front ++ rows)) rows (length front)
all_stand front [] = tt
all_stand front (x ∷ rows) = (
  record { here = get_or-append_seam front x rows 0; inside = omega (arith, length-append front (x ∷ rows)) },
  rw (append_snoc, length-append) at (all_stand (front ++ (x ∷ [])) rows),
)
