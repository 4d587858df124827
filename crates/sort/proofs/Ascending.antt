-- Ascending lists. A number that is not in an ascending list and is put into it leaves the list ascending, with exactly that number more; and
-- two ascending lists with the same members are equal, since the first of each is the least of the members.
use Prim.Native.Nat.{ℕ, suc, ◌≤◌, ◌<◌}
use mathlib.Core.Bool.{Bool, true, false, cond}
use mathlib.Core.List.{List, [], ◌∷◌, ◌++◌}
use mathlib.Core.Logic.{◌⊎◌, inl, inr, ⊎_elim}
use mathlib.Core.Path.{◌≡◌, refl, ap₂}
use native.Mathlib.Nat.{le_refl}
use native.Mathlib.Omega.{arith}
use borrow.Author.Tests.{ltb-true, ltb-false}
use lib.Dec.{ltb}
use Rattle.sort.specs.Arranged.{ascend}
use Rattle.sort.specs.Ascending.{In, Ascends}

-- its members are not below b
pub ascends_in : (b x : ℕ) (L : List ℕ) → Ascends b L → In x L → b ≤ x
ascends_in b x [] a i = absurd i
ascends_in b x (y ∷ L) a (inl e) = omega (arith, a.0)
ascends_in b x (y ∷ L) a (inr i) = omega (arith, a.0, ascends_in (suc y) x L a.1 i)

-- it ascends from any lower number too
pub ascends_lower : (b c : ℕ) (L : List ℕ) → b ≤ c → Ascends c L → Ascends b L
ascends_lower b c [] h a = tt
ascends_lower b c (x ∷ L) h a = (omega (arith, a.0), a.1)

-- two ascending lists, the second from above the first on, ascend when they are joined
pub ascends_on : (a b : ℕ) (L M : List ℕ) → a ≤ b → Ascends a L → ((x : ℕ) → In x L → x < b) → Ascends b M → Ascends a (L ++ M)
ascends_on a b [] M h s f t = ascends_lower a b M h t
ascends_on a b (x ∷ L) M h s f t = (s.0, ascends_on (suc x) b L M (f x (inl refl)) s.1 (λ y i. f y (inr i)) t)

-- the first of two ascending lists with the same members is the same, and so are the rests
pub same_members : (b : ℕ) (L M : List ℕ) → Ascends b L → Ascends b M → ((x : ℕ) → In x L → In x M) → ((x : ℕ) → In x M → In x L) → L ≡ M
same_members b [] [] a c f g = refl
same_members b [] (y ∷ M) a c f g = absurd (g y (inl refl))
same_members b (x ∷ L) [] a c f g = absurd (f x (inl refl))
same_members b (x ∷ L) (y ∷ M) a c f g =
    let xy : y ≤ x = ascends_in y x (y ∷ M) (le_refl y, c.1) (f x (inl refl)) in
    let yx : x ≤ y = ascends_in x y (x ∷ L) (le_refl x, a.1) (g y (inl refl)) in
    let e : x ≡ y = omega arith in
    ap₂ {C = List ℕ} (λ u v. u ∷ v) e
    (same_members (suc x) L M a.1 (rw e c.1)
    (λ z i. ⊎_elim (λ (q : z ≡ y). absurd (omega (arith, ascends_in (suc x) z L a.1 i))) (λ k. k) (f z (inr i)))
    (λ z i. ⊎_elim (λ (q : z ≡ x). absurd (omega (arith, ascends_in (suc y) z M c.1 i))) (λ k. k) (g z (inr i))))

module _ (o : ℕ) where
  -- the id that was put in is there
  pub ascend_new : (L : List ℕ) → In o (ascend o L)
  unfolding ascend
  ascend_new [] = inl refl
  ascend_new (x ∷ L) = go (ascend_new L) (ltb x o)
    where
      go : In o (ascend o L) → (t : Bool) → In o (cond t (x ∷ ascend o L) (o ∷ x ∷ L))
      go i true = inr i
      go i false = inl refl

  -- the others stay
  pub ascend_kept : (y : ℕ) (L : List ℕ) → In y L → In y (ascend o L)
  unfolding ascend
  ascend_kept y [] i = absurd i
  ascend_kept y (x ∷ L) i = go i (λ k. ascend_kept y L k) (ltb x o)
    where
      go : In y (x ∷ L) → (In y L → In y (ascend o L)) → (t : Bool) → In y (cond t (x ∷ ascend o L) (o ∷ x ∷ L))
      go (inl e) f true = inl e
      go (inr k) f true = inr (f k)
      go i f false = inr i

  -- and no other came
  pub ascend_back : (y : ℕ) (L : List ℕ) → In y (ascend o L) → (y ≡ o) ⊎ In y L
  unfolding ascend
  ascend_back y [] i = i
  ascend_back y (x ∷ L) i = go (ltb x o) i (λ k. ascend_back y L k)
    where
      go : (t : Bool) → In y (cond t (x ∷ ascend o L) (o ∷ x ∷ L)) → (In y (ascend o L) → (y ≡ o) ⊎ In y L) → (y ≡ o) ⊎ In y (x ∷ L)
      go true (inl e) f = inr (inl e)
      go true (inr k) f = ⊎_elim (λ e. inl e) (λ m. inr (inr m)) (f k)
      go false i f = i

  -- the list ascends as before
  pub ascend_ascends : (b : ℕ) (L : List ℕ) → b ≤ o → Ascends b L → (In o L → ⊥) → Ascends b (ascend o L)
  unfolding ascend
  ascend_ascends b [] h a n = (h, tt)
  ascend_ascends b (x ∷ L) h a n = go (ltb x o) refl (λ k. ascend_ascends (suc x) L k a.1 (λ i. n (inr i)))
    where
      go : (t : Bool) → ltb x o ≡ t → (suc x ≤ o → Ascends (suc x) (ascend o L)) → Ascends b (cond t (x ∷ ascend o L) (o ∷ x ∷ L))
      go true e f = (a.0, f (ltb-true _ _ e))
      go false e f =
          let k : o ≤ x = ltb-false x o e in
          let d : o ≡ x → ⊥ = λ q. n (inl q) in
          (h, (omega arith, a.1))
