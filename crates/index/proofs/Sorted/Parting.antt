-- A list of records parted at the first that passes a test. In a list that falls, the records before it are newer and those behind it older.
use Prim.Native.Nat.{ℕ, zero, suc, ◌≤◌, ◌<◌}
use mathlib.Core.Bool.{Bool, true, false}
use mathlib.Core.List.{List, [], ◌∷◌, ◌++◌}
use mathlib.Core.Logic.{◌≢◌, inl, inr}
use mathlib.Core.Path.{◌≡◌, refl}
use native.Mathlib.Omega.{arith}
use lib.Dec.{eqb, leb}
use borrow.Author.Tests.{leb-true, leb-false}
use Rattle.page.specs.Choice.{pick}
use Rattle.sort.specs.Ascending.{In}
use Rattle.index.specs.Held.{insert, recs}
use Rattle.index.proofs.Sorted.Records.{recs_of}
use Rattle.index.proofs.Chain.Insertion.{Falls, falls_in}

-- what is in a parted list
pub in_above : (A : List ℕ) (q : ℕ) (B : List ℕ) (x : ℕ) → In x A → In x (A ++ (q ∷ B))
in_above [] q B x i = absurd i
in_above (p ∷ A) q B x (inl e) = inl e
in_above (p ∷ A) q B x (inr i) = inr (in_above A q B x i)

pub in_at : (A : List ℕ) (q : ℕ) (B : List ℕ) → In q (A ++ (q ∷ B))
in_at [] q B = inl refl
in_at (p ∷ A) q B = inr (in_at A q B)

module _ (test : ℕ → Bool) where
  -- no record of a list passes
  abbrev pub Fails : List ℕ → Type 0
  Fails L = (x : ℕ) → In x L → test x ≡ false

  pub fails_at : (A : List ℕ) (q : ℕ) (B : List ℕ) → Fails A → test q ≡ false → Fails B → Fails (A ++ (q ∷ B))
  fails_at [] q B f e g x (inl i) = rw i e
  fails_at [] q B f e g x (inr i) = g x i
  fails_at (p ∷ A) q B f e g x (inl i) = f x (inl i)
  fails_at (p ∷ A) q B f e g x (inr i) = fails_at A q B (λ y j. f y (inr j)) e g x i

  -- none passes, or q is the first that does
  pub data Parted : List ℕ → Type 0 where
    all : {L : List ℕ} → Fails L → Parted L
    at : (A : List ℕ) (q : ℕ) (B : List ℕ) → Fails A → test q ≡ true → Parted (A ++ (q ∷ B))

  pub parted : (L : List ℕ) → Parted L
  parted [] = all (λ x i. absurd i)
  parted (q ∷ L) = go (test q) refl L (parted L)
    where
      more : (M : List ℕ) → test q ≡ false → Fails M → Fails (q ∷ M)
      more M e f x (inl i) = rw i e
      more M e f x (inr i) = f x i

      go : (t : Bool) → test q ≡ t → (M : List ℕ) → Parted M → Parted (q ∷ M)
      go true e M d = at [] q M (λ x i. absurd i) e
      go false e M (all f) = all (more M e f)
      go false e M (at A p B f s) = at (q ∷ A) p B (more A e f) s

module _ (age : ℕ → ℕ) where
  pub falls_above : (A : List ℕ) (q : ℕ) (B : List ℕ) (b : ℕ) → Falls age b (A ++ (q ∷ B)) → (x : ℕ) → In x A → age q < age x
  falls_above [] q B b f x i = absurd i
  falls_above (p ∷ A) q B b f x (inl e) = rw e (falls_in age q (A ++ (q ∷ B)) (age p) f.1 (in_at A q B))
  falls_above (p ∷ A) q B b f x (inr i) = falls_above A q B (age p) f.1 x i

  pub falls_below : (A : List ℕ) (q : ℕ) (B : List ℕ) (b : ℕ) → Falls age b (A ++ (q ∷ B)) → Falls age (age q) B
  falls_below [] q B b f = f.1
  falls_below (p ∷ A) q B b f = falls_below A q B (age p) f.1

  pub falls_same : (age' : ℕ → ℕ) (L : List ℕ) (b : ℕ) → ((x : ℕ) → In x L → age' x ≡ age x) → Falls age b L → Falls age' b L
  falls_same age' [] b h f = tt
  falls_same age' (q ∷ L) b h f =
      (omega (arith, h q (inl refl), f.0), rw (h q (inl refl)) (falls_same age' L (age q) (λ x i. h x (inr i)) f.1))

  falls_insert : (p : ℕ) (L : List ℕ) (b : ℕ) → Falls age b L → age p < b → ((x : ℕ) → In x L → age x ≢ age p) → Falls age b (insert age p L)
  unfolding insert
  falls_insert p [] b f h d = (h, tt)
  falls_insert p (q ∷ L) b f h d = go (leb (age q) (age p)) refl (λ k. falls_insert p L (age q) f.1 k (λ x i. d x (inr i)))
    where
      go :
          (t : Bool) →
          leb (age q) (age p) ≡ t →
          (age p < age q → Falls age (age q) (insert age p L)) →
          Falls age b (pick t (p ∷ q ∷ L) (q ∷ insert age p L))
      go true e ih = let ne = d q (inl refl) in let le : age q ≤ age p = leb-true _ _ e in (h, (omega arith, f.1))
      go false e ih = (f.0, ih (leb-false _ _ e))

-- the list of an object's records falls
module _
    (obj age : ℕ → ℕ) (o n b : ℕ)
    (differ : (x y : ℕ) → x < n → y < n → age x ≡ age y → x ≡ y)
    (below : (x : ℕ) → x < n → age x < b)
  where
    pub recs_falls : (m : ℕ) → m ≤ n → Falls age b (recs obj age o m)
    unfolding recs
    recs_falls zero h = tt
    recs_falls (suc m) h = go (eqb (obj m) o) (recs_falls m (omega arith))
      where
        go : (t : Bool) → Falls age b (recs obj age o m) → Falls age b (pick t (insert age m (recs obj age o m)) (recs obj age o m))
        go true f =
            falls_insert age m (recs obj age o m) b f (below m (omega arith))
            (λ x i e. let r = recs_of obj age o m x i in let q : x ≡ m = differ x m (omega (arith, r.0)) (omega arith) e in absurd (omega (arith, r.0)))
        go false f = f
