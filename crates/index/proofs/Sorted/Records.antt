-- The records of an object as a list, newest first. Insertion of two pages of different ages commutes, so that the list does not depend on the
-- order in which pages come: one page more is one insertion into the list (`recs_add`). The list has exactly the object's records.
use Prim.Native.Nat.{ℕ, zero, suc, ◌≤◌, ◌<◌}
use mathlib.Core.Bool.{Bool, true, false}
use mathlib.Core.List.{List, [], ◌∷◌}
use mathlib.Core.Logic.{◌≢◌, ◌⊎◌, inl, inr, ⊎_elim}
use mathlib.Core.Path.{◌≡◌, refl, sym, ap, ◌∙◌}
use native.Mathlib.Nat.{not-suc-le-zero}
use native.Mathlib.Decide.{ℕ_discrete}
use native.Mathlib.Omega.{arith}
use lib.Dec.{leb, eqb}
use borrow.Author.Tests.{leb-true, leb-false, le-leb, lt-leb, eqb-true, eqb-false, eq-eqb, ne_eqb}
use Rattle.page.specs.Choice.{pick}
use Rattle.sort.specs.Ascending.{In}
use Rattle.index.specs.Held.{insert, recs}

module _ (age : ℕ → ℕ) where
  insert_comm : (a b : ℕ) → age a ≢ age b → (L : List ℕ) → insert age a (insert age b L) ≡ insert age b (insert age a L)
  unfolding insert
  insert_comm a b ne [] = go (leb (age b) (age a)) refl
    where
      go : (t : Bool) → leb (age b) (age a) ≡ t → insert age a (b ∷ []) ≡ insert age b (a ∷ [])
      go true e = let h : age b ≤ age a = leb-true _ _ e in simp (e, lt-leb (age a) (age b) (omega arith))
      go false e = let h : age a < age b = leb-false _ _ e in simp (e, le-leb (age a) (age b) (omega arith))
  insert_comm a b ne (q ∷ L) =
      go (insert_comm a b ne L) (leb (age q) (age a)) (leb (age q) (age b)) (leb (age b) (age a)) refl refl refl
    where
      go :
          insert age a (insert age b L) ≡ insert age b (insert age a L) →
          (t u v : Bool) →
          leb (age q) (age a) ≡ t →
          leb (age q) (age b) ≡ u →
          leb (age b) (age a) ≡ v →
          insert age a (insert age b (q ∷ L)) ≡ insert age b (insert age a (q ∷ L))
      go ih true true true e f g = let h : age b ≤ age a = leb-true _ _ g in simp (e, f, g, lt-leb (age a) (age b) (omega arith))
      go ih true true false e f g = let h : age a < age b = leb-false _ _ g in simp (e, f, g, le-leb (age a) (age b) (omega arith))
      go ih true false v e f g =
          let h : age q ≤ age a = leb-true _ _ e in
          let i : age b < age q = leb-false _ _ f in
          simp (e, f, lt-leb (age a) (age b) (omega arith))
      go ih false true v e f g =
          let h : age a < age q = leb-false _ _ e in
          let i : age q ≤ age b = leb-true _ _ f in
          simp (e, f, lt-leb (age b) (age a) (omega arith))
      go ih false false v e f g = simp (e, f) (ap (λ (l : List ℕ). q ∷ l) ih)

  module _ (p : ℕ) where
    -- the page that was put in is there
    in-new : (L : List ℕ) → In p (insert age p L)
    unfolding insert
    in-new [] = inl refl
    in-new (q ∷ L) = go (in-new L) (leb (age q) (age p))
      where
        go : In p (insert age p L) → (t : Bool) → In p (pick t (p ∷ q ∷ L) (q ∷ insert age p L))
        go ih true = inl refl
        go ih false = inr ih

    module _ (x : ℕ) where
      -- the others stay
      in_kept : (L : List ℕ) → In x L → In x (insert age p L)
      unfolding insert
      in_kept [] h = absurd h
      in_kept (q ∷ L) h = go h (leb (age q) (age p)) (λ k. in_kept L k)
        where
          go : In x (q ∷ L) → (t : Bool) → (In x L → In x (insert age p L)) → In x (pick t (p ∷ q ∷ L) (q ∷ insert age p L))
          go h true f = inr h
          go (inl e) false f = inl e
          go (inr k) false f = inr (f k)

      -- and no other came
      in-back : (L : List ℕ) → In x (insert age p L) → (x ≡ p) ⊎ In x L
      unfolding insert
      in-back [] h = h
      in-back (q ∷ L) h = go (leb (age q) (age p)) h (λ k. in-back L k)
        where
          go :
              (t : Bool) →
              In x (pick t (p ∷ q ∷ L) (q ∷ insert age p L)) →
              (In x (insert age p L) → (x ≡ p) ⊎ In x L) →
              (x ≡ p) ⊎ In x (q ∷ L)
          go true h f = h
          go false (inl e) f = inr (inl e)
          go false (inr k) f = ⊎_elim (λ e. inl e) (λ e. inr (inr e)) (f k)

module _ (obj age : ℕ → ℕ) (o : ℕ) where
  -- every record of o is in its list
  pub recs_in : (m x : ℕ) → x < m → obj x ≡ o → In x (recs obj age o m)
  unfolding recs
  recs_in zero x h e = absurd (not-suc-le-zero h)
  recs_in (suc m) x h e = go (eqb (obj m) o) refl (ℕ_discrete x m) (λ k. recs_in m x k e)
    where
      go :
          (t : Bool) →
          eqb (obj m) o ≡ t →
          Dec (x ≡ m) →
          (x < m → In x (recs obj age o m)) →
          In x (pick t (insert age m (recs obj age o m)) (recs obj age o m))
      go true f (yes k) ih = rw k (in-new age m (recs obj age o m))
      go true f (no k) ih = in_kept age m x (recs obj age o m) (ih (omega arith))
      go false f (yes k) ih = absurd (eqb-false (obj m) o f (ap obj (sym k) ∙ e))
      go false f (no k) ih = ih (omega arith)

  -- and nothing else is
  pub recs_of : (m x : ℕ) → In x (recs obj age o m) → (x < m) × (obj x ≡ o)
  unfolding recs
  recs_of zero x h = absurd h
  recs_of (suc m) x h = go (eqb (obj m) o) refl h (λ k. recs_of m x k)
    where
      go :
          (t : Bool) →
          eqb (obj m) o ≡ t →
          In x (pick t (insert age m (recs obj age o m)) (recs obj age o m)) →
          (In x (recs obj age o m) → (x < m) × (obj x ≡ o)) →
          (x < suc m) × (obj x ≡ o)
      go true f h ih =
          ⊎_elim
          (λ (e : x ≡ m). (omega arith, ap obj e ∙ eqb-true _ _ f))
          (λ k. let r = ih k in (omega arith, r.1))
          (in-back age m x (recs obj age o m) h)
      go false f h ih = let r = ih h in (omega arith, r.1)

  -- an object without records has an empty list
  pub recs_none : (m : ℕ) → ((x : ℕ) → obj x ≡ o → ⊥) → recs obj age o m ≡ []
  unfolding recs
  recs_none zero h = refl
  recs_none (suc m) h = simp (ne_eqb (obj m) o (h m)) (recs_none m h)

  -- the list goes by which pages are the object's
  pub recs_same :
      (obj' : ℕ → ℕ) (m : ℕ) → ((x : ℕ) → x < m → eqb (obj x) o ≡ eqb (obj' x) o) → recs obj age o m ≡ recs obj' age o m
  unfolding recs
  recs_same obj' zero h = refl
  recs_same obj' (suc m) h = rw (h m (omega arith), recs_same obj' m (λ x k. h x (omega arith))) refl

-- one record more, page p, is one insertion
module _
    (obj obj' age : ℕ → ℕ) (o p : ℕ)
    (was : obj p ≡ o → ⊥)
    (is : obj' p ≡ o)
    (rest : (x : ℕ) → x ≢ p → obj' x ≡ obj x)
    (n : ℕ)
    (differ : (x : ℕ) → x < n → x ≢ p → age x ≢ age p)
  where
    pub recs_add : (m : ℕ) → m ≤ n → p < m → recs obj' age o m ≡ insert age p (recs obj age o m)
    unfolding recs
    recs_add zero mn h = absurd (not-suc-le-zero h)
    recs_add (suc m) mn h = go (ℕ_discrete m p) (λ k. recs_add m (omega arith) k)
      where
        go :
            Dec (m ≡ p) →
            (p < m → recs obj' age o m ≡ insert age p (recs obj age o m)) →
            recs obj' age o (suc m) ≡ insert age p (recs obj age o (suc m))
        go (yes e) ih =
            let a : obj' m ≡ o = ap obj' e ∙ is in
            let b : obj m ≡ o → ⊥ = λ f. was (ap obj (sym e) ∙ f) in
            let before : (x : ℕ) → x < m → eqb (obj x) o ≡ eqb (obj' x) o =
            λ x k. ap (λ (y : ℕ). eqb y o) (sym (rest x (λ f. let q : x < p = rw e at k in absurd (omega arith)))) in
            simp (eq-eqb (obj' m) o a, ne_eqb (obj m) o b)
            (ap (λ (x : ℕ). insert age x (recs obj' age o m)) e ∙ ap (insert age p) (sym (recs_same obj age o obj' m before)))
        go (no e) ih = more (rest m e) (ih (omega arith)) (eqb (obj m) o) refl
          where
            more :
                obj' m ≡ obj m →
                recs obj' age o m ≡ insert age p (recs obj age o m) →
                (t : Bool) →
                eqb (obj m) o ≡ t →
                recs obj' age o (suc m) ≡ insert age p (recs obj age o (suc m))
            more same ih true f = rw same (simp f (ap (insert age m) ih ∙ insert_comm age m p (differ m (omega arith) e) (recs obj age o m)))
            more same ih false f = rw same (simp f ih)
