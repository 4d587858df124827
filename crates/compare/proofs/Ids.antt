-- The ids in either of two lists: exactly the members of one of them, and where both ascend, ascending, each once. So they are the same for the
-- lists exchanged, and they can be had by merging: the lesser of both first members is the first of them.
use Prim.Native.Nat.{ℕ, suc, ◌≤◌, zero-le}
use mathlib.Core.List.{List, [], ◌∷◌, ◌++◌}
use mathlib.Core.Logic.{◌⊎◌, inl, inr, ⊎_elim}
use mathlib.Core.Path.{◌≡◌, refl, ap, ◌∙◌}
use native.Mathlib.Omega.{arith}
use borrow.Author.Tests.{eqb-true, eqb-false, eq-eqb}
use lib.Dec.{eqb}
use Rattle.page.proofs.Searching.{by_test}
use Rattle.sort.specs.Arranged.{times_in}
use Rattle.sort.specs.Ascending.{In, Ascends}
use Rattle.sort.proofs.Ascending.{ascends_in, ascends_lower, same_members}
use Rattle.sort.proofs.Lists.{keep_in, keep_of, keep_ascends}
use Rattle.sort.proofs.Times.{Once, times_joined, in_times, times_in_lem, times_out, joined_in, in_joined, ascends_once, in_arranged, arranged_in, once_ascends}
use Rattle.compare.specs.Report.{others, in_either}

-- a list that ascends ascends from every number that is not above its members
ascends_from : (b c : ℕ) (L : List ℕ) → Ascends c L → ((x : ℕ) → In x L → b ≤ x) → Ascends b L
ascends_from b c [] a f = tt
ascends_from b c (x ∷ L) a f = (f x (inl refl), a.1)

module _ (A : List ℕ) where
  -- the others of a second list are its members that the first does not have
  others_of : (x : ℕ) (B : List ℕ) → In x (others A B) → In x B × (In x A → ⊥)
  unfolding others
  others_of x B i =
      let r = keep_of _ x B i in
      (r.0, λ k. let z = eqb-true (times_in x A) 0 r.1 in absurd (omega (arith, in_times x A k)))

  -- and whatever is so is one
  others_in : (x : ℕ) (B : List ℕ) → In x B → times_in x A ≡ 0 → In x (others A B)
  unfolding others
  others_in x B i z = keep_in _ x B i (eq-eqb (times_in x A) 0 z)

  -- they ascend where the second list does
  others_ascend : (b : ℕ) (B : List ℕ) → Ascends b B → Ascends b (others A B)
  unfolding others
  others_ascend b B a = keep_ascends _ b B a

  -- a member of either is there
  pub either_in : (x : ℕ) (B : List ℕ) → In x A ⊎ In x B → In x (in_either A B)
  unfolding in_either
  either_in x B i =
      in_arranged x (A ++ others A B)
      (joined_in x A (others A B)
      (by_test (eqb (times_in x A) 0) _
      (λ t.
      let z = eqb-true (times_in x A) 0 t in
      inr (others_in x B (⊎_elim (λ k. absurd (omega (arith, in_times x A k))) (λ k. k) i) z))
      (λ t. let z : times_in x A ≡ 0 → ⊥ = eqb-false _ _ t in inl (times_in_lem x A (omega arith)))))

  -- and nothing else is there
  pub either_of : (x : ℕ) (B : List ℕ) → In x (in_either A B) → In x A ⊎ In x B
  unfolding in_either
  either_of x B i =
      ⊎_elim (λ k. inl k) (λ k. inr (others_of x B k).0) (in_joined x A (others A B) (arranged_in x (A ++ others A B) i))

  -- they ascend, each once
  pub either_ascends : (B : List ℕ) → Ascends 0 A → Ascends 0 B → Ascends 0 (in_either A B)
  unfolding in_either
  either_ascends B a b = once_ascends (A ++ others A B) once
    where
      once : Once (A ++ others A B)
      once y =
          let one = ascends_once y 0 A a in
          let two = ascends_once y 0 (others A B) (others_ascend 0 B b) in
          rw (times_joined y A (others A B))
          (by_test (eqb (times_in y (others A B)) 0) _
          (λ t. let z = eqb-true (times_in y (others A B)) 0 t in omega arith)
          (λ t.
          let z : times_in y (others A B) ≡ 0 → ⊥ = eqb-false _ _ t in
          let i = others_of y B (times_in_lem y (others A B) (omega arith)) in
          omega (arith, times_out y A i.1)))

-- either of two, in the other order
swap : {P Q : Type 0} → P ⊎ Q → Q ⊎ P
swap (inl p) = inr p
swap (inr q) = inl q

-- so the ids of both are the same, whichever list is the first
pub either_swap : (A B : List ℕ) → Ascends 0 A → Ascends 0 B → in_either A B ≡ in_either B A
either_swap A B a b =
    same_members 0 (in_either A B) (in_either B A) (either_ascends A B a b) (either_ascends B A b a)
    (λ x i. either_in B x A (swap (either_of A x B i)))
    (λ x i. either_in A x B (swap (either_of B x A i)))

-- ---- merging

-- where the second list is empty they are those of the first
pub either_left : (A : List ℕ) → Ascends 0 A → in_either A [] ≡ A
either_left A a =
    same_members 0 (in_either A []) A (either_ascends A [] a tt) a
    (λ x i. ⊎_elim (λ k. k) (λ k. absurd k) (either_of A x [] i))
    (λ x i. either_in A x [] (inl i))

-- and where the first is empty those of the second
pub either_right : (B : List ℕ) → Ascends 0 B → in_either [] B ≡ B
either_right B b = either_swap [] B tt b ∙ either_left B b

-- what is in either of two lists that ascend from b
either_from : (b : ℕ) (A B : List ℕ) → Ascends b A → Ascends b B → Ascends b (in_either A B)
either_from b A B p q =
    ascends_from b 0 (in_either A B)
    (either_ascends A B (ascends_lower 0 b A zero-le p) (ascends_lower 0 b B zero-le q))
    (λ x i. ⊎_elim (λ k. ascends_in b x A p k) (λ k. ascends_in b x B q k) (either_of A x B i))

module _ (x : ℕ) (A : List ℕ) (a : Ascends 0 (x ∷ A)) where
  -- the first of the first list is below all of the second
  pub either_less : (B : List ℕ) → Ascends (suc x) B → in_either (x ∷ A) B ≡ x ∷ in_either A B
  either_less B b =
      same_members 0 (in_either (x ∷ A) B) (x ∷ in_either A B) (either_ascends (x ∷ A) B a (ascends_lower 0 (suc x) B zero-le b))
      (zero-le, either_from (suc x) A B a.1 b)
      (λ z i. there z (either_of (x ∷ A) z B i))
      (λ z i. back z i)
    where
      there : (z : ℕ) → In z (x ∷ A) ⊎ In z B → In z (x ∷ in_either A B)
      there z (inl (inl e)) = inl e
      there z (inl (inr k)) = inr (either_in A z B (inl k))
      there z (inr k) = inr (either_in A z B (inr k))

      back : (z : ℕ) → In z (x ∷ in_either A B) → In z (in_either (x ∷ A) B)
      back z (inl e) = either_in (x ∷ A) z B (inl (inl e))
      back z (inr k) = either_in (x ∷ A) z B (⊎_elim (λ m. inl (inr m)) (λ m. inr m) (either_of A z B k))

  -- both are the same
  pub either_both : (B : List ℕ) → Ascends 0 (x ∷ B) → in_either (x ∷ A) (x ∷ B) ≡ x ∷ in_either A B
  either_both B b =
      same_members 0 (in_either (x ∷ A) (x ∷ B)) (x ∷ in_either A B) (either_ascends (x ∷ A) (x ∷ B) a b)
      (zero-le, either_from (suc x) A B a.1 b.1)
      (λ z i. there z (either_of (x ∷ A) z (x ∷ B) i))
      (λ z i. back z i)
    where
      there : (z : ℕ) → In z (x ∷ A) ⊎ In z (x ∷ B) → In z (x ∷ in_either A B)
      there z (inl (inl e)) = inl e
      there z (inl (inr k)) = inr (either_in A z B (inl k))
      there z (inr (inl e)) = inl e
      there z (inr (inr k)) = inr (either_in A z B (inr k))

      back : (z : ℕ) → In z (x ∷ in_either A B) → In z (in_either (x ∷ A) (x ∷ B))
      back z (inl e) = either_in (x ∷ A) z (x ∷ B) (inl (inl e))
      back z (inr k) = either_in (x ∷ A) z (x ∷ B) (⊎_elim (λ m. inl (inr m)) (λ m. inr (inr m)) (either_of A z B k))

-- the first of the second list is below all of the first
pub either_more : (A : List ℕ) (y : ℕ) (B : List ℕ) → Ascends (suc y) A → Ascends 0 (y ∷ B) → in_either A (y ∷ B) ≡ y ∷ in_either A B
either_more A y B a b =
    let a₀ = ascends_lower 0 (suc y) A zero-le a in
    either_swap A (y ∷ B) a₀ b
    ∙ either_less y B b A a
    ∙ ap (λ (l : List ℕ). y ∷ l) (either_swap B A (ascends_lower 0 (suc y) B zero-le b.1) a₀)
