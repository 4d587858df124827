-- Every live object other than the root is in exactly one of the two lists, and the root in none: the second list is those of the live objects
-- other than the root that the first does not have, and nothing else is in the first. The second ascends, since the live list does.
use Prim.Native.Nat.{ℕ}
use mathlib.Core.Bool.{true, false, not}
use mathlib.Core.List.{List}
use mathlib.Core.Logic.{◌⊎◌, inl, inr}
use mathlib.Core.Path.{◌≡◌, refl, sym, ◌∙◌}
use borrow.Author.Tests.{not-true, eqb-false, ne_eqb}
use lib.Dec.{eqb}
use Rattle.page.specs.declared.record.Record.{Record}
use Rattle.page.proofs.Layouts.{and_left, and_right}
use Rattle.page.proofs.Searching.{clash, by_test}
use Rattle.sort.specs.Ascending.{In, Ascends}
use Rattle.sort.proofs.Lists.{keep_in, keep_of, keep_ascends}
use Rattle.chunk.specs.Live.{live_ids}
use Rattle.chunk.proofs.Living.{live_ids_ascend}
use Rattle.tree.specs.Objects.{root}
use Rattle.tree.specs.Paths.{listed}
use Rattle.tree.specs.Tree.{is_in, others}
use Rattle.tree.proofs.Paths.{listed_below}

module _ (says : ℕ → Record) (names : ℕ → List ℕ) (n : ℕ) where
  -- a member of the second list is live, not the root, and not in the first list
  pub others_of : (o : ℕ) → In o (others says names n) → In o (live_ids says n) × (o ≡ root → ⊥) × (is_in o (listed says names n) ≡ false)
  unfolding others
  others_of o i =
      let r = keep_of _ o (live_ids says n) i in
      let a = not (eqb o root) in
      (r.0, eqb-false o root (not-true _ (and_left a _ r.1)), not-true _ (and_right a _ r.1))

  -- and whatever is so is a member
  pub others_in : (o : ℕ) → In o (live_ids says n) → (o ≡ root → ⊥) → is_in o (listed says names n) ≡ false → In o (others says names n)
  unfolding others
  others_in o i r e = keep_in _ o (live_ids says n) i (rw (ne_eqb o root r, e))

  -- a member of the second list is live, and not the root
  pub others_live : (o : ℕ) → In o (others says names n) → In o (live_ids says n) × (o ≡ root → ⊥)
  others_live o i = let r = others_of o i in (r.0, r.1)

  -- the second list ascends
  pub others_ascend : Ascends 0 (others says names n)
  unfolding others
  others_ascend = keep_ascends _ 0 (live_ids says n) (live_ids_ascend says n)

  -- a live object other than the root is in one list, and not in both
  pub one_list :
      (o : ℕ) → In o (live_ids says n) → (o ≡ root → ⊥) →
      ((is_in o (listed says names n) ≡ true) ⊎ In o (others says names n))
      × (is_in o (listed says names n) ≡ true → In o (others says names n) → ⊥)
  one_list o i r = (
    by_test (is_in o (listed says names n)) _ (λ t. inl t) (λ t. inr (others_in o i r t)),
    λ t k. let z : true ≡ false = sym t ∙ (others_of o k).2 in clash (cc),
  )

  -- the root is in none
  pub root_in_none : (is_in root (listed says names n) ≡ false) × (In root (others says names n) → ⊥)
  root_in_none = (
    by_test (is_in root (listed says names n)) _ (λ t. absurd ((listed_below says names n root t).not_root refl)) (λ t. t),
    λ i. (others_of root i).1 refl,
  )
