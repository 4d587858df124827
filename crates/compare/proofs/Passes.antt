-- Which numbers pass a test: some does exactly where the count is above 0; the ids of those that pass are exactly their ids, ascending where the ids
-- rise.
use Prim.Native.Nat.{ℕ, zero, suc, ◌≤◌, ◌<◌, zero-le}
use mathlib.Core.Bool.{Bool, true, false}
use mathlib.Core.List.{[], ◌∷◌}
use mathlib.Core.Path.{◌≡◌, refl, sym, ap, ◌∙◌}
use native.Mathlib.Nat.{le_refl}
use native.Mathlib.Numerals.{add-one}
use native.Mathlib.Omega.{arith}
use borrow.Author.Tests.{lt-ltb, ltb-true}
use lib.Dec.{ltb}
use Rattle.page.specs.Search.{count}
use Rattle.page.proofs.Searching.{clash, by_test, count_none}
use Rattle.sort.proofs.Ascending.{ascends_on}
use Rattle.sort.specs.Ascending.{In, Ascends}
use Rattle.sort.proofs.Times.{in_arranged, arranged_in}
use Rattle.chunk.specs.Live.{passed, ids_of}
use Rattle.chunk.proofs.Living.{Bears, count_skip, count_below, ids_in_lem, ids_of_lem, passed_none, passed_skip, passed_take}

module _ (test : ℕ → Bool) where
  -- one of 0 to n - 1 that passes
  pub record Passes (n : ℕ) : Type 0 where
    pub at : ℕ
    pub inside : at < n
    pub passes : test at ≡ true

  -- where some are counted
  pub counted_passes : (n : ℕ) → ltb 0 (count test n) ≡ true → Passes n
  counted_passes zero e = absurd (let h = ltb-true 0 (count test 0) e in omega (arith, count_none test))
  counted_passes (suc n) e =
      by_test (test n) _
      (λ t. record { at = n; inside = le_refl _; passes = t })
      (λ t.
      let same : count test (suc n) ≡ count test n = ap (count test) (sym (add-one n)) ∙ count_skip test n t in
      let w = counted_passes n (rw same at e) in
      record { at = w.at; inside = omega (arith, w.inside); passes = w.passes })

  -- and only there
  pub passes_counted : (n : ℕ) → Passes n → ltb 0 (count test n) ≡ true
  passes_counted n w = lt-ltb 0 (count test n) (omega (arith, count_below test w.at n w.inside w.passes))

  -- where none is counted none passes
  pub uncounted : (n : ℕ) → ltb 0 (count test n) ≡ false → (i : ℕ) → i < n → test i ≡ false
  uncounted n e i h =
      by_test (test i) _
      (λ t. let z : true ≡ false = sym (passes_counted n (record { at = i; inside = h; passes = t })) ∙ e in clash (cc))
      (λ t. t)

  module _ (id : ℕ → ℕ) where
    -- the id of each that passes is there
    pub passed_in : (n x : ℕ) → Bears test id n x → In x (passed test id n)
    unfolding ids_of
    passed_in n x w = arranged_in x (passed test id n) (ids_in_lem test id x n w)

    -- and each of them is the id of one that passes
    pub passed_of : (n x : ℕ) → In x (passed test id n) → Bears test id n x
    unfolding ids_of
    passed_of n x i = ids_of_lem test id x n (in_arranged x (passed test id n) i)

    -- none, where none passes
    pub passed_nothing : (n : ℕ) → ((i : ℕ) → i < n → test i ≡ false) → passed test id n ≡ []
    passed_nothing zero f = passed_none test id
    passed_nothing (suc n) f =
        ap (passed test id) (sym (add-one n)) ∙ passed_skip test id n (f n (le_refl _)) ∙ passed_nothing n (λ i h. f i (omega arith))

    -- and only then
    pub nothing_passed : (n : ℕ) → passed test id n ≡ [] → (i : ℕ) → i < n → test i ≡ false
    nothing_passed n e i h =
        by_test (test i) _
        (λ t. absurd (rw e at (passed_in n (id i) (record { page = i; inside = h; passes = t; bears = refl }))))
        (λ t. t)

-- the ids ascend where ids of greater numbers are greater
pub passed_ascends :
    (test : ℕ → Bool) (id : ℕ → ℕ) (m : ℕ) → ((i j : ℕ) → i < j → j < m → id i < id j) → (n : ℕ) → n ≤ m → Ascends 0 (passed test id n)
passed_ascends test id m rise zero h = rw (passed_none test id) tt
passed_ascends test id m rise (suc n) h =
    let a = passed_ascends test id m rise n (omega arith) in
    rw (← add-one n)
    (by_test (test n) _
    (λ t.
    rw (passed_take test id n t)
    (ascends_on 0 (id n) (passed test id n) (id n ∷ []) zero-le a
    (λ y i.
    let w = passed_of test id n y i in
    let e = w.bears in
    omega (arith, rise w.page n w.inside h))
    (le_refl _, tt)))
    (λ t. rw (passed_skip test id n t) a))
