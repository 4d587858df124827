-- The records of an object by their ages. An age has its page in its lower word, so that no two pages have one age: the list of ages ascends, and its
-- places are the records. So the last place whose page passes a test is the newest of the pages that pass.
use Rattle.std.specs.Prelude.{Some, None}
use Prim.Native.Nat.{ℕ, zero, suc, ◌+◌, ◌≤◌, ◌<◌, zero-le}
use mathlib.Core.Bool.{Bool, true, false}
use mathlib.Core.Path.{◌≡◌, refl, sym, ap, ◌∙◌}
use native.Mathlib.Nat.{le_refl}
use native.Mathlib.Numerals.{add-one}
use native.Mathlib.Omega.{arith}
use borrow.Author.Tests.{ltb-true, ltb-false}
use lib.Dec.{ltb}
use lib.ListN.{length, get_or}
use Rattle.page.specs.Search.{count}
use Rattle.page.specs.declared.record.Record.{Record}
use Rattle.page.proofs.Searching.{clash, by_test, count_none}
use Rattle.sort.specs.Ascending.{Ascends}
use Rattle.sort.proofs.Places.{in_at, at_in, ascends_at}
use Rattle.chunk.specs.Newest.{newest_where, records}
use Rattle.chunk.specs.Records.{age_of}
use Rattle.chunk.proofs.Gathering.{since_none, since_skip, since_one}
use Rattle.chunk.proofs.Living.{count_skip, count_take, ids_length, ids_in_lem, ids_of_lem, ids_ascend_below}
use Rattle.chunk.proofs.Meaning.{where_is, where_none_is}
use Rattle.records.specs.Written.{page_of, is_record, written, page_at}

-- the page of an age
pub age_page : (says : ℕ → Record) (p : ℕ) → p < 4294967296 → page_of (age_of says p) ≡ p
age_page says p h = omega arith

-- two places are one, or one is behind the other
pub either : (i j : ℕ) (P : Type 0) → (i < j → P) → (i ≡ j → P) → (j < i → P) → P
either i j P f g h =
    by_test (ltb i j) P
    (λ t. f (ltb-true _ _ t))
    (λ t. by_test (ltb j i) P (λ u. h (ltb-true _ _ u)) (λ u. g (omega (arith, ltb-false i j t, ltb-false j i u))))

module _ (says : ℕ → Record) (o : ℕ) where
  -- as many pages are counted as records
  pub records_count : (n : ℕ) → count (is_record says o) n ≡ records says o n
  records_count zero = count_none _ ∙ sym (since_none says o 0)
  records_count (suc n) =
      rw (← add-one n)
      (by_test (is_record says o n) _
      (λ t. count_take _ n t ∙ ap (λ (k : ℕ). k + 1) (records_count n) ∙ sym (since_one says o 0 n t zero-le))
      (λ t. count_skip _ n t ∙ records_count n ∙ sym (since_skip says o 0 n t)))

  module _ (n : ℕ) where
    -- so many are written
    pub written_length : length (written says o n) ≡ records says o n
    unfolding written
    written_length = ids_length (is_record says o) (age_of says) n ∙ records_count n

    -- what stands at place i: the age of a record
    pub record IsWritten (i : ℕ) : Type 0 where
      pub page : page_at says o n i < n
      pub its : is_record says o (page_at says o n i) ≡ true
      pub age : age_of says (page_at says o n i) ≡ get_or (written says o n) i 0

    -- the place of page p
    pub record Placed (p : ℕ) : Type 0 where
      pub place : ℕ
      pub inside : place < length (written says o n)
      pub its : get_or (written says o n) place 0 ≡ age_of says p
      pub page : page_at says o n place ≡ p

    module _ (few : n ≤ 4294967296) where
      -- the ages ascend, since no two pages have one age
      ascends : Ascends 0 (written says o n)
      unfolding written
      ascends = ids_ascend_below (is_record says o) (age_of says) n (λ p q h k t u e. omega arith) n (le_refl n)

      -- each place has the age of a record, and each record its place
      pub written_at : (i : ℕ) → i < length (written says o n) → IsWritten i
      unfolding written
      written_at i h =
          let w = ids_of_lem (is_record says o) (age_of says) (get_or (written says o n) i 0) n (at_in i (written says o n) h) in
          let e : page_at says o n i ≡ w.page = ap page_of (sym w.bears) ∙ age_page says w.page (omega (arith, w.inside)) in
          record { page = rw e w.inside; its = rw e w.passes; age = rw e w.bears }

      pub written_place : (p : ℕ) → p < n → is_record says o p ≡ true → Placed p
      unfolding written
      written_place p h t =
          let s = in_at (age_of says p) (written says o n)
          (ids_in_lem (is_record says o) (age_of says) (age_of says p) n (record { page = p; inside = h; passes = t; bears = refl })) in
          record { place = s.place; inside = s.inside; its = s.here; page = ap page_of s.here ∙ age_page says p (omega arith) }

      -- a later place has a newer record
      pub written_rises : (i j : ℕ) → i < j → j < length (written says o n) → get_or (written says o n) i 0 < get_or (written says o n) j 0
      written_rises i j h k = ascends_at 0 i j (written says o n) ascends h k

      pub written_order : (i j : ℕ) → i ≤ j → j < length (written says o n) → get_or (written says o n) i 0 ≤ get_or (written says o n) j 0
      written_order i j h k =
          either i j _ (λ m. omega (arith, written_rises i j m k)) (λ (m : i ≡ j). rw m (le_refl _)) (λ m. absurd (omega arith))

      -- a test that only records of the object pass
      module _ (test : ℕ → Bool) (own : (p : ℕ) → p < n → test p ≡ true → is_record says o p ≡ true) where
        -- the last place that passes has the newest page that does
        pub last_newest :
            (i : ℕ) →
            i < length (written says o n) →
            test (page_at says o n i) ≡ true →
            ((j : ℕ) → i < j → j < length (written says o n) → test (page_at says o n j) ≡ false) →
            newest_where says test n ≡ Some (page_at says o n i)
        last_newest i h t none_behind =
            let w = written_at i h in
            where_is says test n (page_at says o n i) record { below = w.page; passes = t; newest = λ q k u. older q k u w } few
          where
            older : (q : ℕ) → q < n → test q ≡ true → IsWritten i → age_of says q ≤ age_of says (page_at says o n i)
            older q k u w =
                let s = written_place q k (own q k u) in
                rw (w.age, ← s.its)
                (either s.place i _
                (λ b. omega (arith, written_rises s.place i b h))
                (λ (e : s.place ≡ i). rw e (le_refl _))
                (λ b. let z : true ≡ false = sym u ∙ ap test (sym s.page) ∙ none_behind s.place b s.inside in clash (cc)))

        -- and where none passes there is none
        pub none_newest : ((j : ℕ) → j < length (written says o n) → test (page_at says o n j) ≡ false) → newest_where says test n ≡ None
        none_newest h =
            where_none_is says test n
            (λ q k. by_test (test q) _
            (λ u.
            let s = written_place q k (own q k u) in
            ap test (sym s.page) ∙ h s.place s.inside)
            (λ u. u))
