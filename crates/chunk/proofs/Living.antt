-- The live list. The ids of pages that pass a test are listed by putting one after another into an ascending list: the list has as many ids as
-- there are such pages, exactly their ids, and, where no two of them have the same id, no id twice.
--
-- For live pages no two have: each is the newest header of its object, and an object has one. So the live list has the ids of exactly those
-- objects that have a newest header whose parent is neither 3 nor 4, each once, ascending, and as many as there are live pages.
--
-- Likewise no two pages are the first record of one object, and every object of a record has a first: as many pages are first records as
-- the records have distinct ids.
use Rattle.std.specs.Prelude.{Option, Some, None}
use Prim.Native.Nat.{ℕ, zero, suc, ◌+◌, ◌≤◌, ◌<◌, zero-le}
use mathlib.Core.Bool.{Bool, true, false, not, ◌&&◌, ◌||◌}
use mathlib.Core.List.{[], ◌∷◌, ◌++◌}
use mathlib.Core.Logic.{⊎_elim}
use mathlib.Core.Path.{◌≡◌, refl, sym, ap, ◌∙◌}
use native.Mathlib.Nat.{not-suc-le-zero, le_of_suc-le-suc, eq-or-lt_of_le, le_refl, le_trans}
use native.Mathlib.Numerals.{add-one}
use native.Mathlib.Omega.{arith}
use borrow.Author.Tests.{not-true, eqb-true, eqb-false, eq-eqb, ne_eqb, ltb-true, ltb-false}
use lib.Dec.{eqb, ltb}
use lib.ListN.{length, length-append}
use Rattle.page.specs.Choice.{pick}
use Rattle.page.specs.Search.{count, more}
use Rattle.page.specs.Records.{is_header}
use Rattle.page.specs.declared.record.Record.{Record}
use Rattle.page.specs.declared.record.Record.TheVariants.{Header}
use Rattle.page.specs.declared.record.Header as header
use Rattle.page.proofs.Layouts.{and_left, and_right}
use Rattle.page.proofs.Searching.{clash, by_test, count_none, count_step}
use Rattle.sort.specs.Arranged.{ascend, arranged}
use Rattle.sort.specs.Ascending.{In, Ascends}
use Rattle.sort.proofs.Arranging.{arranged_none, arranged_behind, arranged_length}
use Rattle.sort.proofs.Ascending.{ascend_new, ascend_kept, ascend_back, ascend_ascends}
use Rattle.chunk.specs.Gather.{gather}
use Rattle.chunk.specs.Records.{is_of, header_of, is_gone}
use Rattle.chunk.specs.Newest.{newest_header, records}
use Rattle.chunk.specs.Live.{passed, ids_of, is_at, object_at, live_page, live_ids, live_count, object_page, object_ids, object_count}
use Rattle.chunk.proofs.Records.{of_object, object_of_lem}
use Rattle.chunk.proofs.Gathering.{gather_step, since_none, since_skip, since_one}
use Rattle.chunk.proofs.Meaning.{newest_found}

-- one that does not pass, and one that does
pub count_skip : (test : ℕ → Bool) (n : ℕ) → test n ≡ false → count test (n + 1) ≡ count test n
count_skip test n t = count_step test n ∙ rw t

pub count_take : (test : ℕ → Bool) (n : ℕ) → test n ≡ true → count test (n + 1) ≡ count test n + 1
count_take test n t = count_step test n ∙ rw t

more_keeps : (b : Bool) (m : ℕ) → m ≤ more b m
more_keeps true m = omega arith
more_keeps false m = omega arith

-- one more passes below n than below p, if p passes and lies below n
pub count_below : (test : ℕ → Bool) (p n : ℕ) → p < n → test p ≡ true → count test p + 1 ≤ count test n
count_below test p zero h t = absurd (not-suc-le-zero h)
count_below test p (suc n) h t =
    rw (← add-one n, count_step test n)
    (⊎_elim (λ (e : p ≡ n). rw (← e, t) (le_refl _)) (λ (k : p < n). le_trans (count_below test p n k t) (more_keeps (test n) (count test n))) (eq-or-lt_of_le (le_of_suc-le-suc h)))

-- no more pass a test than one that they all pass
pub count_weaker : (t u : ℕ → Bool) → ((p : ℕ) → t p ≡ true → u p ≡ true) → (n : ℕ) → count t n ≤ count u n
count_weaker t u weaker zero = rw (count_none t) zero-le
count_weaker t u weaker (suc n) =
    let h = count_weaker t u weaker n in
    rw (← add-one n, count_step t n, count_step u n)
    (by_test (t n) _
    (λ e. rw (e, weaker n e) (omega arith))
    (λ e. rw e (le_trans h (more_keeps (u n) (count u n)))))

-- one of 0 to n - 1 that passes a test and has the id x
pub record Bears (test : ℕ → Bool) (id : ℕ → ℕ) (n x : ℕ) : Type 0 where
  pub page : ℕ
  pub inside : page < n
  pub passes : test page ≡ true
  pub bears : id page ≡ x

wider : {test : ℕ → Bool} {id : ℕ → ℕ} {n x : ℕ} → Bears test id n x → Bears test id (suc n) x
wider w = record { page = w.page; inside = omega (arith, w.inside); passes = w.passes; bears = w.bears }

module _ (test : ℕ → Bool) (id : ℕ → ℕ) where
  -- no page, and one page more: as they come, and ascending
  pub passed_none : passed test id 0 ≡ []
  unfolding passed gather
  passed_none = refl

  passed_step : (n : ℕ) → passed test id (n + 1) ≡ pick (test n) (passed test id n ++ (id n ∷ [])) (passed test id n)
  unfolding passed
  passed_step n = gather_step _ _ n

  pub passed_skip : (n : ℕ) → test n ≡ false → passed test id (n + 1) ≡ passed test id n
  passed_skip n t = passed_step n ∙ rw t

  pub passed_take : (n : ℕ) → test n ≡ true → passed test id (n + 1) ≡ passed test id n ++ (id n ∷ [])
  passed_take n t = passed_step n ∙ rw t

  ids_none : ids_of test id 0 ≡ []
  unfolding ids_of
  ids_none = ap arranged passed_none ∙ arranged_none

  ids_skip : (n : ℕ) → test n ≡ false → ids_of test id (n + 1) ≡ ids_of test id n
  unfolding ids_of
  ids_skip n t = ap arranged (passed_skip n t)

  ids_take : (n : ℕ) → test n ≡ true → ids_of test id (n + 1) ≡ ascend (id n) (ids_of test id n)
  unfolding ids_of
  ids_take n t = ap arranged (passed_take n t) ∙ arranged_behind (id n) (passed test id n)

  -- there are as many ids as pages that pass
  pub passed_length : (n : ℕ) → length (passed test id n) ≡ count test n
  passed_length zero = ap length passed_none ∙ sym (count_none test)
  passed_length (suc n) =
      rw (← add-one n)
      (by_test (test n) _
      (λ t. ap length (passed_take n t) ∙ length-append (passed test id n) (id n ∷ []) ∙ ap (λ (k : ℕ). k + 1) (passed_length n) ∙ sym (count_take test n t))
      (λ t. ap length (passed_skip n t) ∙ passed_length n ∙ sym (count_skip test n t)))

  pub ids_length : (n : ℕ) → length (ids_of test id n) ≡ count test n
  unfolding ids_of
  ids_length n = arranged_length (passed test id n) ∙ passed_length n

  -- the ids of those that pass are there
  pub ids_in_lem : (x n : ℕ) → Bears test id n x → In x (ids_of test id n)
  ids_in_lem x zero w = absurd (not-suc-le-zero w.inside)
  ids_in_lem x (suc n) w =
      rw (← add-one n)
      (⊎_elim
      (λ (e : w.page ≡ n). rw (ids_take n (ap test (sym e) ∙ w.passes)) (rw (← w.bears, e) (ascend_new (id n) (ids_of test id n))))
      (λ (k : w.page < n).
      let i : In x (ids_of test id n) = ids_in_lem x n (record { page = w.page; inside = k; passes = w.passes; bears = w.bears }) in
      by_test (test n) _ (λ t. rw (ids_take n t) (ascend_kept (id n) x (ids_of test id n) i)) (λ t. rw (ids_skip n t) i))
      (eq-or-lt_of_le (le_of_suc-le-suc w.inside)))

  -- and no others
  pub ids_of_lem : (x n : ℕ) → In x (ids_of test id n) → Bears test id n x
  ids_of_lem x zero i = absurd (rw ids_none at i)
  ids_of_lem x (suc n) i =
      let j : In x (ids_of test id (n + 1)) = rw add-one i in
      by_test (test n) _
      (λ t.
      ⊎_elim
      (λ e. record { page = n; inside = le_refl _; passes = t; bears = sym e })
      (λ k. wider (ids_of_lem x n k))
      (ascend_back (id n) x (ids_of test id n) (rw (ids_take n t) at j)))
      (λ t. wider (ids_of_lem x n (rw (ids_skip n t) at j)))

  -- no id is there twice, where no two of 0 to m - 1 that pass have the same
  pub ids_ascend_below :
      (m : ℕ) → ((p q : ℕ) → p < m → q < m → test p ≡ true → test q ≡ true → id p ≡ id q → p ≡ q) → (n : ℕ) → n ≤ m → Ascends 0 (ids_of test id n)
  ids_ascend_below m apart zero h = rw ids_none tt
  ids_ascend_below m apart (suc n) h =
      rw (← add-one n)
      (by_test (test n) _
      (λ t.
      rw (ids_take n t)
      (ascend_ascends (id n) 0 (ids_of test id n) zero-le (ids_ascend_below m apart n (omega arith))
      (λ i.
      let w = ids_of_lem (id n) n i in
      let e : w.page ≡ n = apart w.page n (omega (arith, w.inside)) (omega arith) w.passes t w.bears in
      omega (arith, w.inside))))
      (λ t. rw (ids_skip n t) (ids_ascend_below m apart n (omega arith))))

  -- the same where no two at all have
  pub ids_ascend : ((p q : ℕ) → test p ≡ true → test q ≡ true → id p ≡ id q → p ≡ q) → (n : ℕ) → Ascends 0 (ids_of test id n)
  ids_ascend apart n = ids_ascend_below n (λ p q h k. apart p q) n (le_refl n)

-- a search that found page p
at_some : (p : ℕ) (r : Option ℕ) → is_at p r ≡ true → r ≡ Some p
at_some p None e = clash (cc)
at_some p (Some q) e = ap Some (eqb-true q p e)

module _ (says : ℕ → Record) where
  module _ (n : ℕ) where
    -- object o is live: it has a newest header, whose parent is neither 3 nor 4
    pub record Live (o : ℕ) : Type 0 where
      pub header : ℕ
      pub newest_header_lem : newest_header says o n ≡ Some header
      pub kept : is_gone (says header) ≡ false

    -- a page that is no header is not live, and a header by its parent and its object's newest header
    pub live_other : (p : ℕ) → is_header (says p) ≡ false → live_page says n p ≡ false
    live_other p e = rw e

    pub live_header :
        (p : ℕ) (h : header.Header) →
        says p ≡ Header h →
        live_page says n p ≡ (not (eqb h.parent.0 3 || eqb h.parent.0 4) && is_at p (newest_header says h.object.0 n))
    live_header p h e = rw e

    -- a live page is the newest header of its object, and that is live
    live-page : (p : ℕ) → live_page says n p ≡ true → (newest_header says (object_at says p) n ≡ Some p) × (is_gone (says p) ≡ false)
    live-page p e =
        let r = and_right (is_header (says p)) _ e in
        (at_some p _ (and_right (not (is_gone (says p))) _ r), not-true (is_gone (says p)) (and_left (not (is_gone (says p))) _ r))

    -- the newest header of a live object is a live page
    page-live : (o : ℕ) → Live o → Bears (live_page says n) (object_at says) n o
    page-live o w =
        let p = w.header in
        let f = newest_found says (header_of o) n p w.newest_header_lem in
        let r = and_right (is_of o (says p)) (is_header (says p)) f.passes in
        let e : object_at says p ≡ o = of_object o (says p) (and_left (is_of o (says p)) _ f.passes) in
        record { page = p; inside = f.below; passes = rw (r, w.kept, e, w.newest_header_lem) (eq-eqb p p refl); bears = e }

    -- an object has one newest header
    live-apart : (p q : ℕ) → live_page says n p ≡ true → live_page says n q ≡ true → object_at says p ≡ object_at says q → p ≡ q
    live-apart p q t u e =
        let f : Some p ≡ Some q = sym (live-page p t).0 ∙ ap (λ (o : ℕ). newest_header says o n) e ∙ (live-page q u).0 in
        cc

    -- the ids of the live pages among the first m ascend, each once
    pub live_ascends : (m : ℕ) → Ascends 0 (ids_of (live_page says n) (object_at says) m)
    live_ascends m = ids_ascend (live_page says n) (object_at says) live-apart m

    -- the live list ascends, each id once; it has as many ids as there are live pages; and exactly the live objects are in it
    pub live_ids_ascend : Ascends 0 (live_ids says n)
    unfolding live_ids
    live_ids_ascend = live_ascends n

    pub live_length : length (live_ids says n) ≡ live_count says n
    unfolding live_ids live_count
    live_length = ids_length (live_page says n) (object_at says) n

    pub live_in : (o : ℕ) → Live o → In o (live_ids says n)
    unfolding live_ids
    live_in o w = ids_in_lem (live_page says n) (object_at says) o n (page-live o w)

    pub live_of : (o : ℕ) → In o (live_ids says n) → Live o
    unfolding live_ids
    live_of o i =
        let w = ids_of_lem (live_page says n) (object_at says) o n i in
        let r = live-page w.page w.passes in
        record { header = w.page; newest_header_lem = rw w.bears at r.0; kept = r.1 }

  -- an object with a record among the first n pages has some there
  pub record_some : (o p n : ℕ) → p < n → is_of o (says p) ≡ true → records says o n ≡ 0 → ⊥
  record_some o p zero h t e = not-suc-le-zero h
  record_some o p (suc n) h t e =
      let f : records says o (n + 1) ≡ 0 = rw add-one e in
      by_test (is_of o (says n)) _
      (λ u. omega (arith, since_one says o 0 n u zero-le))
      (λ u.
      ⊎_elim
      (λ (k : p ≡ n). let z : true ≡ false = sym t ∙ ap (λ (q : ℕ). is_of o (says q)) k ∙ u in clash (cc))
      (λ (k : p < n). record_some o p n k t (sym (since_skip says o 0 n u) ∙ f))
      (eq-or-lt_of_le (le_of_suc-le-suc h)))

  -- and the other way round
  record_found : (o n : ℕ) → (records says o n ≡ 0 → ⊥) → Bears (λ p. is_of o (says p)) (object_at says) n o
  record_found o zero h = absurd (h (since_none says o 0))
  record_found o (suc n) h =
      by_test (is_of o (says n)) _
      (λ u. record { page = n; inside = le_refl _; passes = u; bears = of_object o (says n) u })
      (λ u. wider (record_found o n (λ e. h (rw (← add-one n) (since_skip says o 0 n u ∙ e)))))

  -- every object of a record has a first one
  first_record : (o n p : ℕ) → p < n → (o ≡ 0 → ⊥) → object_at says p ≡ o → Bears (object_page says) (object_at says) n o
  first_record o zero p h z e = absurd (not-suc-le-zero h)
  first_record o (suc n) p h z e =
      by_test (eqb (records says o p) 0) _
      (λ t. record { page = p; inside = h; passes = rw (e, ne_eqb o 0 z, t); bears = e })
      (λ t. let w = record_found o p (eqb-false _ _ t) in wider (first_record o n w.page (omega (arith, w.inside)) z w.bears))

  -- behind which none is first
  object_page_lem : (p : ℕ) → object_page says p ≡ true → (object_at says p ≡ 0 → ⊥) × (records says (object_at says p) p ≡ 0)
  object_page_lem p t =
      let z = not (eqb (object_at says p) 0) in
      (eqb-false _ _ (not-true _ (and_left z _ t)), eqb-true _ _ (and_right z _ t))

  none_behind : (p q : ℕ) → p < q → object_at says p ≡ object_at says q → object_page says q ≡ true → ⊥
  none_behind p q h e t = record_some (object_at says q) p q h (object_of_lem _ (says p) (object_page_lem q t).0 e) (object_page_lem q t).1

  object_apart : (p q : ℕ) → object_page says p ≡ true → object_page says q ≡ true → object_at says p ≡ object_at says q → p ≡ q
  object_apart p q t u e =
      by_test (ltb p q) _
      (λ h. absurd (none_behind p q (ltb-true _ _ h) e u))
      (λ h.
      by_test (ltb q p) _
      (λ k. absurd (none_behind q p (ltb-true _ _ k) (sym e) t))
      (λ k. omega (arith, ltb-false p q h, ltb-false q p k)))

  -- they ascend, each once; they are as many as the count says; and they are exactly the ids of records
  pub objects_ascend : (n : ℕ) → Ascends 0 (object_ids says n)
  objects_ascend n = ids_ascend (object_page says) (object_at says) object_apart n

  pub objects_length : (n : ℕ) → length (object_ids says n) ≡ object_count says n
  unfolding object_count
  objects_length n = ids_length (object_page says) (object_at says) n

  pub objects_in_lem : (n p : ℕ) → p < n → (object_at says p ≡ 0 → ⊥) → In (object_at says p) (object_ids says n)
  objects_in_lem n p h z = ids_in_lem (object_page says) (object_at says) (object_at says p) n (first_record (object_at says p) n p h z refl)

  pub objects_of_lem : (n o : ℕ) → In o (object_ids says n) → (o ≡ 0 → ⊥) × Bears (λ p. is_of o (says p)) (object_at says) n o
  objects_of_lem n o i =
      let w = ids_of_lem (object_page says) (object_at says) o n i in
      let Some : o ≡ 0 → ⊥ = rw w.bears at (object_page_lem w.page w.passes).0 in (
        Some,
        record { page = w.page; inside = w.inside; passes = object_of_lem o (says w.page) Some w.bears; bears = w.bears },
      )
