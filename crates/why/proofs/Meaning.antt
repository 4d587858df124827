-- Each reason is true, in the rules' own terms, and no other would be.
--
-- Past the end some page always sets the size: the size is the newest header's file size, and then that header sets it, or the largest end of newer
-- data, which is the end of one of them. Inside the size each test that a reason passed says what it means: a search that found a page found the newest
-- that there is, and one that found nothing says that there is none.
--
-- And what a reason says determines it: the newest of some pages is one page, since ages differ, so that the searches find what is said.
use Prim.Native.Nat.{ℕ, zero, suc, ◌≤◌, ◌<◌, max}
use Rattle.std.specs.Prelude.{Option, Some, None}
use mathlib.Core.Bool.{Bool, true, false, ◌&&◌, ◌||◌}
use mathlib.Core.Logic.{◌⊎◌, inl, inr, ⊎_elim}
use mathlib.Core.Path.{◌≡◌, refl, ap, ◌∙◌}
use native.Mathlib.Nat.{le_refl}
use native.Mathlib.Omega.{arith}
use lib.Dec.{eqb, ltb, leb}
use borrow.Author.Tests.{eqb-true, eq-eqb, ltb-true, ltb-false, lt-ltb, le-ltb, leb-true, leb-false, le-leb, lt-leb}
use Rattle.page.specs.Numbers.{most_chunk}
use Rattle.page.specs.declared.number.PageNumber.{PageNumber}
use Rattle.page.specs.declared.record.Record.{Record}
use Rattle.page.proofs.Layouts.{and_left, and_right}
use Rattle.page.proofs.Searching.{clash, by_test, pick_cases}
use Rattle.chunk.specs.Records.{age_of, header_of, data_of, count_of, file_size, is_gone, is_file}
use Rattle.chunk.specs.Newest.{copy_of, newest_where, newest_header, records}
use Rattle.chunk.specs.Sizes.{end_of, data_end, size_of}
use Rattle.chunk.specs.Lookups.{file_at, file_by, file_of}
use Rattle.chunk.specs.File as file
use Rattle.chunk.specs.declared.answer.Visited.{Visited}
use Rattle.chunk.proofs.Cases.{size_larger}
use Rattle.chunk.proofs.Gathering.{end_none, end_suc}
use Rattle.chunk.proofs.Meaning.{IsNewest, Hides, newest_found, newest_missing, where_found, where_missing, where_is, where_none_is}
use Rattle.why.specs.Reasons.{chunk_at, byte_at, found_or, sets_by, copy_for, cuts_at, cutter, setter, reason_behind, reason_by, reason_at}
use Rattle.why.specs.declared.reason.Reason.{Reason}
use Rattle.why.specs.declared.reason.Reason.TheVariants.{Held, NoCopy, Cut, Count, PastEnd}

-- ---- the page that sets the size

-- a largest end that is not 0 is the end of a data record of object o newer than age a
end_reached :
    (says : ℕ → Record) (P o a n : ℕ) → 0 < data_end says P o a n → (X : Type 0) →
    ((p : ℕ) → p < n → data_of o (says p) ≡ true → a < age_of says p → end_of P (says p) ≡ data_end says P o a n → X) → X
end_reached says P o a zero i X f = let z = end_none says P o a in absurd (omega arith)
end_reached says P o a (suc n) i X f =
    by_test (data_of o (says n) && ltb a (age_of says n)) X
    (λ t.
    let e : data_end says P o a (suc n) ≡ max (end_of P (says n)) (data_end says P o a n) = end_suc says P o a n ∙ rw t in
    by_test (leb (data_end says P o a n) (end_of P (says n))) X
    (λ u.
    let l : data_end says P o a n ≤ end_of P (says n) = leb-true _ _ u in
    f n (le_refl _) (and_left (data_of o (says n)) _ t) (ltb-true _ _ (and_right (data_of o (says n)) _ t)) (omega arith))
    (λ u.
    let l : end_of P (says n) < data_end says P o a n = leb-false _ _ u in
    end_reached says P o a n (omega arith) X (λ p b d y k. f p (omega arith) d y (omega arith))))
    (λ t.
    let e : data_end says P o a (suc n) ≡ data_end says P o a n = end_suc says P o a n ∙ rw t in
    end_reached says P o a n (omega arith) X (λ p b d y k. f p (omega arith) d y (omega arith)))

-- one of two tests holds where either does, and the other way round
or_true : (a b : Bool) → a || b ≡ true → (a ≡ true) ⊎ (b ≡ true)
or_true true b e = inl refl
or_true false b e = inr e

or_right : (a b : Bool) → b ≡ true → a || b ≡ true
or_right true b e = refl
or_right false b e = e

-- object o of a dump of n pages, a live file whose newest header is h
module _ (says : ℕ → Record) (P o n h : ℕ) where
  abbrev size : ℕ
  size = size_of says P o h n

  -- page p sets the size: it is the newest header, and has it as its file size; or it is data of the object, newer than that header, that ends there
  pub record Sets (p : ℕ) : Type 0 where
    pub below : p < n
    pub sets : ((p ≡ h) × (file_size (says p) ≡ size)) ⊎ ((data_of o (says p) ≡ true) × (age_of says h < age_of says p) × (end_of P (says p) ≡ size))

  -- some page does
  pub size_set : h < n → (X : Type 0) → ((p : ℕ) → Sets p → X) → X
  size_set b X f =
      let e = size_larger says o n P h in
      by_test (leb (data_end says P o (age_of says h) n) (file_size (says h))) X
      (λ t. let l = leb-true (data_end says P o (age_of says h) n) (file_size (says h)) t in f h record { below = b; sets = inl (refl, omega arith) })
      (λ t.
      let l : file_size (says h) < data_end says P o (age_of says h) n = leb-false _ _ t in
      end_reached says P o (age_of says h) n (omega arith) X (λ p c d y k. f p record { below = c; sets = inr (d, y, omega arith) }))

  abbrev setting : ℕ → Bool
  setting p = sets_by P o h (age_of says h) size p (says p)

  -- the test says so, and only then
  test_sets : (p : ℕ) → p < n → setting p ≡ true → Sets p
  test_sets p b t =
      record {
        below = b;
        sets =
            ⊎_elim
            (λ u. inl (eqb-true _ _ (and_left (eqb p h) _ u), eqb-true _ _ (and_right (eqb p h) _ u)))
            (λ u.
            let v = and_right (data_of o (says p)) _ u in
            let newer = ltb (age_of says h) (age_of says p) in
            inr (and_left (data_of o (says p)) _ u, ltb-true _ _ (and_left newer _ v), eqb-true _ _ (and_right newer _ v)))
            (or_true _ _ t);
      }

  sets_test : (p : ℕ) → Sets p → setting p ≡ true
  sets_test p w =
      ⊎_elim
      (λ (u : (p ≡ h) × (file_size (says p) ≡ size)). rw (eq-eqb p h u.0, eq-eqb (file_size (says p)) size u.1))
      (λ (u : (data_of o (says p) ≡ true) × (age_of says h < age_of says p) × (end_of P (says p) ≡ size)).
      rw (u.0, lt-ltb (age_of says h) (age_of says p) u.1, eq-eqb (end_of P (says p)) size u.2) (or_right (eqb p h && eqb (file_size (says p)) size) true refl))
      w.sets

  -- so the search finds one
  setter_found : h < n → newest_where says setting n ≡ Some (setter says P o n h)
  unfolding setter
  setter_found b = found (newest_where says setting n) refl
    where
      found : (r : Option ℕ) → newest_where says setting n ≡ r → r ≡ Some (found_or h r)
      found None e = size_set b _ (λ p w. let f = where_missing says setting n e p w.below in let t = sets_test p w in clash (cc))
      found (Some p) e = refl

  -- the setter is the newest of them
  pub setter_newest : h < n → Sets (setter says P o n h) × ((r : ℕ) → Sets r → age_of says r ≤ age_of says (setter says P o n h))
  setter_newest b =
      let w = where_found says setting n (setter says P o n h) (setter_found b) in
      (test_sets (setter says P o n h) w.below w.passes, λ r s. w.newest r s.below (sets_test r s))

  -- ---- what each reason says of position x

  module _ (x : ℕ) where
    -- page q is the copy of the chunk that x lies in: the newest of the object's data records with its number, which is not above the largest
    pub record TheCopy (q : ℕ) : Type 0 where
      pub number : chunk_at P x ≤ most_chunk
      pub newest : IsNewest says (λ p. copy_of o (chunk_at P x) (says p)) n q

    -- page p is a header of the object that is newer than page q and cuts at or below x
    abbrev pub CutsBehind : (q p : ℕ) → Type 0
    CutsBehind q p = Hides says o h (age_of says q) n x p

    -- held: page q is the copy, no newer header cuts at or below x, and its byte count reaches the data byte that x is in its chunk
    pub record BecauseHeld (q at : ℕ) : Type 0 where
      pub inside : x < size
      pub copy : TheCopy q
      pub uncut : (p : ℕ) → CutsBehind q p → ⊥
      pub byte : at ≡ byte_at P x
      pub counted : at < count_of (says q)

    -- no copy: the chunk's number is above the largest, or no data record of the object has it
    pub record BecauseNoCopy : Type 0 where
      pub inside : x < size
      pub missing : (most_chunk < chunk_at P x) ⊎ ((q : ℕ) → q < n → copy_of o (chunk_at P x) (says q) ≡ false)

    -- cut: there is a copy, and header p, newer than it, cuts at or below x; no newer header does
    pub record BecauseCut (p : ℕ) : Type 0 where
      pub inside : x < size
      pub page : ℕ
      pub copy : TheCopy page
      pub cuts : CutsBehind page p
      pub newest : (r : ℕ) → CutsBehind page r → age_of says r ≤ age_of says p

    -- count: page q is the copy, no newer header cuts at or below x, and its byte count ends before the data byte
    pub record BecauseCount (q : ℕ) : Type 0 where
      pub inside : x < size
      pub copy : TheCopy q
      pub uncut : (p : ℕ) → CutsBehind q p → ⊥
      pub ended : count_of (says q) ≤ byte_at P x

    -- past the end: page p sets the size, and no newer page does
    pub record BecausePastEnd (p : ℕ) : Type 0 where
      pub past : size ≤ x
      pub sets : Sets p
      pub newest : (r : ℕ) → Sets r → age_of says r ≤ age_of says p

    abbrev pub Means : Reason → Type 0
    Means (Held q at) = BecauseHeld q.0 at
    Means NoCopy = BecauseNoCopy
    Means (Cut p) = BecauseCut p.0
    Means (Count q) = BecauseCount q.0
    Means (PastEnd p) = BecausePastEnd p.0

    -- ---- how a reason comes about

    abbrev found : Option ℕ
    found = copy_for says P o n h x

    abbrev cut_by : ℕ → Option ℕ
    cut_by q = cutter says P o n h q x

    -- by what the tests say, in their order
    pub reason_by_lem :
        (X : Reason → Type 0) →
        (size ≤ x → X (PastEnd (record { 0 = setter says P o n h }))) →
        (x < size → found ≡ None → X NoCopy) →
        ((q p : ℕ) → x < size → found ≡ Some q → cut_by q ≡ Some p → X (Cut (record { 0 = p }))) →
        ((q : ℕ) → x < size → found ≡ Some q → cut_by q ≡ None → count_of (says q) ≤ byte_at P x → X (Count (record { 0 = q }))) →
        ((q : ℕ) → x < size → found ≡ Some q → cut_by q ≡ None → byte_at P x < count_of (says q) → X (Held (record { 0 = q }) (byte_at P x))) →
        X (reason_at says P o n h x)
    unfolding reason_at
    reason_by_lem X past missing cut count held =
        by_test (leb size x) _ (λ t. rw t (past (leb-true _ _ t))) (λ t. rw t (by_copy (leb-false _ _ t) found refl))
      where
        by-cut : (q : ℕ) → x < size → found ≡ Some q → (r : Option ℕ) → cut_by q ≡ r → X (reason_behind says P o n h q x r)
        by-cut q i e (Some p) d = cut q p i e d
        by-cut q i e None d =
            by_test (leb (count_of (says q)) (byte_at P x)) _ (λ t. rw t (count q i e d (leb-true _ _ t))) (λ t. rw t (held q i e d (leb-false _ _ t)))

        by_copy : x < size → (r : Option ℕ) → found ≡ r → X (reason_by says P o n h x r)
        by_copy i None e = missing i e
        by_copy i (Some q) e = by-cut q i e (cut_by q) refl

    -- the copy that is found, or that there is none
    pub copy_found : (q : ℕ) → found ≡ Some q → TheCopy q
    unfolding copy_for
    copy_found q e =
        pick_cases (ltb most_chunk (chunk_at P x)) _ _ (Some q) _ e
        (λ _ k. clash (cc))
        (λ t k. record { number = ltb-false _ _ t; newest = newest_found says (copy_of o (chunk_at P x)) n q k })

    -- none: the number is above the largest, or no page is a copy
    pub copy_missing : found ≡ None → (most_chunk < chunk_at P x) ⊎ ((q : ℕ) → q < n → copy_of o (chunk_at P x) (says q) ≡ false)
    unfolding copy_for
    copy_missing e =
        pick_cases (ltb most_chunk (chunk_at P x)) _ _ None _ e
        (λ t _. inl (ltb-true _ _ t))
        (λ _ k. inr (newest_missing says (copy_of o (chunk_at P x)) n k))

    -- the header that is found, or that there is none
    abbrev cutting : (q p : ℕ) → Bool
    cutting q p = cuts_at says P o n h x p && ltb (age_of says q) (age_of says p)

    -- the test says that a header cuts, and only then
    test-cuts : (q p : ℕ) → p < n → cutting q p ≡ true → CutsBehind q p
    test-cuts q p b t =
        let c = and_left (cuts_at says P o n h x p) _ t in
        record {
          below = b;
          header = and_left (header_of o (says p)) _ c;
          newer = ltb-true _ _ (and_right (cuts_at says P o n h x p) _ t);
          cuts = and_right (header_of o (says p)) _ c;
        }

    cuts-test : (q p : ℕ) → CutsBehind q p → cutting q p ≡ true
    cuts-test q p w = rw (w.header, w.cuts, lt-ltb (age_of says q) (age_of says p) w.newer)

    -- what is found is the newest that cuts
    pub cutter_found :
        (q p : ℕ) → cut_by q ≡ Some p → CutsBehind q p × ((r : ℕ) → CutsBehind q r → age_of says r ≤ age_of says p)
    unfolding cutter
    cutter_found q p e =
        let w = where_found says (cutting q) n p e in
        (test-cuts q p w.below w.passes, λ r c. w.newest r c.below (cuts-test q r c))

    -- and where nothing is found none cuts
    pub cutter_missing : (q : ℕ) → cut_by q ≡ None → (p : ℕ) → CutsBehind q p → ⊥
    unfolding cutter
    cutter_missing q e p c = let f = where_missing says (cutting q) n e p c.below in let t = cuts-test q p c in clash (cc)

    -- ---- each reason is true

    pub reason_means : h < n → Means (reason_at says P o n h x)
    reason_means b =
        reason_by_lem Means
        (λ i. let w = setter_newest b in record { past = i; sets = w.0; newest = w.1 })
        (λ i e. record { inside = i; missing = copy_missing e })
        (λ q p i e d. let w = cutter_found q p d in record { inside = i; page = q; copy = copy_found q e; cuts = w.0; newest = w.1 })
        (λ q i e d k. record { inside = i; copy = copy_found q e; uncut = cutter_missing q d; ended = k })
        (λ q i e d k. record { inside = i; copy = copy_found q e; uncut = cutter_missing q d; byte = refl; counted = k })

    -- past the end it is the setter
    pub reason_past : size ≤ x → reason_at says P o n h x ≡ PastEnd (record { 0 = setter says P o n h })
    unfolding reason_at
    reason_past i = rw (le-leb _ _ i)

    -- ---- and no other would be

    module _ (few : n ≤ 4294967296) where
      -- the copy is what the search finds
      copy_is : (q : ℕ) → TheCopy q → found ≡ Some q
      unfolding copy_for
      copy_is q w = rw (le-ltb most_chunk (chunk_at P x) w.number) (where_is says (λ p. copy_of o (chunk_at P x) (says p)) n q w.newest few)

      -- where there is none it finds nothing
      none_is : BecauseNoCopy → found ≡ None
      unfolding copy_for
      none_is w =
          ⊎_elim
          (λ (i : most_chunk < chunk_at P x). rw (lt-ltb most_chunk (chunk_at P x) i))
          (λ (f : (q : ℕ) → q < n → copy_of o (chunk_at P x) (says q) ≡ false).
          by_test (ltb most_chunk (chunk_at P x)) _ (λ t. rw t) (λ t. rw t (where_none_is says (λ p. copy_of o (chunk_at P x) (says p)) n f)))
          w.missing

      -- the newest header that cuts is what the search finds
      pub cutter_is : (q p : ℕ) → CutsBehind q p → ((r : ℕ) → CutsBehind q r → age_of says r ≤ age_of says p) → cut_by q ≡ Some p
      unfolding cutter
      cutter_is q p c w =
          where_is says (cutting q) n p record { below = c.below; passes = cuts-test q p c; newest = λ r b t. w r (test-cuts q r b t) } few

      -- and where none cuts it finds nothing
      pub uncut_is : (q : ℕ) → ((p : ℕ) → CutsBehind q p → ⊥) → cut_by q ≡ None
      unfolding cutter
      uncut_is q w =
          where_none_is says (cutting q) n (λ p b. by_test (cutting q p) _ (λ t. absurd (w p (test-cuts q p b t))) (λ t. t))

      -- the newest page that sets the size is the setter
      setter-is : (p : ℕ) → BecausePastEnd p → setter says P o n h ≡ p
      unfolding setter
      setter-is p w =
          rw (where_is says setting n p record { below = w.sets.below; passes = sets_test p w.sets; newest = λ r b t. w.newest r (test_sets r b t) } few)

      -- so a reason that is true is the one
      pub means_reason : (r : Reason) → Means r → reason_at says P o n h x ≡ r
      unfolding reason_at
      means_reason (Held q at) w =
          rw (lt-leb size x w.inside, copy_is q.0 w.copy, uncut_is q.0 w.uncut, ← w.byte, lt-leb (count_of (says q.0)) at w.counted)
      means_reason NoCopy w = rw (lt-leb size x w.inside, none_is w)
      means_reason (Cut p) w = rw (lt-leb size x w.inside, copy_is w.page w.copy, cutter_is w.page p.0 w.cuts w.newest)
      means_reason (Count q) w =
          rw (lt-leb size x w.inside, copy_is q.0 w.copy, uncut_is q.0 w.uncut, le-leb (count_of (says q.0)) (byte_at P x) w.ended)
      means_reason (PastEnd p) w = rw (le-leb size x w.past, setter-is p.0 w)

-- ---- the file of a lookup

-- page h is the header of a live file: the newest of its object, of a file, and not gone
pub record IsLive (says : ℕ → Record) (o n h : ℕ) : Type 0 where
  pub newest : newest_header says o n ≡ Some h
  pub linked : is_gone (says h) ≡ false
  pub file : is_file (says h) ≡ true

-- a lookup goes by one page
same_header : (g h : PageNumber) (v w : ℕ) → file.Header g v ≡ file.Header h w → g ≡ h
same_header g h v w e =
    let k : ◌≡◌ {A = Visited PageNumber} (record { answer = g; visits = v }) (record { answer = h; visits = w }) = cc in
    ap (λ (x : Visited PageNumber). x.answer) k

-- so is the one that a lookup goes by
pub file_live : (says : ℕ → Record) (o n v : ℕ) (h : PageNumber) → file_of says o n ≡ file.Header h v → IsLive says o n h.0
unfolding file_of file_by file_at
file_live says o n v h e =
    pick_cases (eqb (records says o n) 0) _ _ _ _ e (λ _ k. clash (cc)) (λ _ k. by-header (newest_header says o n) refl k)
  where
    by-header : (r : Option ℕ) → newest_header says o n ≡ r → file_by says o n r ≡ file.Header h v → IsLive says o n h.0
    by-header None i k = clash (cc)
    by-header (Some g) i k =
        pick_cases (is_gone (says g)) _ _ _ _ k
        (λ _ j. clash (cc))
        (λ t j.
        pick_cases (is_file (says g)) _ _ _ _ j
        (λ u l. let z : g ≡ h.0 = ap (λ (p : PageNumber). p.0) (same_header _ h _ v l) in record { newest = i ∙ ap Some z; linked = rw (← z) t; file = rw (← z) u })
        (λ _ l. clash (cc)))

pub file_newest : (says : ℕ → Record) (o n v : ℕ) (h : PageNumber) → file_of says o n ≡ file.Header h v → newest_header says o n ≡ Some h.0
file_newest says o n v h e = (file_live says o n v h e).newest

-- so of every position of a live file the reason is true
pub file_means :
    (says : ℕ → Record) (P o n v x : ℕ) (h : PageNumber) → file_of says o n ≡ file.Header h v → Means says P o n h.0 x (reason_at says P o n h.0 x)
file_means says P o n v x h e = reason_means says P o n h.0 x (newest_found says (header_of o) n h.0 (file_newest says o n v h e)).below
