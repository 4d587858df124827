-- What the lowest cuts along the records come to. Of the headers of an object the one that no newer header follows is its newest, so that each cuts along
-- the list as it does by the rules; and a cut is known by the places that it hides. So from a record on the lowest cut is that of the newer headers,
-- and where its word is at or below a place, the last record whose word still is has cut there, and none behind it does.
use Prim.Native.Nat.{ℕ, zero, suc, ◌+◌, ◌-◌, ◌≤◌, ◌<◌}
use Rattle.std.specs.Prelude.{None, Some}
use mathlib.Core.Bool.{Bool, true, false, not, ◌&&◌}
use mathlib.Core.List.{List, [], ◌∷◌}
use mathlib.Core.Path.{◌≡◌, refl, sym, ap, ◌∙◌}
use native.Mathlib.Nat.{le_refl, not-suc-le-zero, le_of_suc-le-suc}
use native.Mathlib.Omega.{arith}
use borrow.Author.Tests.{eq-eqb, eqb-true, ltb-true, ltb-false, lt-ltb}
use lib.Dec.{eqb, ltb}
use lib.ListN.{length, get_or, drop, length-drop}
use lib.Seq.{drop-cons, drop-drop, get_or-drop}
use Rattle.page.specs.Records.{is_header}
use Rattle.page.specs.declared.record.Record.{Record}
use Rattle.page.proofs.Layouts.{and_left, and_right}
use Rattle.page.proofs.Searching.{clash, by_test}
use Rattle.sort.specs.Search.{Parted}
use Rattle.chunk.specs.Cuts.{cut_of, lowest_cut, hides}
use Rattle.chunk.specs.Newest.{newest_header}
use Rattle.chunk.specs.Records.{age_of, is_of, header_of}
use Rattle.chunk.proofs.Cuts.{lower_hides, lower_still, lower_leaves}
use Rattle.chunk.proofs.Meaning.{newest_found, newest_missing, lowest_cut_hides, hides_lowest_cut}
use Rattle.why.specs.Reasons.{cuts_at, cutter}
use Rattle.records.specs.Lows.{nowhere, cut_word, own_cut, headless, low_of, lows_of}
use Rattle.records.specs.Written.{said_at, is_record, written, page_at}
use Rattle.records.proofs.Lowering.{cut_same, word_hides, word_shows, headless_none, headless_one, low_none, low_one, lows_length, lows_at}
use Rattle.records.proofs.Writing.{either, written_at, written_place, written_rises, last_newest, none_newest}

module _ (says : ℕ → Record) where
  -- the record at a place among records is a header, and no later one is
  module _ (ages : List ℕ) where
    abbrev isHeaderAt : ℕ → Bool
    isHeaderAt m = is_header (said_at says (get_or ages m 0))

    abbrev headlessFrom : ℕ → Bool
    headlessFrom m = headless says (drop m ages)

  -- where none is a header, each is none
  headless_at : (ages : List ℕ) → headless says ages ≡ true → (m : ℕ) → m < length ages → isHeaderAt ages m ≡ false
  headless_at [] e m h = absurd (not-suc-le-zero h)
  headless_at (a ∷ newer) e zero h = go (is_header (said_at says a)) (and_left _ (headless says newer) (rw (headless_one says a newer) at e))
    where
      go : (b : Bool) → not b ≡ true → b ≡ false
      go true k = clash (cc)
      go false k = refl
  headless_at (a ∷ newer) e (suc m) h =
      headless_at newer (and_right (not (is_header (said_at says a))) _ (rw (headless_one says a newer) at e)) m (le_of_suc-le-suc h)

  -- where one is a header, there is one
  pub record HasHeader (ages : List ℕ) : Type 0 where
    pub place : ℕ
    pub inside : place < length ages
    pub its : isHeaderAt ages place ≡ true

  headed_at : (ages : List ℕ) → headless says ages ≡ false → HasHeader ages
  headed_at [] e = let z : true ≡ false = sym (headless_none says) ∙ e in clash (cc)
  headed_at (a ∷ newer) e =
      by_test (is_header (said_at says a)) _
      (λ t. record { place = 0; inside = omega arith; its = t })
      (λ t.
      let k : headless says newer ≡ false = rw t at (rw (headless_one says a newer) at e) in
      let w = headed_at newer k in
      record { place = suc w.place; inside = omega (arith, w.inside); its = w.its })

  -- a header among records that hides a place
  pub record Hider (ages : List ℕ) (place m : ℕ) : Type 0 where
    pub inside : m < length ages
    pub header : isHeaderAt ages m ≡ true
    pub cuts : hides (cut_of (headlessFrom ages (suc m)) (said_at says (get_or ages m 0))) place ≡ true

  -- their lowest cut hides it exactly when there is one
  pub low_hider : (ages : List ℕ) (place : ℕ) (P : Type 0) → hides (low_of says ages) place ≡ true → ((m : ℕ) → Hider ages place m → P) → P
  low_hider [] place P e f = let z : false ≡ true = rw (low_none says) at e in clash (cc)
  low_hider (a ∷ newer) place P e f =
      by_test (hides (own_cut (headless says newer) (said_at says a)) place) P
      (λ t.
      by_test (is_header (said_at says a)) P
      (λ u. f 0 record { inside = omega arith; header = u; cuts = rw u at t })
      (λ u. let z : false ≡ true = rw u at t in clash (cc)))
      (λ t.
      by_test (hides (low_of says newer) place) P
      (λ u. low_hider newer place P u (λ m w. f (suc m) record { inside = omega (arith, w.inside); header = w.header; cuts = w.cuts }))
      (λ u. let z : true ≡ false = sym (rw (low_one says a newer) at e) ∙ lower_leaves place (own_cut (headless says newer) (said_at says a)) (low_of says newer) t u in clash (cc)))

  pub hider_low : (ages : List ℕ) (place m : ℕ) → Hider ages place m → hides (low_of says ages) place ≡ true
  hider_low [] place m w = absurd (not-suc-le-zero w.inside)
  hider_low (a ∷ newer) place zero w =
      rw (low_one says a newer) (lower_hides place (own_cut (headless says newer) (said_at says a)) (low_of says newer) (rw w.header w.cuts))
  hider_low (a ∷ newer) place (suc m) w =
      rw (low_one says a newer)
      (lower_still place (own_cut (headless says newer) (said_at says a)) (low_of says newer)
      (hider_low newer place m record { inside = le_of_suc-le-suc w.inside; header = w.header; cuts = w.cuts }))

  -- a record that is no header adds nothing
  pub low_past : (ages : List ℕ) (i : ℕ) → i < length ages → isHeaderAt ages i ≡ false → low_of says (drop i ages) ≡ low_of says (drop (suc i) ages)
  low_past ages i h t = rw (drop-cons ages i 0 h, low_one says (get_or ages i 0) (drop (suc i) ages), t)

-- two tests that hold together are the same
same_test : (a b : Bool) → (a ≡ true → b ≡ true) → (b ≡ true → a ≡ true) → a ≡ b
same_test true b f g = sym (f refl)
same_test false true f g = g refl
same_test false false f g = refl

-- a header among the records of the object is one of its headers, and what is no header is none of them
header_of_lem : (o : ℕ) (k : Record) → is_of o k ≡ true → is_header k ≡ true → header_of o k ≡ true
header_of_lem o k t u = rw (t, u)

no_header : (o : ℕ) (k : Record) → is_header k ≡ false → header_of o k ≡ false
no_header o k u = by_test (is_of o k) _ (λ t. rw (t, u)) (λ t. rw t)

-- object o of a dump of n pages
module _ (says : ℕ → Record) (o n : ℕ) (few : n ≤ 4294967296) where
  abbrev ages : List ℕ
  ages = written says o n

  abbrev header_at : ℕ → Bool
  header_at j = is_header (says (page_at says o n j))

  -- so the record at a place is one of its headers, if it is a header
  header_there : (j : ℕ) → j < length ages → header_at j ≡ true → header_of o (says (page_at says o n j)) ≡ true
  header_there j h t = header_of_lem o (says (page_at says o n j)) (written_at says o n few j h).its t

  -- a newer record has a later place
  later_place : (i j : ℕ) → i < length ages → get_or ages i 0 < get_or ages j 0 → i < j
  later_place i j k l =
      either i j _ (λ b. b) (λ (q : i ≡ j). absurd (omega (arith, rw q at l))) (λ b. absurd (omega (arith, l, written_rises says o n few j i b k)))

  -- and a header of the object is one of its records
  its_header : (p : ℕ) → header_of o (says p) ≡ true → is_record says o p ≡ true
  its_header p t = and_left (is_of o (says p)) (is_header (says p)) t

  -- a header that no newer one follows is the newest, and no other is
  module _ (h : ℕ) (e : newest_header says o n ≡ Some h) where
    -- no newer one follows: it is the newest
    last_header : (j : ℕ) → j < length ages → header_at j ≡ true → headless says (drop (suc j) ages) ≡ true → eqb (page_at says o n j) h ≡ true
    last_header j k t u =
        eq-eqb (page_at says o n j) h
        (same
        (sym (last_newest says o n few (λ p. header_of o (says p)) (λ p _ v. its_header p v) j k (header_there j k t)
        (λ m b i. no_header o (says (page_at says o n m)) (behind m b i)))
        ∙ e))
      where
        same : Some (page_at says o n j) ≡ Some h → page_at says o n j ≡ h
        same q = cc

        behind : (m : ℕ) → j < m → m < length ages → header_at m ≡ false
        behind m b i =
            let d : suc j + (m - suc j) ≡ m = omega arith in
            let g : get_or (drop (suc j) ages) (m - suc j) 0 ≡ get_or ages m 0 = get_or-drop (suc j) ages (m - suc j) 0 ∙ ap (λ (x : ℕ). get_or ages x 0) d in
            rw g at (headless_at says (drop (suc j) ages) u (m - suc j) (rw (length-drop (suc j) ages) (omega arith)))

    -- a newer one follows: it is not
    older-header : (j : ℕ) → j < length ages → headless says (drop (suc j) ages) ≡ false → eqb (page_at says o n j) h ≡ false
    older-header j k u =
        by_test (eqb (page_at says o n j) h) _
        (λ t. absurd (never (eqb-true _ _ t)))
        (λ t. t)
      where
        never : page_at says o n j ≡ h → ⊥
        never q =
            let w = headed_at says (drop (suc j) ages) u in
            let m = suc j + w.place in
            let i : m < length ages = omega (arith, rw (length-drop (suc j) ages) at w.inside) in
            let t : header_at m ≡ true = rw (get_or-drop (suc j) ages w.place 0) at w.its in
            let f = newest_found says (header_of o) n h e in
            let x = written_at says o n few m i in
            let l : get_or ages m 0 ≤ get_or ages j 0 = rw (← x.age, ← (written_at says o n few j k).age, q) (f.newest (page_at says o n m) x.page (header_there m i t)) in
            absurd (omega (arith, l, written_rises says o n few j m (omega arith) i))

    -- so that each header cuts along the list as it does by the rules
    pub own_newest : (j : ℕ) → j < length ages → header_at j ≡ true → headless says (drop (suc j) ages) ≡ eqb (page_at says o n j) h
    own_newest j k t =
        by_test (headless says (drop (suc j) ages)) _ (λ u. u ∙ sym (last_header j k t u)) (λ u. u ∙ sym (older-header j k u))

    -- a header at a place among the records that cuts at or below a position
    pub record CutsThere (place j : ℕ) : Type 0 where
      pub inside : j < length ages
      pub header : header_at j ≡ true
      pub cuts : hides (cut_of (eqb (page_at says o n j) h) (says (page_at says o n j))) place ≡ true

    -- from a place on a header hides a position along the list exactly if it cuts there by the rules
    hider-there : (i place m : ℕ) → Hider says (drop i ages) place m → CutsThere place (i + m)
    hider-there i place m w =
        let g = get_or-drop i ages m 0 in
        let k : i + m < length ages = omega (arith, rw (length-drop i ages) at w.inside) in
        let t : header_at (i + m) ≡ true = rw g at w.header in
        let s : i + suc m ≡ suc (i + m) = omega arith in
        let d : drop (suc m) (drop i ages) ≡ drop (suc (i + m)) ages = drop-drop (suc m) i ages ∙ ap (λ (x : ℕ). drop x ages) s in
        record { inside = k; header = t; cuts = rw (← own_newest (i + m) k t) (rw (g, d) at w.cuts) }

    there-hider : (i place j : ℕ) → i ≤ j → CutsThere place j → Hider says (drop i ages) place (j - i)
    there-hider i place j b w =
        let m = j - i in
        let s : i + m ≡ j = omega arith in
        let g : get_or (drop i ages) m 0 ≡ get_or ages j 0 = get_or-drop i ages m 0 ∙ ap (λ (x : ℕ). get_or ages x 0) s in
        let r : i + suc m ≡ suc j = omega arith in
        let d : drop (suc m) (drop i ages) ≡ drop (suc j) ages = drop-drop (suc m) i ages ∙ ap (λ (x : ℕ). drop x ages) r in
        record {
          inside = rw (length-drop i ages) (omega (arith, w.inside));
          header = rw g w.header;
          cuts = rw (g, d, own_newest j w.inside w.header) w.cuts;
        }

    -- from a place on the lowest cut hides a position exactly when a header there does
    pub low_there : (i place : ℕ) (P : Type 0) → hides (low_of says (drop i ages)) place ≡ true → ((j : ℕ) → i ≤ j → CutsThere place j → P) → P
    low_there i place P t f = low_hider says (drop i ages) place P t (λ m w. f (i + m) (omega arith) (hider-there i place m w))

    pub there_low : (i place j : ℕ) → i ≤ j → CutsThere place j → hides (low_of says (drop i ages)) place ≡ true
    there_low i place j b w = hider_low says (drop i ages) place (j - i) (there-hider i place j b w)

    -- so behind a record it is the lowest cut of the newer headers
    pub low_later : (i : ℕ) → i < length ages → low_of says (drop (suc i) ages) ≡ lowest_cut says o h (get_or ages i 0) n
    low_later i k = cut_same _ _ (λ place. same_test _ _ (into place) (back place))
      where
        into : (place : ℕ) → hides (low_of says (drop (suc i) ages)) place ≡ true → hides (lowest_cut says o h (get_or ages i 0) n) place ≡ true
        into place t =
            low_there (suc i) place _ t
            (λ j b w.
            let x = written_at says o n few j w.inside in
            hides_lowest_cut says o h (get_or ages i 0) place n (page_at says o n j) record {
              below = x.page;
              header = header_there j w.inside w.header;
              newer = rw x.age (written_rises says o n few i j b w.inside);
              cuts = w.cuts;
            })

        back : (place : ℕ) → hides (lowest_cut says o h (get_or ages i 0) n) place ≡ true → hides (low_of says (drop (suc i) ages)) place ≡ true
        back place t =
            lowest_cut_hides says o h (get_or ages i 0) place n _ t
            (λ p w.
            let s = written_place says o n few p w.below (its_header p w.header) in
            let later : i < s.place = later_place i s.place k (rw s.its w.newer) in
            there_low (suc i) place s.place later record {
              inside = s.inside;
              header = rw s.page (and_right (is_of o (says p)) (is_header (says p)) w.header);
              cuts = rw s.page w.cuts;
            })

    -- the records newer than one that cut at or below a position
    module _ (P i : ℕ) (k : i < length ages) (place : ℕ) where
      abbrev test : ℕ → Bool
      test p = cuts_at says P o n h place p && ltb (age_of says (page_at says o n i)) (age_of says p)

      -- they are those of the later places with a header that cuts there
      there-test : (j : ℕ) → i < j → CutsThere place j → test (page_at says o n j) ≡ true
      there-test j b w =
          let x = written_at says o n few j w.inside in
          let l : age_of says (page_at says o n i) < age_of says (page_at says o n j) =
          rw ((written_at says o n few i k).age, x.age) (written_rises says o n few i j b w.inside) in
          rw (header_there j w.inside w.header, w.cuts, lt-ltb _ _ l)

      test-there : (j : ℕ) → j < length ages → test (page_at says o n j) ≡ true → (i < j) × CutsThere place j
      test-there j b t =
          let p = page_at says o n j in
          let c = and_left (cuts_at says P o n h place p) _ t in
          let x = written_at says o n few j b in (
            later_place i j k (rw (← (written_at says o n few i k).age, ← x.age) (ltb-true _ _ (and_right (cuts_at says P o n h place p) _ t))),
            record {
              inside = b;
              header = and_right (is_of o (says p)) _ (and_left (header_of o (says p)) _ c);
              cuts = and_right (header_of o (says p)) _ c;
            },
          )

      -- and records of the object
      test-own : (p : ℕ) → p < n → test p ≡ true → is_record says o p ≡ true
      test-own p b t = its_header p (and_left (header_of o (says p)) _ (and_left (cuts_at says P o n h place p) _ t))

      -- where the word of a record is above it, no newer header cuts there
      pub none_cuts : place < cut_word (low_of says (drop i ages)) → cutter says P o n h (page_at says o n i) place ≡ None
      unfolding cutter
      none_cuts l =
          none_newest says o n few test test-own
          (λ j b.
          by_test (test (page_at says o n j)) _
          (λ t.
          let w = test-there j b t in
          let z : true ≡ false = sym (there_low i place j (omega (arith, w.0)) w.1) ∙ word_shows (low_of says (drop i ages)) place l in
          clash (cc))
          (λ t. t))

      -- where it is not, the last record whose word is not above it cuts there, and is the newest that does
      module _ (m : ℕ) (w : Parted (place + 1) (drop i (lows_of says ages)) m) where
        word-there : (r : ℕ) → i + r < length ages → get_or (drop i (lows_of says ages)) r 0 ≡ cut_word (low_of says (drop (i + r) ages))
        word-there r b = get_or-drop i (lows_of says ages) r 0 ∙ lows_at says ages (i + r) b

        -- no header from the first word above it on cuts there
        none_behind : (j : ℕ) → i + m ≤ j → CutsThere place j → ⊥
        none_behind j b c =
            let r = j - i in
            let s : i + r ≡ j = omega arith in
            let in_words : r < length (drop i (lows_of says ages)) = rw (length-drop i (lows_of says ages), lows_length says ages) (omega (arith, c.inside)) in
            let l : place < cut_word (low_of says (drop j ages)) =
            omega (arith, w.high r (omega arith) in_words, rw s at (word-there r (omega (arith, c.inside)))) in
            let z : true ≡ false = sym (there_low j place j (le_refl j) c) ∙ word_shows (low_of says (drop j ages)) place l in
            clash (cc)

        pub last_cuts :
            place < nowhere → cut_word (low_of says (drop i ages)) ≤ place → header_at i ≡ false →
            (0 < m) × (m ≤ length ages - i) × (cutter says P o n h (page_at says o n i) place ≡ Some (page_at says o n (i + (m - 1))))
        unfolding cutter
        last_cuts small low t =
            let inside : m ≤ length ages - i = omega (arith, w.inside, length-drop i (lows_of says ages), lows_length says ages) in
            let z : i + 0 ≡ i = omega arith in
            let some_words : 0 < length (drop i (lows_of says ages)) = rw (length-drop i (lows_of says ages), lows_length says ages) (omega arith) in
            let pos : 0 < m =
            by_test (ltb 0 m) _
            (λ u. ltb-true _ _ u)
            (λ u. absurd (omega (arith, w.high 0 (ltb-false 0 m u) some_words, rw z at (word-there 0 (omega arith))))) in
            let j = i + (m - 1) in
            let in-ages : j < length ages = omega arith in
            let l : cut_word (low_of says (drop j ages)) ≤ place = omega (arith, w.low (m - 1) (omega arith), word-there (m - 1) in-ages) in
            let here : CutsThere place j =
            low_there j place _ (word_hides (low_of says (drop j ages)) place small l)
            (λ q b c.
            by_test (ltb j q) _
            (λ u. absurd (none_behind q (omega (arith, ltb-true j q u)) c))
            (λ u. let s : q ≡ j = omega (arith, b, ltb-false j q u) in rw s at c)) in
            let later : i < j =
            by_test (ltb i j) _
            (λ u. ltb-true _ _ u)
            (λ u. let s : j ≡ i = omega (arith, ltb-false i j u) in let y : true ≡ false = sym here.header ∙ rw s t in clash (cc)) in (
              pos,
              inside,
              last_newest says o n few test test-own j in-ages (there-test j later here)
                  (λ q b c.
                  by_test (test (page_at says o n q)) _
                  (λ u. absurd (none_behind q (omega arith) (test-there q c u).1))
                  (λ u. u)),
            )

  -- an object without a header is cut nowhere
  pub low_headless : newest_header says o n ≡ None → (i : ℕ) → low_of says (drop i ages) ≡ None
  low_headless e i =
      cut_same _ _ (λ place. same_test _ _ (λ t. low_hider says (drop i ages) place _ t (λ m w. absurd (never place m w))) (λ t. clash (cc)))
    where
      never : (place m : ℕ) → Hider says (drop i ages) place m → ⊥
      never place m w =
          let k : i + m < length ages = omega (arith, rw (length-drop i ages) at w.inside) in
          let t : header_at (i + m) ≡ true = rw (get_or-drop i ages m 0) at w.header in
          let z : true ≡ false = sym (header_there (i + m) k t) ∙ newest_missing says (header_of o) n e (page_at says o n (i + m)) (written_at says o n few (i + m) k).page in
          clash (cc)
