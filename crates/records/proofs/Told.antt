-- Whatever `stands` answers is so: each row has the page of a record, the oldest first, and with its second word tells how that record stands, which
-- is true of it.
use Prim.Native.Nat.{ℕ, ◌≤◌, ◌<◌}
use Rattle.std.specs.Prelude.{Result, Ok, Err}
use Rattle.page.specs.declared.refusal.Refusal.{Refusal}
use mathlib.Core.Bool.{true, false}
use mathlib.Core.List.{List}
use mathlib.Core.Path.{◌≡◌, refl, ap, ◌∙◌}
use native.Mathlib.Omega.{arith}
use borrow.Author.Tests.{ltb-false}
use lib.Dec.{eqb, ltb}
use lib.ListN.{length, get_or, drop, get_or-append}
use Rattle.page.specs.Lengths.{opened_of}
use Rattle.page.specs.Numbers.{bad_object, bad_chunk}
use Rattle.page.specs.Records.{record_at, is_data}
use Rattle.page.specs.declared.geometry.Geometry.{Geometry}
use Rattle.page.specs.declared.record.Record.{Record}
use Rattle.page.specs.declared.record.Record.TheVariants.{Other, Header, Data}
use Rattle.page.proofs.Layouts.{roomy_facts}
use Rattle.page.proofs.Lengths.{opened_facts}
use Rattle.page.proofs.Searching.{clash, pick_cases}
use Rattle.page.proofs.Within.{chunk_good}
use Rattle.sort.specs.Packed.{word_values, packed, key_of}
use Rattle.sort.proofs.Packing.{packed_key, packed_value}
use Rattle.chunk.specs.Answers.{on_pages}
use Rattle.chunk.specs.Lists.{in_front}
use Rattle.chunk.specs.Moments.{is_missing, takes_at}
use Rattle.chunk.specs.Newest.{records}
use Rattle.chunk.specs.Records.{chunk_of, count_of}
use Rattle.chunk.specs.Takes.{seen_by}
use Rattle.chunk.specs.declared.moment.Moment.{Moment}
use Rattle.chunk.specs.declared.takes.Takes.{Takes}
use Rattle.why.specs.Answers.{says_at}
use Rattle.records.specs.Answers.{recorded_in, recorded_on, standing_left, details_left}
use Rattle.records.specs.Rows.{kind_of, detail_of, standing_of, standing_rows, standing_details}
use Rattle.records.specs.Standings.{stands_of}
use Rattle.records.specs.Written.{written, page_at}
use Rattle.records.specs.declared.standing.Standing.{Standing}
use Rattle.records.specs.declared.standing.Standing.TheVariants.{NewestHeader, OlderHeader, Superseded, Cut, Holds, NoFile}
use Rattle.records.specs.Recorded.{Records, Refused}
use Rattle.records.proofs.Inside.{looked_found}
use Rattle.records.proofs.Meaning.{Means, stands_means}
use Rattle.records.proofs.Rowing.{rows_length, details_length, row_at, detail_at}
use Rattle.records.proofs.Accepted.{opened_few, seen_within}
use Rattle.records.proofs.Writing.{written_length, written_at}

-- ---- the words of a standing

-- its byte count fits a word
abbrev Fits : Standing → Type 0
Fits NewestHeader = Unit {0}
Fits OlderHeader = Unit {0}
Fits (Superseded q) = Unit {0}
Fits (Cut r) = Unit {0}
Fits (Holds c a) = a < word_values
Fits NoFile = Unit {0}

-- and so does the number of its kind
kind_fits : (s : Standing) → kind_of s < word_values
kind_fits NewestHeader = omega arith
kind_fits OlderHeader = omega arith
kind_fits (Superseded q) = omega arith
kind_fits (Cut r) = omega arith
kind_fits (Holds c a) = omega arith
kind_fits NoFile = omega arith

-- they tell it
words_read_back : (p : ℕ) (s : Standing) → Fits s → standing_of (packed p (kind_of s)) (detail_of s) ≡ s
unfolding standing_of
words_read_back p NewestHeader w = rw (packed_value p 1 (omega arith))
words_read_back p OlderHeader w = rw (packed_value p 2 (omega arith))
words_read_back p (Superseded q) w = rw (packed_value p 3 (omega arith), packed_key q.0 0 (omega arith))
words_read_back p (Cut r) w = rw (packed_value p 4 (omega arith), packed_key r.0 0 (omega arith))
words_read_back p (Holds c a) w = rw (packed_value p 5 (omega arith), packed_key c.0 a w, packed_value c.0 a w)
words_read_back p NoFile w = rw (packed_value p 6 (omega arith))

-- ---- the records of an accepted dump

module _ (g : Geometry) (dump : List ℕ) (t : Takes) (o n : ℕ) (accepted : opened_of g (length dump) ≡ Ok n) where
  abbrev says : ℕ → Record
  says = seen_by t (record_at g dump)

  abbrev P : ℕ
  P = g.layout.«data»

  -- there are no more pages than page numbers
  few : n ≤ 4294967296
  few = opened_few g dump n accepted

  -- data have a chunk's number, and as many bytes as a page at most, but some
  record Sound (k : Record) : Type 0 where
    number : bad_chunk (chunk_of k) ≡ false
    least : 0 < count_of k
    most : count_of k ≤ P

  -- where they are taken
  sound : (p : ℕ) → is_data (says p) ≡ true → Sound (says p)
  sound p = go (says p) refl
    where
      go : (k : Record) → says p ≡ k → is_data k ≡ true → Sound k
      go Other e i = clash (cc)
      go (Header h) e i = clash (cc)
      go (Data d) e i = let w = seen_within g dump t p d e in record { number = chunk_good d.chunk.0 w.chunk; least = w.count.least; most = w.count.most }

  -- a page's bytes fit a word
  short : P < word_values
  short = let r = roomy_facts g.layout (opened_facts g (length dump) n accepted).room in omega (arith, r.long)

  -- what a record holds fits a word
  stands_fits : (p : ℕ) (s : Standing) → Means says P o n p s → Fits s
  stands_fits p NewestHeader w = tt
  stands_fits p OlderHeader w = tt
  stands_fits p (Superseded q) w = tt
  stands_fits p (Cut r) w = tt
  stands_fits p (Holds c a) w =
      omega (arith, (looked_found says o n P c.0 (record { 0 = p }) a w.shown w.visits w.looked).counted, (sound p w.is).most, short)
  stands_fits p NoFile w = tt

  -- the record at place i
  module _ (i : ℕ) (inside : i < length (written says o n)) where
    abbrev page : ℕ
    page = page_at says o n i

    -- how it stands is so
    pub place_means : Means says P o n page (stands_of says P o n page)
    place_means =
        let w = written_at says o n few i inside in
        stands_means says P o n few page w.page w.its (λ d. let s = sound page d in (s.number, s.least))

    -- its row has its page, and with its second word tells how it stands
    pub place_row : key_of (get_or (standing_rows says P o n) i 0) ≡ page
    place_row = rw (row_at says P o n i inside) (packed_key page (kind_of (stands_of says P o n page)) (kind_fits (stands_of says P o n page)))

    pub place_tells : standing_of (get_or (standing_rows says P o n) i 0) (get_or (standing_details says P o n) i 0) ≡ stands_of says P o n page
    place_tells =
        rw (row_at says P o n i inside, detail_at says P o n i inside)
        (words_read_back page (stands_of says P o n page) (stands_fits page (stands_of says P o n page) place_means))

-- ---- an answer

-- records that are told are all there are, and have room
pub recorded_fits :
    (says : ℕ → Record) (n : ℕ) (m : Moment) (o room k : ℕ) → recorded_in says n m o room ≡ Records k → (k ≡ records says o n) × (k ≤ room)
unfolding recorded_in
recorded_fits says n m o room k e =
    pick_cases (is_missing n m) _ _ (Records k) _ e
    (λ _ f. clash (cc))
    (λ _ f.
    pick_cases (bad_object o) _ _ (Records k) _ f
    (λ _ g. clash (cc))
    (λ _ g.
    pick_cases (eqb (records says o n) 0) _ _ (Records k) _ g
    (λ _ h. clash (cc))
    (λ _ h.
    pick_cases (ltb room (records says o n)) _ _ (Records k) _ h
    (λ _ i. clash (cc))
    (λ t i. let same : k ≡ records says o n = cc in (same, rw same (ltb-false _ _ t))))))

-- words with a front, of which this is at a place of the front
front_at : (front words : List ℕ) (i : ℕ) → i < length front → get_or (in_front front words) i 0 ≡ get_or front i 0
front_at front words i h = get_or-append front (drop (length front) words) 0 i h

-- object o of a dump at a moment
module _ (g : Geometry) (dump : List ℕ) (m : Moment) (o : ℕ) where
  abbrev seen : ℕ → Record
  seen = says_at g dump m o

  abbrev bytes : ℕ
  bytes = g.layout.«data»

  -- what it is to be told a row and its second word at place i: the dump is accepted, and has so many records of the object; the row has the page of that
  -- at place i; and with its second word it tells how that stands, which is so
  pub record Told (count i row detail : ℕ) : Type 0 where
    pub pages : ℕ
    pub accepted : opened_of g (length dump) ≡ Ok pages
    pub all : count ≡ records seen o pages
    pub page : key_of row ≡ page_at seen o pages i
    pub stands : standing_of row detail ≡ stands_of seen bytes o pages (page_at seen o pages i)
    pub means : Means seen bytes o pages (page_at seen o pages i) (standing_of row detail)

  module _ (room k : ℕ) (rows details : List ℕ) where
    of-pages :
        (n : ℕ) → opened_of g (length dump) ≡ Ok n → recorded_in seen n m o room ≡ Records k → (i : ℕ) → i < k →
        Told k i (get_or (standing_left g dump m o room rows) i 0) (get_or (details_left g dump m o room details) i 0)
    unfolding standing_left details_left
    of-pages n e a i h =
        let t = takes_at (record_at g dump) m in
        let f = recorded_fits seen n m o room k a in
        let inside : i < length (written seen o n) = omega (arith, f.0, written_length seen o n) in
        let row : get_or (standing_left g dump m o room rows) i 0 ≡ get_or (standing_rows seen bytes o n) i 0 =
        rw (e, a) (front_at (standing_rows seen bytes o n) rows i (omega (arith, rows_length seen bytes o n))) in
        let detail : get_or (details_left g dump m o room details) i 0 ≡ get_or (standing_details seen bytes o n) i 0 =
        rw (e, a) (front_at (standing_details seen bytes o n) details i (omega (arith, details_length seen bytes o n))) in
        let tells = ap (λ (x : ℕ). standing_of x (get_or (details_left g dump m o room details) i 0)) row
        ∙ ap (standing_of (get_or (standing_rows seen bytes o n) i 0)) detail
        ∙ place_tells g dump t o n e i inside in
        record {
          pages = n;
          accepted = e;
          all = f.0;
          page = ap key_of row ∙ place_row g dump t o n e i inside;
          stands = tells;
          means = rw tells (place_means g dump t o n e i inside);
        }

    -- whatever the dump is opened to
    of-dump :
        (p : Result ℕ Refusal) → opened_of g (length dump) ≡ p → on_pages (λ r. Refused r 0) (λ n. recorded_in seen n m o room) p ≡ Records k → (i : ℕ) → i < k →
        Told k i (get_or (standing_left g dump m o room rows) i 0) (get_or (details_left g dump m o room details) i 0)
    of-dump (Err r) e a i h = clash (cc)
    of-dump (Ok n) e a i h = of-pages n e a i h

    -- what is told is so
    pub stands_told :
        recorded_on g dump m o room ≡ Records k → (i : ℕ) → i < k → Told k i (get_or (standing_left g dump m o room rows) i 0) (get_or (details_left g dump m o room details) i 0)
    unfolding recorded_on
    stands_told a i h = of-dump (opened_of g (length dump)) refl a i h
