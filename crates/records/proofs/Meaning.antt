-- How a record stands is true, in the rules' own terms, and it stands so only where that is true.
--
-- A header is the newest of the object, or older than it. Data are superseded by the newest copy of their chunk, if that is another; the newest copy is
-- cut by the newest of the later headers that cut at or below the begin of its chunk; otherwise it is what the lookup of the chunk answers, or the
-- object is no live file.
use Prim.Native.Nat.{ℕ, ◌≤◌, ◌<◌}
use Rattle.std.specs.Prelude.{Option, Some, None, Ok, Err}
use mathlib.Core.Bool.{true, false}
use mathlib.Core.Logic.{⊎_elim}
use mathlib.Core.Path.{◌≡◌, refl, sym, ap, ◌∙◌}
use native.Mathlib.Nat.{eq-or-lt_of_le}
use native.Mathlib.Omega.{arith}
use borrow.Author.Tests.{eq-eqb, eqb-true, eqb-false}
use lib.Dec.{eqb}
use Rattle.page.specs.Numbers.{bad_object, bad_chunk}
use Rattle.page.specs.Records.{is_header, is_data}
use Rattle.page.specs.declared.number.PageNumber.{PageNumber}
use Rattle.page.specs.declared.record.Data as «data»
use Rattle.page.specs.declared.record.Header as header
use Rattle.page.specs.declared.record.Record.{Record}
use Rattle.page.specs.declared.record.Record.TheVariants.{Other, Header, Data}
use Rattle.page.specs.declared.refusal.Refusal.{Refusal}
use Rattle.page.proofs.Layouts.{and_left, and_right}
use Rattle.page.proofs.Searching.{clash, by_test}
use Rattle.chunk.specs.Cuts.{lowest_cut, hides}
use Rattle.chunk.specs.Live.{is_at}
use Rattle.chunk.specs.Lookups.{file_of, sized_by, sized_of, looked_by, looked_of}
use Rattle.chunk.specs.Newest.{copy_of, newest_header, newest_copy}
use Rattle.chunk.specs.Records.{age_of, is_of, header_of, chunk_of, is_copy, count_of, base_of}
use Rattle.chunk.specs.File.{File}
use Rattle.chunk.specs.Looked.{Looked}
use Rattle.chunk.specs.Looked as looked
use Rattle.chunk.specs.Sized as sized
use Rattle.chunk.proofs.Cases.{sized_refused, size_bad, size_by_file, sized_file, looked_refused, chunk_bad_object, chunk_bad_number, chunk_by_file}
use Rattle.chunk.proofs.Meaning.{IsNewest, Hides, newest_found, newest_missing, where_is, hides_lowest_cut}
use Rattle.why.specs.Reasons.{cutter}
use Rattle.why.proofs.Meaning.{cutter_found, cutter_missing, file_newest, cutter_is, uncut_is}
use Rattle.records.specs.Standings.{held_by, cut_by, copy_stands, data_stands, stands_by, stands_of}
use Rattle.records.specs.Written.{is_record}
use Rattle.records.specs.declared.standing.Standing.{Standing}
use Rattle.records.specs.declared.standing.Standing.TheVariants.{NewestHeader, OlderHeader, Superseded, Cut, Holds, NoFile}
use Rattle.records.proofs.Inside.{uncut_answered, looked_found}
use Rattle.records.proofs.Last.{stands_newest, stands_older, stands_copy, stands_superseded}

-- object o of a dump of n pages, with P data bytes to a page
module _ (says : ℕ → Record) (P o n : ℕ) where
  -- ---- what each standing says of page p

  module _ (p : ℕ) where
    -- where the chunk of its data begins
    abbrev begin : ℕ
    begin = base_of P (chunk_of (says p))

    -- it is data, the newest copy of its chunk
    pub record TheCopy : Type 0 where
      pub is : is_data (says p) ≡ true
      pub newest : IsNewest says (λ r. copy_of o (chunk_of (says p)) (says r)) n p

    -- page r is a header of the object later than it that cuts at or below the begin of its chunk, where h is the newest header
    abbrev pub CutsIt : (h r : ℕ) → Type 0
    CutsIt h r = Hides says o h (age_of says p) n begin r

    -- the newest header
    pub record IsNewestHeader : Type 0 where
      pub newest : IsNewest says (λ r. header_of o (says r)) n p

    -- an older one: page q is the newest, and is newer
    pub record IsOlderHeader : Type 0 where
      pub is : is_header (says p) ≡ true
      pub page : ℕ
      pub newest : IsNewest says (λ r. header_of o (says r)) n page
      pub newer : age_of says p < age_of says page

    -- superseded: it is data, and page q is the newest copy of its chunk, and newer
    pub record IsSuperseded (q : ℕ) : Type 0 where
      pub is : is_data (says p) ≡ true
      pub newest : IsNewest says (λ r. copy_of o (chunk_of (says p)) (says r)) n q
      pub newer : age_of says p < age_of says q

    -- cut: it is the newest copy, and header r cuts it; no newer header does
    pub record IsCut (r : ℕ) : Type 0 where
      pub copy : TheCopy
      pub header : ℕ
      pub newest_header_lem : newest_header says o n ≡ Some header
      pub cuts : CutsIt header r
      pub newest : (s : ℕ) → CutsIt header s → age_of says s ≤ age_of says r

    -- it holds so many bytes of chunk c: it is data of that chunk, and the lookup of the chunk answers it with so many valid bytes
    pub record HoldsBytes (c a : ℕ) : Type 0 where
      pub is : is_data (says p) ≡ true
      pub its : chunk_of (says p) ≡ c
      pub shown : ℕ
      pub visits : ℕ
      pub looked : looked_of says o n P c ≡ looked.Copy (record { 0 = p }) a shown visits

    -- it holds nothing of a file: it is the newest copy, no header cuts it, and the object is no live file
    pub record IsNoFile : Type 0 where
      pub copy : TheCopy
      pub uncut : (h r : ℕ) → newest_header says o n ≡ Some h → CutsIt h r → ⊥
      pub refusal : Refusal
      pub visits : ℕ
      pub refused : sized_of says o n P ≡ sized.Refused refusal visits

    abbrev pub Means : Standing → Type 0
    Means NewestHeader = IsNewestHeader
    Means OlderHeader = IsOlderHeader
    Means (Superseded q) = IsSuperseded q.0
    Means (Cut r) = IsCut r.0
    Means (Holds c a) = HoldsBytes c.0 a
    Means NoFile = IsNoFile

  -- ---- the record that a page is

  -- a header, data, and a copy of chunk c, as the case that it is
  of_header : (X : Type 0) (r : Record) → is_header r ≡ true → ((k : header.Header) → r ≡ Header k → X) → X
  of_header X Other t f = clash (cc)
  of_header X (Header k) t f = f k refl
  of_header X (Data d) t f = clash (cc)

  of_data : (X : Type 0) (r : Record) → is_data r ≡ true → ((d : «data».Data) → r ≡ Data d → d.chunk.0 ≡ chunk_of r → X) → X
  of_data X Other t f = clash (cc)
  of_data X (Header k) t f = clash (cc)
  of_data X (Data d) t f = f d refl refl

  of_copy : (X : Type 0) (c : ℕ) (r : Record) → is_copy c r ≡ true → ((d : «data».Data) → r ≡ Data d → d.chunk.0 ≡ c → X) → X
  of_copy X c Other t f = clash (cc)
  of_copy X c (Header k) t f = clash (cc)
  of_copy X c (Data d) t f = f d refl (eqb-true _ _ t)

  -- ---- how a standing comes about

  module _ (p : ℕ) where
    abbrev its-copy : ℕ → Option ℕ
    its-copy c = newest_copy says o c n

    abbrev its-cut : ℕ → Option ℕ
    its-cut c = cut_by says P o n p c (newest_header says o n)

    -- by what the tests say, in their order
    stands_by_lem :
        (X : Standing → Type 0) →
        (says p ≡ Other → X NoFile) →
        ((k : header.Header) → says p ≡ Header k → newest_header says o n ≡ Some p → X NewestHeader) →
        ((k : header.Header) → says p ≡ Header k → is_at p (newest_header says o n) ≡ false → X OlderHeader) →
        ((d : «data».Data) → says p ≡ Data d → its-copy d.chunk.0 ≡ None → X NoFile) →
        ((d : «data».Data) (q : ℕ) → says p ≡ Data d → its-copy d.chunk.0 ≡ Some q → (q ≡ p → ⊥) → X (Superseded (record { 0 = q }))) →
        ((d : «data».Data) (r : ℕ) → says p ≡ Data d → its-copy d.chunk.0 ≡ Some p → its-cut d.chunk.0 ≡ Some r → X (Cut (record { 0 = r }))) →
        ((d : «data».Data) → says p ≡ Data d → its-copy d.chunk.0 ≡ Some p → its-cut d.chunk.0 ≡ None →
        X (held_by d.chunk.0 (looked_of says o n P d.chunk.0))) →
        X (stands_of says P o n p)
    unfolding stands_by
    stands_by_lem X other newest older missing superseded cut held = by-record (says p) refl
      where
        by-header : (k : header.Header) → says p ≡ Header k → (r : Option ℕ) → newest_header says o n ≡ r → is_at p r ≡ true → X NewestHeader
        by-header k e None i t = clash (cc)
        by-header k e (Some q) i t = newest k e (i ∙ ap Some (eqb-true q p t))

        by-cut : (d : «data».Data) → says p ≡ Data d → its-copy d.chunk.0 ≡ Some p → (r : Option ℕ) → its-cut d.chunk.0 ≡ r → X (copy_stands says P o n d.chunk.0 r)
        by-cut d e i None j = held d e i j
        by-cut d e i (Some r) j = cut d r e i j

        by_copy : (d : «data».Data) → says p ≡ Data d → (r : Option ℕ) → its-copy d.chunk.0 ≡ r → X (data_stands says P o n p d.chunk.0 r)
        by_copy d e None i = missing d e i
        by_copy d e (Some q) i =
            by_test (eqb q p) _
            (λ t. rw t (by-cut d e (i ∙ ap Some (eqb-true q p t)) (its-cut d.chunk.0) refl))
            (λ t. rw t (superseded d q e i (eqb-false q p t)))

        by-record : (k : Record) → says p ≡ k → X (stands_by says P o n p k)
        by-record Other e = other e
        by-record (Header k) e =
            by_test (is_at p (newest_header says o n)) _
            (λ t. rw t (by-header k e (newest_header says o n) refl t))
            (λ t. rw t (older k e t))
        by-record (Data d) e = by_copy d e (its-copy d.chunk.0) refl

  -- what stands as the newest header is the newest
  newest_stands : (p : ℕ) → stands_of says P o n p ≡ NewestHeader → newest_header says o n ≡ Some p
  newest_stands p =
      stands_by_lem p (λ s. s ≡ NewestHeader → newest_header says o n ≡ Some p)
      (λ _ z. clash (cc)) (λ _ _ i _. i) (λ _ _ _ z. clash (cc)) (λ _ _ _ z. clash (cc)) (λ _ _ _ _ _ z. clash (cc)) (λ _ _ _ _ _ z. clash (cc))
      (λ d _ _ _. held d.chunk.0 (looked_of says o n P d.chunk.0))
    where
      held : (c : ℕ) (l : Looked) → held_by c l ≡ NewestHeader → newest_header says o n ≡ Some p
      held c (looked.Copy q a s v) z = clash (cc)
      held c (looked.Hole s v) z = clash (cc)
      held c (Err e) z = clash (cc)

  -- ---- each standing is true

  -- pages that their numbers tell apart, and page p of them, a record of the object; if it is data, with a chunk's number and bytes
  module _
      (few : n ≤ 4294967296) (p : ℕ) (below : p < n) (own : is_record says o p ≡ true)
      (sound : is_data (says p) ≡ true → (bad_chunk (chunk_of (says p)) ≡ false) × (0 < count_of (says p))) where
    -- another page that is not older is newer
    newer-than : (q : ℕ) → q < n → (q ≡ p → ⊥) → age_of says p ≤ age_of says q → age_of says p < age_of says q
    newer-than q h f l = ⊎_elim (λ (e : age_of says p ≡ age_of says q). absurd (f (omega arith))) (λ k. k) (eq-or-lt_of_le l)

    -- data are a copy of their chunk
    own_copy : (d : «data».Data) → says p ≡ Data d → copy_of o d.chunk.0 (says p) ≡ true
    own_copy d e = rw (own, e) (eq-eqb d.chunk.0 d.chunk.0 refl)

    -- a header that is not the newest is older than it
    older-means : (r : Option ℕ) → newest_header says o n ≡ r → is_header (says p) ≡ true → is_at p r ≡ false → IsOlderHeader p
    older-means None e i t = let z = newest_missing says (header_of o) n e p below in clash (cc (rw (own, i) at z))
    older-means (Some q) e i t =
        let w = newest_found says (header_of o) n q e in
        record { is = i; page = q; newest = w; newer = newer-than q w.below (eqb-false q p t) (w.newest p below (rw (own, i))) }

    module _ (c : ℕ) (its : chunk_of (says p) ≡ c) (is : is_data (says p) ≡ true) where
      -- the newest copy of its chunk is that
      copy-means : newest_copy says o c n ≡ Some p → TheCopy p
      copy-means i = record { is = is; newest = rw its (newest_found says (copy_of o c) n p i) }

      -- where a later header cuts it, the newest of these does
      cut-means : (r : ℕ) → newest_copy says o c n ≡ Some p → its-cut p c ≡ Some r → IsCut p r
      cut-means r i j = by-header (newest_header says o n) refl j
        where
          by-header : (m : Option ℕ) → newest_header says o n ≡ m → cut_by says P o n p c m ≡ Some r → IsCut p r
          by-header None e k = clash (cc)
          by-header (Some h) e k =
              let w = cutter_found says P o n h (base_of P c) p r k in
              record { copy = copy-means i; header = h; newest_header_lem = e; cuts = rw its w.0; newest = rw its w.1 }

      -- and where none does, none cuts it
      uncut-means : its-cut p c ≡ None → (h r : ℕ) → newest_header says o n ≡ Some h → CutsIt p h r → ⊥
      uncut-means j h r e k = cutter_missing says P o n h (base_of P c) p (rw e at j) r (rw its at k)

      -- then the lookup of its chunk answers it, or the object is no live file
      held-means : newest_copy says o c n ≡ Some p → its-cut p c ≡ None → Means p (held_by c (looked_of says o n P c))
      held-means i j =
          by_test (bad_object o) _
          (λ t. rw (chunk_bad_object says o n P c t) (no-file _ _ (size_bad says o n P t)))
          (λ t. by_file t (file_of says o n) refl)
        where
          no-file : (f : Refusal) (v : ℕ) → sized_of says o n P ≡ sized.Refused f v → IsNoFile p
          no-file f v e = record { copy = copy-means i; uncut = uncut-means j; refusal = f; visits = v; refused = e }

          by_file : bad_object o ≡ false → (f : File) → file_of says o n ≡ f → Means p (held_by c (looked_of says o n P c))
          by_file t (Err d) e =
              rw (chunk_by_file says o n P c t (rw its at (sound is).0), e, looked_refused says o n P c d.answer d.visits)
              (no-file d.answer d.visits (size_by_file says o n P t ∙ rw e (sized_refused says o n P d.answer d.visits)))
          by_file t (Ok x) e =
              let a = uncut_answered says o n P p x.visits x.answer e few below (rw (own, is)) (sound is).1
              (λ r. uncut-means j x.answer.0 r (file_newest says o n x.visits x.answer e)) t (sound is).0 (rw its i) in
              rw (← its, a.looked) record { is = is; its = refl; shown = a.shown; visits = a.visits; looked = a.looked }

    -- so how it stands is true
    pub stands_means : Means p (stands_of says P o n p)
    stands_means =
        stands_by_lem p (Means p)
        (λ e. let z : false ≡ true = rw e at own in clash (cc))
        (λ k e i. record { newest = newest_found says (header_of o) n p i })
        (λ k e t. older-means (newest_header says o n) refl (rw e) t)
        (λ d e i. let z : false ≡ true = sym (newest_missing says (copy_of o d.chunk.0) n i p below) ∙ own_copy d e in clash (cc))
        (λ d q e i f.
        let its : chunk_of (says p) ≡ d.chunk.0 = rw e in
        let w = newest_found says (copy_of o d.chunk.0) n q i in
        record { is = rw e; newest = rw its w; newer = newer-than q w.below f (w.newest p below (own_copy d e)) })
        (λ d r e i j. cut-means d.chunk.0 (rw e) (rw e) r i j)
        (λ d e i j. held-means d.chunk.0 (rw e) (rw e) i j)

  -- ---- and no other would be

  -- no header cuts what the lowest later cut does not hide
  in_sight : (h q x : ℕ) → hides (lowest_cut says o h (age_of says q) n) x ≡ false → cutter says P o n h q x ≡ None
  in_sight h q x t = found (cutter says P o n h q x) refl
    where
      found : (m : Option ℕ) → cutter says P o n h q x ≡ m → m ≡ None
      found None e = refl
      found (Some r) e = let z = hides_lowest_cut says o h (age_of says q) x n r (cutter_found says P o n h x q r e).0 in clash (cc)

  -- whatever the lookup of a chunk answers holds its valid bytes
  pub lookup_holds :
      (c : ℕ) (q : PageNumber) (a s v : ℕ) → looked_of says o n P c ≡ looked.Copy q a s v → stands_of says P o n q.0 ≡ Holds (record { 0 = c }) a
  lookup_holds c q a s v e =
      let f = looked_found says o n P c q a s v e in
      let w = newest_found says (copy_of o c) n q.0 f.copy in
      of_copy _ c (says q.0) (and_right (is_of o (says q.0)) _ w.passes)
      (λ d k its.
      stands_copy says P o n q.0 d k (rw its f.copy)
      ∙ rw (its, file_newest says o n f.visits f.header f.live, in_sight f.header.0 q.0 (base_of P c) f.seen, e))

  -- where the size lookup is refused, so is that of a chunk
  no_bytes : (r : Refusal) (v : ℕ) → sized_of says o n P ≡ sized.Refused r v → (c : ℕ) → held_by c (looked_of says o n P c) ≡ NoFile
  no_bytes r v s c =
      by_test (bad_object o) _
      (λ t. rw (chunk_bad_object says o n P c t))
      (λ t.
      by_test (bad_chunk c) _
      (λ u. rw (chunk_bad_number says o n P c t u))
      (λ u. rw (chunk_by_file says o n P c t u) (by_file t (file_of says o n) refl)))
    where
      by_file : bad_object o ≡ false → (f : File) → file_of says o n ≡ f → held_by c (looked_by says o n P c f) ≡ NoFile
      by_file t (Err d) e = rw (looked_refused says o n P c d.answer d.visits)
      by_file t (Ok x) e = let z = sym s ∙ size_by_file says o n P t ∙ ap (sized_by says o n P) e ∙ sized_file says o n P x.answer x.visits in clash (cc)

  module _ (few : n ≤ 4294967296) (p : ℕ) where
    -- no header cuts it
    none_cuts : (m : Option ℕ) → newest_header says o n ≡ m → ((h r : ℕ) → newest_header says o n ≡ Some h → CutsIt p h r → ⊥) → cut_by says P o n p (chunk_of (says p)) m ≡ None
    none_cuts None e f = refl
    none_cuts (Some h) e f = uncut_is says P o n h (begin p) few p (λ r c. f h r e c)

    -- it is the newest copy that the search finds
    copy_is : (d : «data».Data) → d.chunk.0 ≡ chunk_of (says p) → TheCopy p → newest_copy says o d.chunk.0 n ≡ Some p
    copy_is d its w = rw its (where_is says (λ r. copy_of o (chunk_of (says p)) (says r)) n p w.newest few)

    -- so what is true of it is how it stands
    pub means_stands : (s : Standing) → Means p s → stands_of says P o n p ≡ s
    means_stands NewestHeader w =
        of_header _ (says p) (and_right (is_of o (says p)) _ w.newest.passes)
        (λ k e. stands_newest says P o n p k e (where_is says (λ r. header_of o (says r)) n p w.newest few))
    means_stands OlderHeader w =
        of_header _ (says p) w.is
        (λ k e.
        stands_older says P o n p k w.page e (where_is says (λ r. header_of o (says r)) n w.page w.newest few)
        (λ (i : w.page ≡ p). let l : age_of says p < age_of says p = rw i at w.newer in omega arith))
    means_stands (Superseded q) w =
        of_data _ (says p) w.is
        (λ d e its.
        stands_superseded says P o n p d e q.0 (rw its (where_is says (λ r. copy_of o (chunk_of (says p)) (says r)) n q.0 w.newest few))
        (λ (i : q.0 ≡ p). let l : age_of says p < age_of says p = rw i at w.newer in omega arith))
    means_stands (Cut r) w =
        of_data _ (says p) w.copy.is
        (λ d e its.
        stands_copy says P o n p d e (copy_is d its w.copy)
        ∙ rw (w.newest_header_lem, its, cutter_is says P o n w.header (begin p) few p r.0 w.cuts w.newest))
    means_stands (Holds c a) w = lookup_holds c.0 (record { 0 = p }) a w.shown w.visits w.looked
    means_stands NoFile w =
        of_data _ (says p) w.copy.is
        (λ d e its. stands_copy says P o n p d e (copy_is d its w.copy) ∙ rw (its, none_cuts (newest_header says o n) refl w.uncut) (no_bytes w.refusal w.visits w.refused (chunk_of (says p))))

  -- ---- one newest header

  -- if the object has a header, one of its records stands as the newest, and no other
  pub record OneNewest : Type 0 where
    pub page : ℕ
    pub below : page < n
    pub own : is_record says o page ≡ true
    pub stands : stands_of says P o n page ≡ NewestHeader
    pub only : (p : ℕ) → stands_of says P o n p ≡ NewestHeader → p ≡ page

  -- it is the newest header
  pub one_newest : n ≤ 4294967296 → (q : ℕ) → q < n → header_of o (says q) ≡ true → OneNewest
  one_newest few q h t = found (newest_header says o n) refl
    where
      found : (r : Option ℕ) → newest_header says o n ≡ r → OneNewest
      found None e = let z = newest_missing says (header_of o) n e q h in clash (cc)
      found (Some p) e =
          let w = newest_found says (header_of o) n p e in
          record {
            page = p;
            below = w.below;
            own = and_left (is_of o (says p)) _ w.passes;
            stands = means_stands few p NewestHeader (record { newest = w });
            only = λ r s. let i : Some r ≡ Some p = sym (newest_stands r s) ∙ e in cc;
          }
