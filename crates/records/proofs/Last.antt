-- How a record stands by the last place of its chunk among the rows. That place is of the newest copy of the chunk, or of the newest header: of those
-- records that pass a test the one with the last place is the newest. A record is that one, or stands before it.
use Rattle.std.specs.Prelude.{Some}
use Prim.Native.Nat.{ℕ, ◌+◌, ◌-◌, ◌≤◌, ◌<◌}
use mathlib.Core.Bool.{true}
use mathlib.Core.List.{List}
use mathlib.Core.Path.{◌≡◌, refl, sym, ap, ◌∙◌}
use native.Mathlib.Omega.{arith}
use borrow.Author.Tests.{eq-eqb, ne_eqb, ltb-true, ltb-false}
use lib.Dec.{ltb}
use lib.ListN.{length, get_or, drop, length-drop}
use lib.Seq.{get_or-drop}
use Rattle.page.specs.Numbers.{page_values}
use Rattle.page.specs.Records.{is_header, is_data}
use Rattle.page.specs.declared.record.Record.{Record}
use Rattle.page.specs.declared.record.Record.TheVariants.{Other, Header, Data}
use Rattle.page.specs.declared.record.Header as header
use Rattle.page.specs.declared.record.Data as «data»
use Rattle.page.proofs.Layouts.{and_left, and_right}
use Rattle.page.proofs.Searching.{by_test, count_le}
use Rattle.chunk.specs.Newest.{copy_of, newest_header, newest_copy}
use Rattle.chunk.specs.Records.{age_of, is_of, header_of, chunk_of, is_copy}
use Rattle.chunk.proofs.Records.{copy_chunk, header_chunk}
use Rattle.records.specs.Copies.{places_of, HasChunk, LastPlace}
use Rattle.records.specs.Standings.{cut_by, copy_stands, stands_by, stands_of}
use Rattle.records.specs.Written.{page_of, is_record, written, page_at}
use Rattle.records.specs.declared.standing.Standing.TheVariants.{NewestHeader, OlderHeader, Superseded, NoFile}
use Rattle.records.proofs.Placing.{LastOf, has_chunk, last_of}
use Rattle.records.proofs.Writing.{records_count, written_length, written_at, written_rises, last_newest}

-- ---- by what it says, and the newest of its kind

module _ (says : ℕ → Record) (P o n p : ℕ) where
  pub stands_other : says p ≡ Other → stands_of says P o n p ≡ NoFile
  unfolding stands_by
  stands_other e = rw e

  -- the newest header, and another
  pub stands_newest : (k : header.Header) → says p ≡ Header k → newest_header says o n ≡ Some p → stands_of says P o n p ≡ NewestHeader
  unfolding stands_by
  stands_newest k e h = rw (e, h, eq-eqb p p refl)

  pub stands_older : (k : header.Header) (q : ℕ) → says p ≡ Header k → newest_header says o n ≡ Some q → (q ≡ p → ⊥) → stands_of says P o n p ≡ OlderHeader
  unfolding stands_by
  stands_older k q e h f = rw (e, h, ne_eqb q p f)

  module _ (d : «data».Data) (e : says p ≡ Data d) where
    -- the newest copy of its chunk, and another
    pub stands_copy :
        newest_copy says o d.chunk.0 n ≡ Some p →
        stands_of says P o n p ≡ copy_stands says P o n d.chunk.0 (cut_by says P o n p d.chunk.0 (newest_header says o n))
    unfolding stands_by
    stands_copy h = rw (e, h, eq-eqb p p refl)

    pub stands_superseded : (q : ℕ) → newest_copy says o d.chunk.0 n ≡ Some q → (q ≡ p → ⊥) → stands_of says P o n p ≡ Superseded (record { 0 = q })
    unfolding stands_by
    stands_superseded q h f = rw (e, h, ne_eqb q p f)

-- ---- ages from a place on

module _ (ages rest : List ℕ) (i : ℕ) (e : rest ≡ drop i ages) where
  -- there is one, of the record at that place
  pub rest_some : i < length ages → 0 < length rest
  rest_some h = rw (e, length-drop i ages) (omega arith)

  pub rest_first : get_or rest 0 0 ≡ get_or ages i 0
  rest_first = rw (e, get_or-drop i ages 0 0) (ap (λ (k : ℕ). get_or ages k 0) (let z : i + 0 ≡ i = omega arith in z))

  -- which a record is read by
  pub rest_said : (says : ℕ → Record) {p : ℕ} {r : Record} → p ≡ page_of (get_or rest 0 0) → r ≡ says p → r ≡ says (page_of (get_or ages i 0))
  rest_said says f h = h ∙ ap says (f ∙ ap page_of rest_first)

  -- and those behind it
  pub rest_inside : (q : ℕ) → i < q → q < length ages → q - i < length rest
  rest_inside q h k = rw (e, length-drop i ages) (omega arith)

  pub rest_at : (q : ℕ) → i < q → get_or rest (q - i) 0 ≡ get_or ages q 0
  rest_at q h = rw (e, get_or-drop i ages (q - i) 0) (ap (λ (k : ℕ). get_or ages k 0) (let z : i + (q - i) ≡ q = omega arith in z))

-- ---- what the chunk of a record says of it

-- of a chunk that is not 0
chunk_copy : (c : ℕ) (k : Record) → (c ≡ 0 → ⊥) → chunk_of k ≡ c → is_copy c k ≡ true
chunk_copy c Other s e = absurd (s (sym e))
chunk_copy c (Header h) s e = absurd (s (sym e))
chunk_copy c (Data d) s e = eq-eqb _ _ e

-- of chunk 0, which no data has
zero_header : (o : ℕ) (k : Record) → is_of o k ≡ true → (is_data k ≡ true → chunk_of k ≡ 0 → ⊥) → chunk_of k ≡ 0 → is_header k ≡ true
zero_header o Other t s e = t
zero_header o (Header h) t s e = refl
zero_header o (Data d) t s e = absurd (s refl e)

-- ---- the newest of its kind by the last place

-- there are no more records than pages
pub written_few : (says : ℕ → Record) (o n : ℕ) → n < page_values → length (written says o n) < 0xFFFFFFFF
written_few says o n few = omega (arith, written_length says o n, records_count says o n, count_le (is_record says o) n)

-- pages with numbers, whose data have chunks
module _ (says : ℕ → Record) (o n : ℕ) (few : n < page_values) (chunked : (p : ℕ) → is_data (says p) ≡ true → chunk_of (says p) ≡ 0 → ⊥) where
  abbrev ages : List ℕ
  ages = written says o n

  abbrev at : ℕ → ℕ
  at = page_at says o n

  -- few enough pages for their numbers, and records for places
  pages : n ≤ 4294967296
  pages = omega arith

  short : length ages < 0xFFFFFFFF
  short = written_few says o n few

  -- the last place of a chunk has its newest copy
  last_copy : (c q : ℕ) → (c ≡ 0 → ⊥) → LastOf says ages short c q → newest_copy says o c n ≡ Some (at q)
  last_copy c q s w =
      last_newest says o n pages (λ p. copy_of o c (says p)) (λ p _ t. and_left (is_of o (says p)) _ t) q w.inside
      (rw (written_at says o n pages q w.inside).its (chunk_copy c (says (at q)) s w.its))
      (λ j h k.
      by_test (copy_of o c (says (at j))) _
      (λ t. absurd (w.last j h k (copy_chunk c (says (at j)) (and_right (is_of o (says (at j))) _ t))))
      (λ t. t))

  -- and the last place of chunk 0 the newest header
  last_header : (q : ℕ) → LastOf says ages short 0 q → newest_header says o n ≡ Some (at q)
  last_header q w =
      let r = written_at says o n pages q w.inside in
      last_newest says o n pages (λ p. header_of o (says p)) (λ p _ t. and_left (is_of o (says p)) _ t) q w.inside
      (rw r.its (zero_header o (says (at q)) r.its (chunked (at q)) w.its))
      (λ j h k.
      by_test (header_of o (says (at j))) _
      (λ t. absurd (w.last j h k (header_chunk (says (at j)) (and_right (is_of o (says (at j))) _ t))))
      (λ t. t))

  -- two places have two pages
  pages_apart : (i j : ℕ) → i < j → j < length ages → at j ≡ at i → ⊥
  pages_apart i j h k e =
      let a = (written_at says o n pages i (omega arith)).age in
      let b = (written_at says o n pages j k).age in
      let s : get_or ages j 0 ≡ get_or ages i 0 = sym b ∙ ap (λ (p : ℕ). age_of says p) e ∙ a in
      absurd (omega (arith, written_rises says o n pages i j h k))

  -- the record at place i: its chunk is among the rows
  pub has_its : (i : ℕ) → i < length ages → HasChunk (chunk_of (says (at i))) (places_of says ages)
  has_its i inside = has_chunk says ages short i inside

  -- how it stands, if it says r and q is the last place of its chunk
  pub record ByLast (P i : ℕ) (r : Record) (q : ℕ) : Type 0 where
    pub behind : (q ≡ i → ⊥) → (i < q) × (q < length ages)
    pub other : r ≡ Other → NoFile ≡ stands_of says P o n (at i)
    pub newest : (h : header.Header) → r ≡ Header h → q ≡ i → NewestHeader ≡ stands_of says P o n (at i)
    pub older : (h : header.Header) → r ≡ Header h → (q ≡ i → ⊥) → OlderHeader ≡ stands_of says P o n (at i)
    pub copy : (d : «data».Data) → r ≡ Data d → q ≡ i → newest_copy says o d.chunk.0 n ≡ Some (at i)
    pub stands :
        (d : «data».Data) → r ≡ Data d → q ≡ i →
        copy_stands says P o n d.chunk.0 (cut_by says P o n (at i) d.chunk.0 (newest_header says o n)) ≡ stands_of says P o n (at i)
    pub superseded : (d : «data».Data) → r ≡ Data d → (q ≡ i → ⊥) → Superseded (record { 0 = at q }) ≡ stands_of says P o n (at i)

  module _ (P i : ℕ) (inside : i < length ages) (r : Record) (q : ℕ) (e : r ≡ says (at i)) (w : LastPlace (chunk_of r) (places_of says ages) q) where
    -- that is the last record of the chunk
    last : LastOf says ages short (chunk_of (says (at i))) q
    last = last_of says ages short (chunk_of (says (at i))) q (rw e at w)

    -- so another one's place is before it
    after : (q ≡ i → ⊥) → (i < q) × (q < length ages)
    after f =
        by_test (ltb q i) _
        (λ t. absurd (last.last i (ltb-true _ _ t) inside refl))
        (λ t. let l = ltb-false q i t in (omega arith, last.inside))

    -- another is on another page
    apart : (q ≡ i → ⊥) → at q ≡ at i → ⊥
    apart f = let b = after f in pages_apart i q b.0 b.1

    -- the record's own place has its own page
    same : q ≡ i → Some (at q) ≡ Some (at i)
    same s = ap (λ (j : ℕ). Some (at j)) s

    -- of a header's chunk the last is the newest header, and of data's the newest copy
    header_at : (h : header.Header) → r ≡ Header h → newest_header says o n ≡ Some (at q)
    header_at h k = last_header q (rw (← e, k) at last)

    copy_at : (d : «data».Data) → r ≡ Data d → newest_copy says o d.chunk.0 n ≡ Some (at q)
    copy_at d k = last_copy d.chunk.0 q (rw (← e, k) at (chunked (at i)) refl) (rw (← e, k) at last)

    -- together
    pub by_last : ByLast P i r q
    by_last = record {
      behind = after;
      other = λ k. sym (stands_other says P o n (at i) (sym e ∙ k));
      newest = λ h k s. sym (stands_newest says P o n (at i) h (sym e ∙ k) (header_at h k ∙ same s));
      older = λ h k f. sym (stands_older says P o n (at i) h (at q) (sym e ∙ k) (header_at h k) (apart f));
      copy = λ d k s. copy_at d k ∙ same s;
      stands = λ d k s. sym (stands_copy says P o n (at i) d (sym e ∙ k) (copy_at d k ∙ same s));
      superseded = λ d k f. sym (stands_superseded says P o n (at i) d (sym e ∙ k) (at q) (copy_at d k) (apart f));
    }
