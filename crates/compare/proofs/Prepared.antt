-- An object by the words that a dump is prepared to is the object by the rules. Its words are its records, the newest first, so that the first header
-- among them is the newest header, and a walk along them gives the size; and the rows of its copies show what the lookups of its chunks lend.
use Prim.Native.Nat.{ℕ, suc, ◌+◌, ◌-◌, ◌*◌, ◌/◌, ◌%◌, ◌≤◌, ◌<◌, zero-le}
use Rattle.std.specs.Prelude.{Ok, Option, Some, None, Err}
use mathlib.Core.Bool.{true, false, not}
use mathlib.Core.List.{List, [], ◌∷◌, ◌++◌, map}
use mathlib.Core.Logic.{inl, inr}
use mathlib.Core.Path.{◌≡◌, refl, sym, ap, ◌∙◌}
use native.Mathlib.Numerals.{add-one}
use native.Mathlib.Omega.{arith}
use borrow.Author.Tests.{leb-true, leb-false}
use lib.Dec.{eqb, leb}
use lib.ListN.{length, length-map, replicate}
use Rattle.page.specs.Lengths.{opened_of}
use Rattle.page.specs.Numbers.{bad_object, bad_chunk}
use Rattle.page.specs.Records.{is_header, record_at}
use Rattle.page.specs.declared.geometry.Geometry.{Geometry}
use Rattle.page.specs.declared.number.PageNumber.{PageNumber}
use Rattle.page.specs.declared.record.Record.{Record}
use Rattle.page.specs.declared.refusal.Refusal.{Refusal}
use Rattle.page.specs.declared.refusal.Refusal.TheVariants.{BadChunk, PastEnd}
use Rattle.page.proofs.Layouts.{listed_whole}
use Rattle.page.proofs.Lengths.{opened_facts, opened_pages}
use Rattle.page.proofs.Searching.{by_test, clash}
use Rattle.page.proofs.Within.{object_within, chunk_within}
use Rattle.sort.specs.Ascending.{In}
use Rattle.sort.specs.Packed.{word_values, packed}
use Rattle.chunk.specs.Answers.{part_by}
use Rattle.chunk.specs.Cuts.{lowest_cut, hides}
use Rattle.chunk.specs.Lookups.{file_of, sized_of, sized_by, looked_of, looked_by, copy_by, shown_of, valid_of}
use Rattle.chunk.specs.Newest.{newest_header, newest_copy, records, copy_of}
use Rattle.chunk.specs.Records.{age_of, base_of}
use Rattle.chunk.specs.Sizes.{size_of}
use Rattle.chunk.specs.File.{File}
use Rattle.chunk.specs.File as file
use Rattle.chunk.specs.Sized as sized
use Rattle.chunk.specs.Looked as looked
use Rattle.chunk.proofs.Cases.{size_by_file, sized_refused, sized_file, chunk_by_file, chunk_bad_number, looked_refused, looked_past, looked_inside, copy_missing, copy_hidden, copy_shown, part_refused}
use Rattle.chunk.proofs.Meaning.{newest_found}
use Rattle.index.specs.Chains.{objects, top}
use Rattle.index.specs.Held.{from_list}
use Rattle.index.specs.Walks.{size_walk}
use Rattle.index.proofs.Answer.Walked.{added_listed}
use Rattle.index.proofs.Sorted.Order.{pages_most, ages_below}
use Rattle.index.proofs.Sorted.Parting.{Fails, Parted, all, at, parted}
use Rattle.index.proofs.Sorted.Records.{recs_of}
use Rattle.index.proofs.Sorted.Rules.{Listed, newest_none, newest_at, all_counted}
use Rattle.index.proofs.Walk.Walks.{headed}
use Rattle.file.proofs.Chunks.{chunk_in_lem, chunks_most, data_some}
use Rattle.file.proofs.Copying.{opened_data}
use Rattle.file.proofs.Meeting.{valid_most}
use Rattle.file.specs.Copies.{packed_copy, copies_to}
use Rattle.file.specs.Table.{chunks_in}
use Rattle.compare.specs.Views.{byte_of, bytes_on, is_deleted, size_in, shown_at, view_of}
use Rattle.compare.specs.Differences.{stretch_bytes}
use Rattle.compare.specs.Sides.{stretch_begin, first_header, pages_in, rows_show, side_of}
use Rattle.compare.specs.Prepared.{records_of, order_of, copies_of}
use Rattle.compare.proofs.Copying.{size_recorded}
use Rattle.compare.proofs.Running.{values_back}
use Rattle.compare.proofs.Showing.{byte_behind, aside_none, zeros_aside, shows_past, shows_own}

-- ---- the first header

module _ (says : ℕ → Record) where
  -- there is none
  first_none : (L : List ℕ) → Fails (headed says) L → first_header says L ≡ None
  unfolding first_header
  first_none [] f = refl
  first_none (p ∷ L) f = rw (f p (inl refl)) (first_none L (λ x i. f x (inr i)))

  -- or it is behind others
  first_at_lem : (A : List ℕ) (q : ℕ) (B : List ℕ) → Fails (headed says) A → headed says q ≡ true → first_header says (A ++ (q ∷ B)) ≡ Some q
  unfolding first_header
  first_at_lem [] q B f e = rw e
  first_at_lem (p ∷ A) q B f e = rw (f p (inl refl)) (first_at_lem A q B (λ x i. f x (inr i)) e)

  -- so it is the newest
  first_newest : (o n b : ℕ) (L : List ℕ) → Parted (headed says) L → Listed says says o n b L → first_header says L ≡ newest_header says o n
  first_newest o n b L (all f) l = first_none L f ∙ sym (newest_none says says o n b L l is_header f)
  first_newest o n b L (at A q B f e) l = first_at_lem A q B f e ∙ sym (newest_at says says o n b A q B l is_header f e)

-- ---- the lookups of a chunk

module _ (says : ℕ → Record) (o n P : ℕ) where
  -- a copy is on a page of the dump, and no more bytes are valid than a page has data
  module _ (c h z : ℕ) (p : PageNumber) (a s v : ℕ) where
    -- by the newest copy of the chunk
    copy_within : copy_by says o n P c h (shown_of P c z) (newest_copy says o c n) ≡ looked.Copy p a s v → (p.0 < n) × (a ≤ P)
    copy_within e = go (newest_copy says o c n) refl e
      where
        go : (r : Option ℕ) → newest_copy says o c n ≡ r → copy_by says o n P c h (shown_of P c z) r ≡ looked.Copy p a s v → (p.0 < n) × (a ≤ P)
        go None f e = let q = sym (copy_missing says o n P c h (shown_of P c z)) ∙ e in clash (cc)
        go (Some q) f e =
            by_test (hides (lowest_cut says o h (age_of says q) n) (base_of P c)) _
            (λ t. let k = sym (copy_hidden says o n P c h (shown_of P c z) q t) ∙ e in clash (cc))
            (λ t.
            let k = sym (copy_shown says o n P c h (shown_of P c z) q t) ∙ e in
            let page : q ≡ p.0 = cc in
            let valid : valid_of P c (says q) (shown_of P c z) (lowest_cut says o h (age_of says q) n) ≡ a = cc in
            (rw page at (newest_found says (copy_of o c) n q f).below, rw valid at (valid_most P c (says q) z (lowest_cut says o h (age_of says q) n))))

  -- likewise where the chunk is looked up
  module _ (good : bad_object o ≡ false) where
    -- whatever the lookup answers
    looked-within : (c : ℕ) (p : PageNumber) (a s v : ℕ) → looked_of says o n P c ≡ looked.Copy p a s v → (p.0 < n) × (a ≤ P)
    looked-within c p a s v e =
        by_test (bad_chunk c) _
        (λ t. let k = sym (chunk_bad_number says o n P c good t) ∙ e in clash (cc))
        (λ t. go (file_of says o n) (sym (chunk_by_file says o n P c good t) ∙ e))
      where
        go : (f : File) → looked_by says o n P c f ≡ looked.Copy p a s v → (p.0 < n) × (a ≤ P)
        go (Err f) e = let k = sym (looked_refused says o n P c f.answer f.visits) ∙ e in clash (cc)
        go (Ok y) e =
            let h = y.answer in
            let w = y.visits in
            by_test (leb (size_of says P o h.0 n) (base_of P c)) _
            (λ t. let k = sym (looked_past says o n P c h w (leb-true _ _ t)) ∙ e in clash (cc))
            (λ t.
            copy_within c h.0 (size_of says P o h.0 n) p a s v (sym (looked_inside says o n P c h w (leb-false _ _ t)) ∙ e))

    -- of what is no file no size
    size_none : (r : Refusal) (v : ℕ) → file_of says o n ≡ file.Refused r v → sized_of says o n P ≡ sized.Refused r v
    size_none r v e = size_by_file says o n P good ∙ ap (sized_by says o n P) e ∙ sized_refused says o n P r v

    -- of a file the size by its newest header
    size-file : (h : PageNumber) (v : ℕ) → file_of says o n ≡ file.Header h v → sized_of says o n P ≡ sized.Size (size_of says P o h.0 n) v
    size-file h v e = size_by_file says o n P good ∙ ap (sized_by says o n P) e ∙ sized_file says o n P h v

    -- no bytes are lent of what is no file, nor behind a file's chunks
    module _ (g : Geometry) (dump : List ℕ) (c : ℕ) where
      -- none of what is no file
      part_none : (r : Refusal) (v : ℕ) → file_of says o n ≡ file.Refused r v → part_by g dump (looked_of says o n P c) ≡ []
      part_none r v e =
          by_test (bad_chunk c) _
          (λ t. ap (part_by g dump) (chunk_bad_number says o n P c good t) ∙ part_refused g dump BadChunk 0 0)
          (λ t.
          ap (part_by g dump) (chunk_by_file says o n P c good t ∙ ap (looked_by says o n P c) e ∙ looked_refused says o n P c r v)
          ∙ part_refused g dump r v 0)

      -- none behind a file's chunks
      part-past :
          (h : PageNumber) (v : ℕ) → file_of says o n ≡ file.Header h v → 0 < P → chunks_in P (size_of says P o h.0 n) < c →
          part_by g dump (looked_of says o n P c) ≡ []
      part-past h v e bytes k =
          let z = size_of says P o h.0 n in
          by_test (bad_chunk c) _
          (λ t. ap (part_by g dump) (chunk_bad_number says o n P c good t) ∙ part_refused g dump BadChunk 0 0)
          (λ t.
          let b = chunk_within c t in
          by_test (leb z (base_of P c)) _
          (λ u.
          ap (part_by g dump) (chunk_by_file says o n P c good t ∙ ap (looked_by says o n P c) e ∙ looked_past says o n P c h v (leb-true _ _ u))
          ∙ part_refused g dump PastEnd v 0)
          (λ u. let i : c ≤ chunks_in P z = chunk_in_lem P z c bytes b.least b.most (leb-false _ _ u) in absurd (omega arith)))

-- ---- pages of whole stretches

-- the data of a page are a whole number of stretches
pub opened_stretches : (g : Geometry) (l n : ℕ) → opened_of g l ≡ Ok n → g.layout.«data» ≡ stretch_bytes * (g.layout.«data» / stretch_bytes)
opened_stretches g l n e = omega (arith, listed_whole g.layout (opened_facts g l n e).listed)

-- ---- one object of an accepted dump

module _ (g : Geometry) (dump : List ℕ) (n : ℕ) (e : opened_of g (length dump) ≡ Ok n) (o : ℕ) (good : bad_object o ≡ false) where
  abbrev says : ℕ → Record
  says = record_at g dump

  abbrev P : ℕ
  P = g.layout.«data»

  -- its records, the newest first
  abbrev L : List ℕ
  L = records_of says n o

  -- an id is not 0
  pos : 0 < o
  pos = (object_within o good).least

  -- the pages of its records fit a word
  pub record_words : (x : ℕ) → In x L → x < word_values
  record_words x i = let b = (recs_of (objects says) (age_of says) o n x i).0 in omega (arith, pages_most g dump n e)

  -- they are its records by the rules
  own : Listed says says o n top L
  own = added_listed says n (omega (arith, pages_most g dump n e)) (ages_below g dump n e) (λ p. true) o pos

  -- the pages of its words
  pages_in_lem : pages_in g dump (order_of says n o) ≡ L
  pages_in_lem = values_back o L record_words

  -- how many they are
  pub many : length (order_of says n o) ≡ records says o n
  many = length-map L (packed o) ∙ sym (all_counted says says o n top L own)

  -- its newest header
  header_first : first_header says (pages_in g dump (order_of says n o)) ≡ newest_header says o n
  header_first = ap (first_header says) pages_in_lem ∙ first_newest says o n top L (parted (headed says) L) own

  -- its size
  size_walked : size_walk says P (from_list (pages_in g dump (order_of says n o))) ≡ sized_of says o n P
  size_walked = ap (λ (l : List ℕ). size_walk says P (from_list l)) pages_in_lem ∙ size_recorded g dump n e o good P

  -- what its rows show
  rows_show_lem : (x : ℕ) → rows_show g dump (copies_of says n P o) x ≡ shown_at g dump n o x
  unfolding shown_at
  rows_show_lem x = go (file_of says o n) refl
    where
      -- the byte of a lookup that lends none
      nothing : (c : ℕ) → part_by g dump (looked_of says o n P c) ≡ [] → 0 ≡ byte_of (part_by g dump (looked_of says o n P c)) (x % P)
      nothing c p = sym (ap (λ (l : List ℕ). byte_of l (x % P)) p ∙ byte_behind [] (x % P) zero-le)

      go : (f : File) → file_of says o n ≡ f → rows_show g dump (copies_of says n P o) x ≡ byte_of (part_by g dump (looked_of says o n P (x / P + 1))) (x % P)
      go (Err e) f =
          rw (size_none says o n P good e.answer e.visits f)
          (aside_none g dump x (replicate (length L - 0) 0) (zeros_aside g dump (stretch_begin x) (length L - 0))
          ∙ nothing (x / P + 1) (part_none says o n P good g dump (x / P + 1) e.answer e.visits f))
      go (Ok y) f =
          let m = chunks_in P (size_of says P o y.answer.0 n) in
          let short = opened_pages g (length dump) n e in
          let few = chunks_most P (size_of says P o y.answer.0 n) in
          let bytes = opened_data g (length dump) n e in
          let within = looked-within says o n P good in
          let filled = data_some g (length dump) n e in
          let whole = opened_stretches g (length dump) n e in
          let spare = length L - length (map packed_copy (copies_to (looked_of says o n P) m)) in
          rw (size-file says o n P good y.answer y.visits f)
          (by_test (leb (suc (x / P)) m) _
          (λ t.
          rw (add-one (x / P))
          (shows_own g dump (looked_of says o n P) n m short few bytes within (P / stretch_bytes) x filled whole (leb-true _ _ t) (replicate spare 0)
          (zeros_aside g dump (stretch_begin x) spare)))
          (λ t.
          let past : m < suc (x / P) = leb-false _ _ t in
          shows_past g dump (looked_of says o n P) n m short few bytes within (P / stretch_bytes) x filled whole (omega arith) (replicate spare 0)
          (zeros_aside g dump (stretch_begin x) spare)
          ∙ nothing (x / P + 1) (part-past says o n P good g dump (x / P + 1) y.answer y.visits f filled (omega arith))))

  -- so it is the same by its words as by the rules
  pub side_view : side_of g dump (order_of says n o) (copies_of says n P o) ≡ view_of g dump n o
  unfolding side_of view_of
  side_view = λ j. record {
    has = not (eqb (many j) 0);
    header = bytes_on g dump (header_first j);
    gone = is_deleted says (header_first j);
    size = size_in (size_walked j);
    shows = λ x. rows_show_lem x j;
  }
