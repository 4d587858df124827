-- In a live file a newest copy that no later header cuts is what the lookup of its chunk answers. It begins inside the size: if it is newer than the
-- newest header, it ends within the size; and else that header cuts at its own file size, which is then behind the begin.
use Prim.Native.Nat.{ℕ, zero, suc, ◌≤◌, ◌<◌}
use Rattle.std.specs.Prelude.{Option, Some, None, Ok, Err}
use mathlib.Core.Bool.{true, false, ◌&&◌}
use mathlib.Core.Logic.{⊎_elim}
use mathlib.Core.Path.{◌≡◌, refl, ap, ◌∙◌}
use native.Mathlib.Nat.{not-suc-le-zero, le_of_suc-le-suc, eq-or-lt_of_le, le_trans, le-max_left, le-max_right}
use native.Mathlib.Omega.{arith}
use borrow.Author.Tests.{eq-eqb, lt-ltb, ltb-true, ltb-false, leb-false}
use lib.Dec.{eqb, ltb, leb}
use Rattle.page.specs.Numbers.{bad_object, bad_chunk}
use Rattle.page.specs.Records.{is_header, is_data}
use Rattle.page.specs.declared.number.PageNumber.{PageNumber}
use Rattle.page.specs.declared.record.Record.{Record}
use Rattle.page.specs.declared.record.Record.TheVariants.{Other, Header, Data}
use Rattle.page.proofs.Layouts.{and_right}
use Rattle.page.proofs.Searching.{clash, by_test, pick_cases}
use Rattle.chunk.specs.Cuts.{is_shrink, cut_of, lowest_cut, hides}
use Rattle.chunk.specs.Lookups.{file_of, shown_of, valid_of, copy_at, copy_by, chunk_by, looked_by, looked_of}
use Rattle.chunk.specs.Newest.{newest_copy}
use Rattle.chunk.specs.Records.{age_of, is_of, header_of, data_of, chunk_of, count_of, file_size, is_gone, is_file, base_of}
use Rattle.chunk.specs.Sizes.{end_of, data_end, size_of}
use Rattle.chunk.specs.File.{File}
use Rattle.chunk.specs.File as file
use Rattle.chunk.specs.Looked as looked
use Rattle.chunk.proofs.Cases.{size_larger}
use Rattle.chunk.proofs.Gathering.{end_suc}
use Rattle.chunk.proofs.Holes.{copy_in_sight}
use Rattle.chunk.proofs.Meaning.{Hides, newest_found, size_at_least}
use Rattle.why.proofs.Meaning.{file_newest, file_live}

-- a header is no data
no_header : (k : Record) → is_header k ≡ true → is_data k ≡ true → ⊥
no_header Other h d = clash (cc)
no_header (Header r) h d = clash (cc)
no_header (Data r) h d = clash (cc)

-- the newest header of a live file cuts at its file size
cut_file : (k : Record) → is_gone k ≡ false → is_file k ≡ true → cut_of true k ≡ Some (file_size k)
unfolding cut_of
cut_file k g f = by_test (is_shrink k) _ (λ t. rw (g, f, t)) (λ t. rw (g, f, t))

module _ (says : ℕ → Record) (o n : ℕ) where
  module _ (P : ℕ) where
    -- later data end within the end of all later data
    end-within : (x p m : ℕ) → p < m → data_of o (says p) ≡ true → x < age_of says p → end_of P (says p) ≤ data_end says P o x m
    end-within x p zero h d a = absurd (not-suc-le-zero h)
    end-within x p (suc m) h d a =
        ⊎_elim
        (λ (i : p ≡ m). rw (end_suc says P o x m, ← i, d, lt-ltb x (age_of says p) a) (le-max_left _ _))
        (λ (i : p < m).
        let r = end-within x p m i d a in
        by_test (data_of o (says m) && ltb x (age_of says m)) _
        (λ t. rw (end_suc says P o x m, t) (le_trans r (le-max_right _ _)))
        (λ t. rw (end_suc says P o x m, t) r))
        (eq-or-lt_of_le (le_of_suc-le-suc h))

    -- page p, data of a live file that no later header cuts at or below the begin of its chunk
    module _
        (p v : ℕ) (h : PageNumber) (live : file_of says o n ≡ file.Header h v) (few : n ≤ 4294967296) (below : p < n) (own : data_of o (says p) ≡ true)
        (some_bytes : 0 < count_of (says p)) (uncut : (r : ℕ) → Hides says o h.0 (age_of says p) n (base_of P (chunk_of (says p))) r → ⊥) where
      abbrev base : ℕ
      base = base_of P (chunk_of (says p))

      -- it begins inside the size
      inside : base < size_of says P o h.0 n
      inside =
          let w = newest_found says (header_of o) n h.0 (file_newest says o n v h live) in
          let larger = size_larger says o n P h.0 in
          by_test (ltb (age_of says h.0) (age_of says p)) _
          (λ t. omega (arith, end-within (age_of says h.0) p n below own (ltb-true _ _ t)))
          (λ t.
          let older : age_of says p < age_of says h.0 =
          ⊎_elim
          (λ (e : age_of says p ≡ age_of says h.0).
          let same : p ≡ h.0 = omega (arith, w.below) in
          absurd (no_header (says p) (rw same (and_right (is_of o (says h.0)) _ w.passes)) (and_right (is_of o (says p)) _ own)))
          (λ l. l)
          (eq-or-lt_of_le (ltb-false _ _ t)) in
          by_test (leb (file_size (says h.0)) base) _
          (λ u.
          let s = file_live says o n v h live in
          let cuts : hides (cut_of (eqb h.0 h.0) (says h.0)) base ≡ true = rw (eq-eqb h.0 h.0 refl, cut_file (says h.0) s.linked s.file) u in
          absurd (uncut h.0 record { below = w.below; header = w.passes; newer = older; cuts = cuts }))
          (λ u. le_trans (leb-false _ _ u) (size_at_least says P o h.0 n)))

      -- so that the lookup of its chunk answers it, if it is the newest copy
      pub record Answered : Type 0 where
        pub valid : ℕ
        pub shown : ℕ
        pub visits : ℕ
        pub looked : looked_of says o n P (chunk_of (says p)) ≡ looked.Copy (record { 0 = p }) valid shown visits

      pub uncut_answered : bad_object o ≡ false → bad_chunk (chunk_of (says p)) ≡ false → newest_copy says o (chunk_of (says p)) n ≡ Some p → Answered
      uncut_answered object number e =
          record { valid = _; shown = _; visits = _; looked = copy_in_sight says o n P (chunk_of (says p)) v h object number live inside p e uncut }

    -- and what a lookup answers is the newest copy of a live file, which no later header hides
    pub record IsFound (c q valid : ℕ) : Type 0 where
      pub header : PageNumber
      pub visits : ℕ
      pub live : file_of says o n ≡ file.Header header visits
      pub copy : newest_copy says o c n ≡ Some q
      pub seen : hides (lowest_cut says o header.0 (age_of says q) n) (base_of P c) ≡ false
      pub counted : valid ≤ count_of (says q)

    pub looked_found : (c : ℕ) (q : PageNumber) (a s v : ℕ) → looked_of says o n P c ≡ looked.Copy q a s v → IsFound c q.0 a
    unfolding looked_of looked_by chunk_by copy_by copy_at
    looked_found c q a s v e =
        pick_cases (bad_object o) _ _ _ _ e
        (λ _ k. clash (cc))
        (λ _ k. pick_cases (bad_chunk c) _ _ _ _ k (λ _ j. clash (cc)) (λ _ j. by_file (file_of says o n) refl j))
      where
        by_copy :
            (h : PageNumber) (w shown : ℕ) → file_of says o n ≡ file.Header h w → (r : Option ℕ) → newest_copy says o c n ≡ r →
            copy_by says o n P c h.0 shown r ≡ looked.Copy q a s v → IsFound c q.0 a
        by_copy h w shown live None i k = clash (cc)
        by_copy h w shown live (Some p) i k =
            pick_cases (hides (lowest_cut says o h.0 (age_of says p) n) (base_of P c)) _ _ _ _ k
            (λ _ j. clash (cc))
            (λ t j.
            let z : p ≡ q.0 = cc in
            let valid : valid_of P c (says p) shown (lowest_cut says o h.0 (age_of says p) n) ≡ a = cc in
            record { header = h; visits = w; live = live; copy = i ∙ ap Some z; seen = rw (← z) t; counted = rw (← z) (omega arith) })

        by_file : (f : File) → file_of says o n ≡ f → looked_by says o n P c f ≡ looked.Copy q a s v → IsFound c q.0 a
        by_file (Err e) live k = clash (cc)
        by_file (Ok x) live k =
            pick_cases (leb (size_of says P o x.answer.0 n) (base_of P c)) _ _ _ _ k
            (λ _ j. clash (cc))
            (λ _ j. by_copy x.answer x.visits (shown_of P c (size_of says P o x.answer.0 n)) live (newest_copy says o c n) refl j)
