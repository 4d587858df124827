-- Between marks nothing changes. The reason or its page changes from one position to the next only where a mark is: where a header cuts, where a copy's
-- bytes end, or where a chunk begins of which it or the one before it has a copy.
use Prim.Native.Nat.{ℕ, ◌+◌, ◌-◌, ◌≤◌, ◌<◌}
use Rattle.std.specs.Prelude.{Option, Some, None}
use mathlib.Core.Bool.{Bool, true, false, ◌&&◌}
use mathlib.Core.Path.{◌≡◌, refl, sym, ap, ◌∙◌}
use native.Mathlib.Omega.{arith}
use lib.Dec.{eqb, ltb, leb}
use borrow.Author.Tests.{eqb-true, eqb-false, eq-eqb, ne_eqb, lt-leb, le-leb, leb-true, leb-false}
use Rattle.page.specs.Choice.{pick}
use Rattle.page.specs.Numbers.{most_chunk, page_values}
use Rattle.page.specs.declared.record.Record.{Record}
use Rattle.page.proofs.Searching.{by_test}
use Rattle.page.proofs.Within.{chunk_good, chunk_within}
use Rattle.sort.specs.Ascending.{In}
use Rattle.chunk.specs.Records.{age_of, header_of, count_of, base_of}
use Rattle.chunk.specs.Newest.{newest_copy}
use Rattle.chunk.specs.Cuts.{cut_of, hides}
use Rattle.chunk.specs.Sizes.{size_of}
use Rattle.chunk.proofs.Meaning.{where_same}
use Rattle.why.specs.Codes.{code_of}
use Rattle.why.specs.Marks.{most_data, places, no_page, mark_of, place_of, marks_to}
use Rattle.why.specs.Reasons.{chunk_at, byte_at, held_by, copy_for, cuts_at, cutter, reason_behind, reason_by, reason_at, code_at, changes_at}
use Rattle.why.proofs.Meaning.{copy_found}
use Rattle.why.proofs.Marking.{IsCut, IsCopy, cut_marked, copy_marked, count_marked, end_marked, mark_place}
use Rattle.why.proofs.Places.{position, byte_below, same_chunk, next_chunk, inside_places}

module _ (says : ℕ → Record) (P o n h : ℕ) (some-data : 0 < P) (most-data : P ≤ most_data) (few : n < page_values) where
  -- inside the size the copy decides
  pub inside_reason : (x : ℕ) → x < size_of says P o h n → reason_at says P o n h x ≡ reason_by says P o n h x (copy_for says P o n h x)
  unfolding reason_at
  inside_reason x l = rw (lt-leb (size_of says P o h n) x l)

  -- what the copy of a position is
  copy_is : (x q : ℕ) → copy_for says P o n h x ≡ Some q → IsCopy says P o h n q (chunk_at P x)
  copy_is x q e =
      let f = copy_found says P o n h x q e in
      record { below = f.newest.below; copy = f.newest.passes; good = chunk_good (chunk_at P x) (record { least = omega arith; most = f.number }) }

  -- positions of one chunk have one copy
  same_copy : (x y : ℕ) → chunk_at P x ≡ chunk_at P y → copy_for says P o n h x ≡ copy_for says P o n h y
  unfolding copy_for
  same_copy x y e = ap (λ (c : ℕ). pick (ltb most_chunk c) None (newest_copy says o c n)) e

  -- a position and the next, at which there is no mark
  module _ (x : ℕ) (bare : (k : ℕ) → In k (marks_to says P o h n) → place_of k ≡ x + 1 → ⊥) where
    -- a header cuts both or none
    same-cut : (p : ℕ) → p < n → x + 1 < places → cuts_at says P o n h x p ≡ cuts_at says P o n h (x + 1) p
    same-cut p b l = by_test (header_of o (says p)) _ (λ t. rw t (go t (cut_of (eqb p h) (says p)) refl)) (λ t. rw t)
      where
        go : header_of o (says p) ≡ true → (r : (Option ℕ)) → cut_of (eqb p h) (says p) ≡ r → hides r x ≡ hides r (x + 1)
        go t None e = refl
        go t (Some a) e =
            by_test (leb a x) _
            (λ u. rw (u, le-leb a (x + 1) (omega (arith, leb-true a x u))))
            (λ u.
            let i : x < a = leb-false a x u in
            by_test (leb a (x + 1)) _
            (λ v.
            let z : a ≡ x + 1 = omega (arith, i, leb-true a (x + 1) v) in
            let c : IsCut says P o h n p a = record { below = b; header = t; cuts = e; inside = omega (arith, z, l) } in
            absurd (bare (mark_of a p) (cut_marked says P o h n p a c) (mark_place a p (omega (arith, few, b)) ∙ z)))
            (λ v. rw (u, v)))

    -- so the newest that cuts is the same
    same-cutter : (q : ℕ) → x + 1 < places → cutter says P o n h q x ≡ cutter says P o n h q (x + 1)
    unfolding cutter
    same-cutter q l =
        where_same says (λ p. cuts_at says P o n h x p && ltb (age_of says q) (age_of says p)) (λ p. cuts_at says P o n h (x + 1) p && ltb (age_of says q) (age_of says p)) n
        (λ p b. ap (λ (t : Bool). t && ltb (age_of says q) (age_of says p)) (same-cut p b l))

    module _ (same : chunk_at P x ≡ chunk_at P (x + 1)) where
      -- the byte count of the copy ends before both or none
      same-held : (q : ℕ) → IsCopy says P o h n q (chunk_at P (x + 1)) → code_of (held_by says P q x) ≡ code_of (held_by says P q (x + 1))
      same-held q w =
          let s : byte_at P (x + 1) ≡ byte_at P x + 1 = same_chunk P some-data x same in
          by_test (leb (count_of (says q)) (byte_at P x)) _
          (λ t. rw (t, le-leb (count_of (says q)) (byte_at P (x + 1)) (omega (arith, s, leb-true (count_of (says q)) (byte_at P x) t))))
          (λ t.
          let i : byte_at P x < count_of (says q) = leb-false (count_of (says q)) (byte_at P x) t in
          by_test (leb (count_of (says q)) (byte_at P (x + 1))) _
          (λ u.
          let z : count_of (says q) ≡ byte_at P (x + 1) = omega (arith, i, s, leb-true (count_of (says q)) (byte_at P (x + 1)) u) in
          let m : count_of (says q) < P = omega (arith, z, byte_below P some-data (x + 1)) in
          absurd (bare (mark_of (base_of P (chunk_at P (x + 1)) + count_of (says q)) no_page) (count_marked says P o h n q (chunk_at P (x + 1)) w m)
          (mark_place _ no_page (omega arith) ∙ ap (λ (v : ℕ). base_of P (chunk_at P (x + 1)) + v) z ∙ position P some-data (x + 1))))
          (λ u. rw (t, u)))

      -- and so is the reason, cut or not
      same-behind : (q : ℕ) → IsCopy says P o h n q (chunk_at P (x + 1)) → (r : Option ℕ) → code_of (reason_behind says P o n h q x r) ≡ code_of (reason_behind says P o n h q (x + 1) r)
      same-behind q w None = same-held q w
      same-behind q w (Some p) = refl

      -- and that of the chunk's copy
      by_same : (r : Option ℕ) → copy_for says P o n h (x + 1) ≡ r → code_of (reason_by says P o n h x r) ≡ code_of (reason_by says P o n h (x + 1) r)
      by_same None e = refl
      by_same (Some q) e =
          let w = copy_is (x + 1) q e in
          let l : x + 1 < places = inside_places P some-data (x + 1) most-data (chunk-most w) in
          ap (λ (r : Option ℕ). code_of (reason_behind says P o n h q x r)) (same-cutter q l) ∙ same-behind q w (cutter says P o n h q (x + 1))
        where
          chunk-most : IsCopy says P o h n q (chunk_at P (x + 1)) → chunk_at P (x + 1) ≤ most_chunk
          chunk-most w = omega (arith, chunk_within (chunk_at P (x + 1)) w.good)

    -- at the begin of a chunk neither it nor the one before has a copy
    module _ (next : chunk_at P x ≡ chunk_at P (x + 1) → ⊥) where
      none_here : copy_for says P o n h (x + 1) ≡ None
      none_here = go (copy_for says P o n h (x + 1)) refl
        where
          go : (r : Option ℕ) → copy_for says P o n h (x + 1) ≡ r → r ≡ None
          go None e = refl
          go (Some q) e =
              let w = copy_is (x + 1) q e in
              absurd (bare (mark_of (base_of P (chunk_at P (x + 1))) q) (copy_marked says P o h n q (chunk_at P (x + 1)) w)
              (mark_place _ q (omega (arith, few, w.below)) ∙ sym (next_chunk P some-data x next).1))

      none_before : copy_for says P o n h x ≡ None
      none_before = go (copy_for says P o n h x) refl
        where
          go : (r : Option ℕ) → copy_for says P o n h x ≡ r → r ≡ None
          go None e = refl
          go (Some q) e =
              let w = copy_is x q e in
              absurd (bare (mark_of (base_of P (chunk_at P x) + P) no_page) (end_marked says P o h n q (chunk_at P x) w)
              (mark_place _ no_page (omega arith) ∙ sym (next_chunk P some-data x next).0))

    -- so the reason and its page are the same
    still-by : code_of (reason_by says P o n h x (copy_for says P o n h x)) ≡ code_of (reason_by says P o n h (x + 1) (copy_for says P o n h (x + 1)))
    still-by =
        by_test (eqb (chunk_at P x) (chunk_at P (x + 1))) _
        (λ t.
        let e : chunk_at P x ≡ chunk_at P (x + 1) = eqb-true _ _ t in
        rw (same_copy x (x + 1) e) (by_same e (copy_for says P o n h (x + 1)) refl))
        (λ t.
        let e : chunk_at P x ≡ chunk_at P (x + 1) → ⊥ = eqb-false _ _ t in
        rw (none_before e, none_here e))

    -- inside the file
    pub still : x + 1 < size_of says P o h n → code_at says P o n h x ≡ code_at says P o n h (x + 1)
    still l = rw (inside_reason x (omega (arith, l)), inside_reason (x + 1) l) still-by

    -- and nothing changes there
    pub quiet_at : x + 1 < size_of says P o h n → changes_at says P o n h (x + 1) ≡ false
    unfolding changes_at
    quiet_at l =
        let e : x + 1 - 1 ≡ x = omega arith in
        rw (ne_eqb (x + 1) 0 (λ z. absurd (omega (arith, z))), e, still l, eq-eqb (code_at says P o n h (x + 1)) (code_at says P o n h (x + 1)) refl)
