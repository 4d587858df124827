-- The marks of a file: each is of a header that cuts, of the begin of a copy, or of a place at which no page begins to matter; and whatever cuts, begins
-- or ends has its mark. The marks of all pages are those of each, one behind the other, so that both go page by page.
use Prim.Native.Nat.{ℕ, zero, suc, ◌+◌, ◌≤◌, ◌<◌}
use Rattle.std.specs.Prelude.{Option, Some, None}
use mathlib.Core.Bool.{true, false}
use mathlib.Core.List.{[], ◌∷◌, ◌++◌}
use mathlib.Core.Logic.{inl, inr, ⊎_elim}
use mathlib.Core.Path.{◌≡◌, refl, ap}
use native.Mathlib.Nat.{not-suc-le-zero, le_of_suc-le-suc, eq-or-lt_of_le, le_refl}
use native.Mathlib.Omega.{arith}
use lib.Dec.{eqb, ltb, leb}
use borrow.Author.Tests.{eqb-true, eq-eqb, ltb-true, lt-ltb, leb-false, lt-leb}
use Rattle.page.specs.Numbers.{bad_chunk, page_values}
use Rattle.page.specs.declared.record.Record.{Record}
use Rattle.page.specs.declared.record.Record.TheVariants.{Other, Header, Data}
use Rattle.page.proofs.Layouts.{and_right}
use Rattle.page.proofs.Searching.{clash, by_test}
use Rattle.page.proofs.Within.{chunk_good}
use Rattle.sort.specs.Ascending.{In}
use Rattle.sort.proofs.Times.{joined_in, in_joined}
use Rattle.chunk.specs.Gather.{gather}
use Rattle.chunk.specs.Records.{header_of, count_of, base_of}
use Rattle.chunk.specs.Newest.{copy_of}
use Rattle.chunk.specs.Cuts.{cut_of}
use Rattle.why.specs.Marks.{places, no_page, mark_of, place_of, page_on, cut_marks, copy_marks, marks_of, marks_to}

-- object o of a dump of n pages, whose newest header is h
module _ (says : ℕ → Record) (P o h : ℕ) where
  -- page p is a header that cuts at a
  pub record IsCut (n p a : ℕ) : Type 0 where
    pub below : p < n
    pub header : header_of o (says p) ≡ true
    pub cuts : cut_of (eqb p h) (says p) ≡ Some a
    pub inside : a < places

  -- page p is data of chunk c
  pub record IsCopy (n p c : ℕ) : Type 0 where
    pub below : p < n
    pub copy : copy_of o c (says p) ≡ true
    pub good : bad_chunk c ≡ false

  -- what a mark is: that of a header, that of a copy's begin, or one without a page
  pub data Mark (n k : ℕ) : Type 0 where
    cut : (p a : ℕ) → IsCut n p a → k ≡ mark_of a p → Mark n k
    copy : (p c : ℕ) → IsCopy n p c → k ≡ mark_of (base_of P c) p → Mark n k
    bare : (place c : ℕ) → bad_chunk c ≡ false → place ≤ base_of P c + P → k ≡ mark_of place no_page → Mark n k

  -- with one page more it is one still
  more_mark : (n k : ℕ) → Mark n k → Mark (suc n) k
  more_mark n k (cut p a i e) = cut p a record { below = omega (arith, i.below); header = i.header; cuts = i.cuts; inside = i.inside } e
  more_mark n k (copy p c i e) = copy p c record { below = omega (arith, i.below); copy = i.copy; good = i.good } e
  more_mark n k (bare x c g l e) = bare x c g l e

  -- those of no page, and of one page more
  pub marks_none : marks_to says P o h 0 ≡ mark_of 0 no_page ∷ []
  unfolding marks_to gather
  marks_none = refl

  pub marks_suc : (n : ℕ) → marks_to says P o h (suc n) ≡ marks_to says P o h n ++ marks_of P o h n (says n)
  unfolding marks_to gather
  marks_suc n = refl

  -- the marks of one page
  of_cut : (n k : ℕ) (r : (Option ℕ)) → header_of o (says n) ≡ true → cut_of (eqb n h) (says n) ≡ r → In k (cut_marks n r) → Mark (suc n) k
  of_cut n k None t e i = absurd i
  of_cut n k (Some a) t e i =
      by_test (ltb a places) _
      (λ u. ⊎_elim (λ j. cut n a record { below = le_refl _; header = t; cuts = e; inside = ltb-true _ _ u } j) (λ j. absurd j) (rw u at i))
      (λ u. absurd (rw u at i))

  -- by what the page says
  of_page : (n k : ℕ) (r : Record) → says n ≡ r → In k (marks_of P o h n r) → Mark (suc n) k
  of_page n k Other e i = absurd i
  of_page n k (Header f) e i =
      by_test (eqb f.object.0 o) _
      (λ t. of_cut n k (cut_of (eqb n h) (Header f)) (rw (e, t)) (ap (cut_of (eqb n h)) e) (rw t at i))
      (λ t. absurd (rw t at i))
  of_page n k (Data d) e i =
      by_test (eqb d.object.0 o) _
      (λ t.
      by_test (bad_chunk d.chunk.0) _
      (λ u. absurd (rw (t, u) at i))
      (λ u.
      by_test (leb P d.count) _
      (λ v. of-full t u (rw (t, u, v) at i))
      (λ v. of_data t u (leb-false P d.count v) (rw (t, u, v) at i))))
      (λ t. absurd (rw t at i))
    where
      is-copy : eqb d.object.0 o ≡ true → bad_chunk d.chunk.0 ≡ false → IsCopy (suc n) n d.chunk.0
      is-copy t u = record { below = le_refl _; copy = rw (e, t) (eq-eqb d.chunk.0 d.chunk.0 refl); good = u }

      of-full :
          eqb d.object.0 o ≡ true → bad_chunk d.chunk.0 ≡ false →
          In k (mark_of (base_of P d.chunk.0) n ∷ mark_of (base_of P d.chunk.0 + P) no_page ∷ []) →
          Mark (suc n) k
      of-full t u (inl j) = copy n d.chunk.0 (is-copy t u) j
      of-full t u (inr (inl j)) = bare (base_of P d.chunk.0 + P) d.chunk.0 u (omega arith) j
      of-full t u (inr (inr j)) = absurd j

      of_data :
          eqb d.object.0 o ≡ true → bad_chunk d.chunk.0 ≡ false → d.count < P →
          In k (mark_of (base_of P d.chunk.0) n ∷ mark_of (base_of P d.chunk.0 + d.count) no_page ∷ mark_of (base_of P d.chunk.0 + P) no_page ∷ []) →
          Mark (suc n) k
      of_data t u v (inl j) = copy n d.chunk.0 (is-copy t u) j
      of_data t u v (inr (inl j)) = bare (base_of P d.chunk.0 + d.count) d.chunk.0 u (omega (arith, v)) j
      of_data t u v (inr (inr (inl j))) = bare (base_of P d.chunk.0 + P) d.chunk.0 u (omega arith) j
      of_data t u v (inr (inr (inr j))) = absurd j

  -- every mark is one of these
  pub mark_of_lem : (n k : ℕ) → In k (marks_to says P o h n) → Mark n k
  mark_of_lem zero k i = ⊎_elim (λ e. bare 0 1 (chunk_good 1 (record { least = omega arith; most = omega arith })) (omega arith) e) (λ j. absurd j) (rw marks_none at i)
  mark_of_lem (suc n) k i =
      ⊎_elim (λ j. more_mark n k (mark_of_lem n k j)) (λ j. of_page n k (says n) refl j) (in_joined k (marks_to says P o h n) (marks_of P o h n (says n)) (rw (marks_suc n) at i))

  -- the begin is marked
  pub begin_marked : (n : ℕ) → In (mark_of 0 no_page) (marks_to says P o h n)
  begin_marked zero = rw marks_none (inl refl)
  begin_marked (suc n) = rw (marks_suc n) (joined_in (mark_of 0 no_page) (marks_to says P o h n) (marks_of P o h n (says n)) (inl (begin_marked n)))

  -- what a page marks, all marks have
  page_marked : (n p k : ℕ) → p < n → In k (marks_of P o h p (says p)) → In k (marks_to says P o h n)
  page_marked zero p k b i = absurd (not-suc-le-zero b)
  page_marked (suc n) p k b i =
      rw (marks_suc n)
      (⊎_elim
      (λ (e : p ≡ n). joined_in k (marks_to says P o h n) (marks_of P o h n (says n)) (inr (rw e at i)))
      (λ (j : p < n). joined_in k (marks_to says P o h n) (marks_of P o h n (says n)) (inl (page_marked n p k j i)))
      (eq-or-lt_of_le (le_of_suc-le-suc b)))

  -- a header is marked where it cuts
  pub cut_marked : (n p a : ℕ) → IsCut n p a → In (mark_of a p) (marks_to says P o h n)
  cut_marked n p a c = page_marked n p _ c.below (go (says p) c.header c.cuts)
    where
      go : (r : Record) → header_of o r ≡ true → cut_of (eqb p h) r ≡ Some a → In (mark_of a p) (marks_of P o h p r)
      go Other t e = clash (cc)
      go (Data d) t e = let z : false ≡ true = and_right (eqb d.object.0 o) false t in clash (cc)
      go (Header f) t e = by_test (eqb f.object.0 o) _ (λ u. rw (u, e, lt-ltb _ _ c.inside) (inl refl)) (λ u. let z : false ≡ true = rw u at t in clash (cc))

  -- data is marked where it begins, where its bytes end before its page does, and where that does
  copy_marks_lem : (n p c : ℕ) → IsCopy n p c → (k : ℕ) → In k (copy_marks P p c (count_of (says p))) → In k (marks_to says P o h n)
  copy_marks_lem n p c w k i = page_marked n p k w.below (go (says p) w.copy i)
    where
      go : (r : Record) → copy_of o c r ≡ true → In k (copy_marks P p c (count_of r)) → In k (marks_of P o h p r)
      go Other t j = clash (cc)
      go (Header f) t j = let z : false ≡ true = and_right (eqb f.object.0 o) false t in clash (cc)
      go (Data d) t j =
          by_test (eqb d.object.0 o) _
          (λ u.
          let e : d.chunk.0 ≡ c = eqb-true _ _ (rw u at t) in
          rw (u, e, w.good) j)
          (λ u. let z : false ≡ true = rw u at t in clash (cc))

  -- at its begin
  pub copy_marked : (n p c : ℕ) → IsCopy n p c → In (mark_of (base_of P c) p) (marks_to says P o h n)
  copy_marked n p c w = copy_marks_lem n p c w (mark_of (base_of P c) p) (by_test (leb P (count_of (says p))) _ (λ u. rw u (inl refl)) (λ u. rw u (inl refl)))

  -- at the end of its bytes
  pub count_marked : (n p c : ℕ) → IsCopy n p c → count_of (says p) < P → In (mark_of (base_of P c + count_of (says p)) no_page) (marks_to says P o h n)
  count_marked n p c w l = copy_marks_lem n p c w (mark_of (base_of P c + count_of (says p)) no_page) (rw (lt-leb P (count_of (says p)) l) (inr (inl refl)))

  -- and at the end of its page
  pub end_marked : (n p c : ℕ) → IsCopy n p c → In (mark_of (base_of P c + P) no_page) (marks_to says P o h n)
  end_marked n p c w =
      copy_marks_lem n p c w (mark_of (base_of P c + P) no_page)
      (by_test (leb P (count_of (says p))) _ (λ u. rw u (inr (inl refl))) (λ u. rw u (inr (inr (inl refl)))))

-- the place and the page of a mark
pub mark_place : (a p : ℕ) → p < page_values → place_of (mark_of a p) ≡ a
mark_place a p h = omega arith

pub mark_page : (a p : ℕ) → p < page_values → page_on (mark_of a p) ≡ p
mark_page a p h = omega arith

-- marks in order have their places in order
pub place_le : (k m : ℕ) → k ≤ m → place_of k ≤ place_of m
place_le k m h = omega arith
