-- What a sweep has taken in, by the marks that it has passed: the newest header that cuts, and the newest copy of the highest chunk, among those whose
-- marks were passed. A mark more takes in its page. And where all marks up to a place were passed, what was taken in gives the reason there: a header
-- newer than the copy cuts it exactly if the newest header passed is newer, since whatever cuts at or below the place was passed.
use Prim.Native.Nat.{ℕ, ◌≤◌, ◌<◌}
use Rattle.std.specs.Prelude.{Option, Some, None}
use mathlib.Core.Bool.{true, false, ◌&&◌}
use mathlib.Core.List.{List, [], ◌∷◌, ◌++◌}
use mathlib.Core.Logic.{◌⊎◌, inl, inr, ⊎_elim}
use mathlib.Core.Path.{◌≡◌, refl, sym, ap, ◌∙◌}
use native.Mathlib.Nat.{le_refl, le_trans}
use native.Mathlib.Omega.{arith}
use lib.Dec.{eqb, ltb}
use borrow.Author.Tests.{eqb-true, eqb-false, eq-eqb, ne_eqb, ltb-true, ltb-false, lt-ltb, le-ltb, le-leb, leb-true}
use Rattle.page.specs.Choice.{pick}
use Rattle.page.specs.Numbers.{most_chunk, page_values}
use Rattle.page.specs.declared.number.PageNumber.{PageNumber}
use Rattle.page.specs.declared.record.Record.{Record}
use Rattle.page.specs.declared.record.Record.TheVariants.{Other, Header, Data}
use Rattle.page.proofs.Layouts.{and_left, and_right}
use Rattle.page.proofs.Searching.{clash, by_test}
use Rattle.page.proofs.Within.{chunk_good, chunk_within}
use Rattle.sort.specs.Arranged.{Every}
use Rattle.sort.specs.Ascending.{In}
use Rattle.sort.proofs.Places.{every_in}
use Rattle.sort.proofs.Times.{joined_in, in_joined}
use Rattle.chunk.specs.Records.{order_of, sequence_of, age_of, header_of, base_of}
use Rattle.chunk.specs.Newest.{copy_of}
use Rattle.chunk.specs.Cuts.{cut_of, hides}
use Rattle.chunk.specs.Scans.{later_in}
use Rattle.chunk.specs.Aged.{Newest}
use Rattle.chunk.specs.Aged.{At, Nothing}
use Rattle.chunk.proofs.Meaning.{where_is, where_none_is}
use Rattle.why.specs.Marks.{places, no_page, mark_of, place_of, page_on, marks_to}
use Rattle.why.specs.Reasons.{chunk_at, copy_for, cuts_at, cutter, reason_behind, reason_by}
use Rattle.why.specs.Sweeps.{nothing_seen, seen_with, taken, behind_seen, copy_seen, reason_seen}
use Rattle.why.specs.declared.sweep.Seen.{Seen}
use Rattle.why.proofs.Latest.{Latest, latest_more, latest_same}
use Rattle.why.proofs.Marking as marking
use Rattle.why.proofs.Marking.{IsCut, IsCopy, Mark, cut_marked, copy_marked, mark_place, mark_page}
use Rattle.why.proofs.Places.{begins_below, own_begins, base_order}

-- one member more
pub snoc_in : (x k : ℕ) (A : List ℕ) → In x (A ++ (k ∷ [])) → (x ≡ k) ⊎ In x A
snoc_in x k A i = ⊎_elim (λ j. inr j) (λ j. ⊎_elim (λ e. inl e) (λ z. absurd z) j) (in_joined x A (k ∷ []) i)

-- marks of one number have one page and one place
same_page : (a b p q : ℕ) → p < page_values → q < page_values → mark_of a p ≡ mark_of b q → p ≡ q
same_page a b p q h k e = omega arith

same_place : (a b p q : ℕ) → p < page_values → q < page_values → mark_of a p ≡ mark_of b q → a ≡ b
same_place a b p q h k e = omega arith

-- and marks in order have their places in order
mark_order : (a b p q : ℕ) → p < page_values → q < page_values → mark_of a p ≤ mark_of b q → a ≤ b
mark_order a b p q h k e = omega arith

-- a header taken in, and data taken in
seen_header :
    (s : Seen) (o p : ℕ) (r : Record) → header_of o r ≡ true →
    seen_with s p r ≡ record { cut = later_in s.cut p (order_of (sequence_of r) p); chunk = s.chunk; copy = s.copy }
seen_header s o p Other t = clash (cc)
seen_header s o p (Header f) t = refl
seen_header s o p (Data d) t = let z : false ≡ true = and_right (eqb d.object.0 o) false t in clash (cc)

seen_data :
    (s : Seen) (o c p : ℕ) (r : Record) → copy_of o c r ≡ true →
    seen_with s p r
    ≡ record { cut = s.cut; chunk = record { 0 = c }; copy = later_in (pick (eqb c s.chunk.0) s.copy Nothing) p (order_of (sequence_of r) p) }
seen_data s o c p Other t = clash (cc)
seen_data s o c p (Header f) t = let z : false ≡ true = and_right (eqb f.object.0 o) false t in clash (cc)
seen_data s o c p (Data d) t = let e : d.chunk.0 ≡ c = eqb-true _ _ (and_right (eqb d.object.0 o) (eqb d.chunk.0 c) t) in rw (← e)

-- no page is both, and data has one chunk number
not_both : (o c : ℕ) (r : Record) → header_of o r ≡ true → copy_of o c r ≡ true → ⊥
not_both o c Other t u = clash (cc)
not_both o c (Header f) t u = let z : false ≡ true = and_right (eqb f.object.0 o) false u in clash (cc)
not_both o c (Data d) t u = let z : false ≡ true = and_right (eqb d.object.0 o) false t in clash (cc)

one_chunk : (o c d : ℕ) (r : Record) → copy_of o c r ≡ true → copy_of o d r ≡ true → d ≡ c
one_chunk o c d Other t u = clash (cc)
one_chunk o c d (Header f) t u = let z : false ≡ true = and_right (eqb f.object.0 o) false u in clash (cc)
one_chunk o c d (Data x) t u =
    sym (eqb-true _ _ (and_right (eqb x.object.0 o) (eqb x.chunk.0 d) u)) ∙ eqb-true _ _ (and_right (eqb x.object.0 o) (eqb x.chunk.0 c) t)

module _ (says : ℕ → Record) (P o h n : ℕ) (few : n < page_values) (some-data : 0 < P) where
  -- page p is a header that cuts, and its mark was passed
  pub record CutIn (A : List ℕ) (p : ℕ) : Type 0 where
    pub place : ℕ
    pub is : IsCut says P o h n p place
    pub there : In (mark_of place p) A

  -- page p is data of chunk c, and its mark was passed
  pub record CopyIn (A : List ℕ) (c p : ℕ) : Type 0 where
    pub is : IsCopy says P o h n p c
    pub there : In (mark_of (base_of P c) p) A

  -- there is data of chunk c whose mark was passed
  pub record Copied (A : List ℕ) (c : ℕ) : Type 0 where
    pub page : ℕ
    pub copy : CopyIn A c page

  -- what was taken in by the marks passed: the newest header that cuts, and of the highest chunk the newest copy, if there is one
  pub record Sighted (A : List ℕ) (s : Seen) : Type 0 where
    pub newest_cut : Latest says (CutIn A) s.cut
    pub newest_copy_lem : Latest says (CopyIn A s.chunk.0) s.copy
    pub highest : (p c : ℕ) → CopyIn A c p → c ≤ s.chunk.0
    pub one : (s.chunk.0 ≡ 0) ⊎ Copied A s.chunk.0

  -- nothing passed, nothing taken in
  pub nothing_sighted : Sighted [] nothing_seen
  nothing_sighted = record {
    newest_cut = λ p i. i.there;
    newest_copy_lem = λ p i. i.there;
    highest = λ p c i. absurd i.there;
    one = inl refl;
  }

  module _ (A : List ℕ) (k : ℕ) where
    abbrev more : List ℕ
    more = A ++ (k ∷ [])

    -- what was passed stays so
    cut-kept : (p : ℕ) → CutIn A p → CutIn more p
    cut-kept p i = record { place = i.place; is = i.is; there = joined_in _ A (k ∷ []) (inl i.there) }

    copy-kept : (c p : ℕ) → CopyIn A c p → CopyIn more c p
    copy-kept c p i = record { is = i.is; there = joined_in _ A (k ∷ []) (inl i.there) }

    -- and what is passed now was passed before, or is the mark's own
    cut_parts : (R : Type 0) (p : ℕ) → CutIn more p → ((a : ℕ) → IsCut says P o h n p a → mark_of a p ≡ k → R) → (CutIn A p → R) → R
    cut_parts R p i f g = ⊎_elim (λ e. f i.place i.is e) (λ j. g record { place = i.place; is = i.is; there = j }) (snoc_in _ k A i.there)

    copy_parts : (R : Type 0) (c p : ℕ) → CopyIn more c p → (IsCopy says P o h n p c → mark_of (base_of P c) p ≡ k → R) → (CopyIn A c p → R) → R
    copy_parts R c p i f g = ⊎_elim (λ e. f i.is e) (λ j. g record { is = i.is; there = j }) (snoc_in _ k A i.there)

    copied-kept : (c : ℕ) → (c ≡ 0) ⊎ Copied A c → (c ≡ 0) ⊎ Copied more c
    copied-kept c (inl e) = inl e
    copied-kept c (inr i) = inr record { page = i.page; copy = copy-kept c i.page i.copy }

    -- that mark is the last one passed
    last : In k more
    last = joined_in k A (k ∷ []) (inr (inl refl))

    module _ (s : Seen) (before : Sighted A s) where
      -- a mark without a page takes nothing in
      take_bare : (x : ℕ) → k ≡ mark_of x no_page → Sighted more s
      take_bare x e = record {
        newest_cut =
            latest_same says (CutIn A) (CutIn more) s.cut before.newest_cut cut-kept
            (λ q i. cut_parts (CutIn A q) q i (λ a w f. absurd (None q a w.below (f ∙ e))) (λ j. j));
        newest_copy_lem =
            latest_same says (CopyIn A s.chunk.0) (CopyIn more s.chunk.0) s.copy before.newest_copy_lem (copy-kept s.chunk.0)
            (λ q i. copy_parts (CopyIn A s.chunk.0 q) s.chunk.0 q i (λ w f. absurd (None q _ w.below (f ∙ e))) (λ j. j));
        highest = λ q c i. copy_parts (c ≤ s.chunk.0) c q i (λ w f. absurd (None q _ w.below (f ∙ e))) (λ j. before.highest q c j);
        one = copied-kept s.chunk.0 before.one;
      }
        where
          None : (q a : ℕ) → q < n → mark_of a q ≡ mark_of x no_page → ⊥
          None q a b f = let z = same_page a x q no_page (omega (arith, few, b)) (omega arith) f in omega (arith, few, b, z)

      -- a header that cuts
      take-cut :
          (p a : ℕ) → IsCut says P o h n p a → k ≡ mark_of a p →
          Sighted more (record { cut = later_in s.cut p (age_of says p); chunk = s.chunk; copy = s.copy })
      take-cut p a w e = record {
        newest_cut =
            latest_more says (CutIn A) (CutIn more) s.cut p before.newest_cut record { place = a; is = w; there = rw (← e) last } cut-kept
            (λ q i. cut_parts ((q ≡ p) ⊎ CutIn A q) q i (λ b v f. inl (same q b v.below (f ∙ e))) (λ j. inr j));
        newest_copy_lem =
            latest_same says (CopyIn A s.chunk.0) (CopyIn more s.chunk.0) s.copy before.newest_copy_lem (copy-kept s.chunk.0)
            (λ q i. copy_parts (CopyIn A s.chunk.0 q) s.chunk.0 q i (λ v f. absurd (other q s.chunk.0 v (f ∙ e))) (λ j. j));
        highest = λ q c i. copy_parts (c ≤ s.chunk.0) c q i (λ v f. absurd (other q c v (f ∙ e))) (λ j. before.highest q c j);
        one = copied-kept s.chunk.0 before.one;
      }
        where
          same : (q b : ℕ) → q < n → mark_of b q ≡ mark_of a p → q ≡ p
          same q b l f = same_page b a q p (omega (arith, few, l)) (omega (arith, few, w.below)) f

          other : (q c : ℕ) → IsCopy says P o h n q c → mark_of (base_of P c) q ≡ mark_of a p → ⊥
          other q c v f = not_both o c (says p) w.header (rw (← same q (base_of P c) v.below f) v.copy)

      -- data
      module _ (p c : ℕ) (w : IsCopy says P o h n p c) (e : k ≡ mark_of (base_of P c) p) where
        -- its mark is of its page alone, which is no header, and data of no other chunk
        same : (q b : ℕ) → q < n → mark_of b q ≡ mark_of (base_of P c) p → q ≡ p
        same q b l f = same_page b (base_of P c) q p (omega (arith, few, l)) (omega (arith, few, w.below)) f

        header : (q a : ℕ) → IsCut says P o h n q a → mark_of a q ≡ mark_of (base_of P c) p → ⊥
        header q a v f = not_both o c (says p) (rw (← same q a v.below f) v.header) w.copy

        chunk : (q d : ℕ) → IsCopy says P o h n q d → mark_of (base_of P d) q ≡ mark_of (base_of P c) p → d ≡ c
        chunk q d v f = one_chunk o c d (says p) w.copy (rw (← same q (base_of P d) v.below f) v.copy)

        -- so the newest header passed stays
        cuts : Latest says (CutIn more) s.cut
        cuts =
            latest_same says (CutIn A) (CutIn more) s.cut before.newest_cut cut-kept
            (λ q i. cut_parts (CutIn A q) q i (λ a v f. absurd (header q a v (f ∙ e))) (λ j. j))

        -- the data itself is passed now
        new : CopyIn more c p
        new = record { is = w; there = rw (← e) last }

        -- of the chunk that was the highest
        take_same : c ≡ s.chunk.0 → Sighted more (record { cut = s.cut; chunk = s.chunk; copy = later_in s.copy p (age_of says p) })
        take_same z = record {
          newest_cut = cuts;
          newest_copy_lem =
              latest_more says (CopyIn A s.chunk.0) (CopyIn more s.chunk.0) s.copy p before.newest_copy_lem (rw (← z) new) (copy-kept s.chunk.0)
              (λ q i. copy_parts ((q ≡ p) ⊎ CopyIn A s.chunk.0 q) s.chunk.0 q i (λ v f. inl (same q _ v.below (f ∙ e))) (λ j. inr j));
          highest = λ q d i. copy_parts (d ≤ s.chunk.0) d q i (λ v f. omega (arith, chunk q d v (f ∙ e), z)) (λ j. before.highest q d j);
          one = inr record { page = p; copy = rw (← z) new };
        }

        -- the highest so far is not above
        not-above : Every (λ m. m ≤ k) A → s.chunk.0 ≤ c
        not-above up = ⊎_elim (λ (z : s.chunk.0 ≡ 0). omega (arith, z)) (λ i. below i.page i.copy) before.one
          where
            below : (q : ℕ) → CopyIn A s.chunk.0 q → s.chunk.0 ≤ c
            below q i =
                let m : mark_of (base_of P s.chunk.0) q ≤ k = every_in (λ m. m ≤ k) (mark_of (base_of P s.chunk.0) q) A up i.there in
                base_order P some-data s.chunk.0 c (omega (arith, chunk_within c w.good))
                (mark_order (base_of P s.chunk.0) (base_of P c) q p (omega (arith, few, i.is.below)) (omega (arith, few, w.below)) (rw e at m))

        -- of a higher chunk
        take_next : (c ≡ s.chunk.0 → ⊥) → Every (λ m. m ≤ k) A → Sighted more (record { cut = s.cut; chunk = record { 0 = c }; copy = At (record { 0 = p }) (age_of says p) })
        take_next z up =
            let above : s.chunk.0 < c = omega (arith, not-above up, z) in
            record {
              newest_cut = cuts;
              newest_copy_lem = (
                new,
                refl,
                λ q i.
                    copy_parts (age_of says q ≤ age_of says p) c q i
                    (λ v f. rw (same q (base_of P c) v.below (f ∙ e)) (le_refl _))
                    (λ j. absurd (omega (arith, above, before.highest q c j))),
              );
              highest = λ q d i. copy_parts (d ≤ c) d q i (λ v f. omega (arith, chunk q d v (f ∙ e))) (λ j. omega (arith, above, before.highest q d j));
              one = inr record { page = p; copy = new };
            }

      -- a mark more
      taken-bare : page_on k ≡ no_page → taken says s k ≡ s
      taken-bare e = rw (eq-eqb _ _ e)

      -- or of the page that it has
      taken-page : (p : ℕ) → p < n → page_on k ≡ p → taken says s k ≡ seen_with s p (says p)
      taken-page p b e = rw (e, ne_eqb p no_page (λ z. omega (arith, few, b, z)))

      pub take_in : Mark says P o h n k → Every (λ m. m ≤ k) A → Sighted more (taken says s k)
      take_in (marking.bare x c g l e) up = rw (taken-bare (ap page_on e ∙ mark_page x no_page (omega arith))) (take_bare x e)
      take_in (marking.cut p a w e) up =
          rw (taken-page p w.below (ap page_on e ∙ mark_page a p (omega (arith, few, w.below))), seen_header s o p (says p) w.header) (take-cut p a w e)
      take_in (marking.copy p c w e) up =
          rw (taken-page p w.below (ap page_on e ∙ mark_page (base_of P c) p (omega (arith, few, w.below))), seen_data s o c p (says p) w.copy)
          (by_test (eqb c s.chunk.0) _
          (λ t. let z : c ≡ s.chunk.0 = eqb-true _ _ t in rw (t, z) (take_same p c w e z))
          (λ t. rw t (take_next p c w e (eqb-false _ _ t) up)))

  -- where all marks up to place x were passed, and none behind it, what was taken in gives the reason there
  module _ (A : List ℕ) (s : Seen) (x : ℕ) (w : Sighted A s) (fits : x < places)
      (full : (k : ℕ) → In k (marks_to says P o h n) → place_of k ≤ x → In k A)
      (upto : (k : ℕ) → In k A → place_of k ≤ x) where
    abbrev c : ℕ
    c = chunk_at P x

    -- data of the place's chunk was passed
    copy_passed : (q : ℕ) → q < n → copy_of o c (says q) ≡ true → c ≤ most_chunk → CopyIn A c q
    copy_passed q b t m =
        let v : IsCopy says P o h n q c = record { below = b; copy = t; good = chunk_good c (record { least = omega arith; most = m }) } in
        record { is = v; there = full _ (copy_marked says P o h n q c v) (rw (mark_place (base_of P c) q (omega (arith, few, b))) (own_begins P some-data x)) }

    -- a header that cuts at or below the place was passed
    cut_passed : (p : ℕ) → p < n → cuts_at says P o n h x p ≡ true → CutIn A p
    cut_passed p b t = go (cut_of (eqb p h) (says p)) refl (and_right (header_of o (says p)) _ t)
      where
        go : (r : (Option ℕ)) → cut_of (eqb p h) (says p) ≡ r → hides r x ≡ true → CutIn A p
        go None e u = clash (cc)
        go (Some a) e u =
            let l : a ≤ x = leb-true _ _ u in
            let v : IsCut says P o h n p a = record { below = b; header = and_left (header_of o (says p)) _ t; cuts = e; inside = omega (arith, l, fits) } in
            record { place = a; is = v; there = full _ (cut_marked says P o h n p a v) (rw (mark_place a p (omega (arith, few, b))) l) }

    -- and what was passed cuts there
    passed-cuts : (p : ℕ) → CutIn A p → cuts_at says P o n h x p ≡ true
    passed-cuts p i =
        let l = upto _ i.there in
        let m : i.place ≤ x = rw (mark_place i.place p (omega (arith, few, i.is.below))) at l in
        rw (i.is.header, i.is.cuts) (le-leb i.place x m)

    -- no data of the place's chunk
    no_copy_lem : ((q : ℕ) → CopyIn A c q → ⊥) → copy_for says P o n h x ≡ None
    unfolding copy_for
    no_copy_lem f =
        by_test (ltb most_chunk c) _
        (λ t. rw t)
        (λ t.
        rw t (where_none_is says (λ q. copy_of o c (says q)) n
        (λ q b. by_test (copy_of o c (says q)) _ (λ u. absurd (f q (copy_passed q b u (ltb-false _ _ t)))) (λ u. u))))

    -- the newest data of the place's chunk
    a_copy : (q : ℕ) → CopyIn A c q → ((r : ℕ) → CopyIn A c r → age_of says r ≤ age_of says q) → copy_for says P o n h x ≡ Some q
    unfolding copy_for
    a_copy q i f =
        let m : c ≤ most_chunk = omega (arith, chunk_within c i.is.good) in
        rw (le-ltb most_chunk c m)
        (where_is says (λ r. copy_of o c (says r)) n q
        record { below = i.is.below; passes = i.is.copy; newest = λ r b u. f r (copy_passed r b u m) }
        (omega (arith, few)))

    -- no header newer than the copy cuts
    no-cutter : (q : ℕ) → ((p : ℕ) → CutIn A p → age_of says p ≤ age_of says q) → cutter says P o n h q x ≡ None
    unfolding cutter
    no-cutter q f =
        where_none_is says (λ p. cuts_at says P o n h x p && ltb (age_of says q) (age_of says p)) n
        (λ p b.
        by_test (cuts_at says P o n h x p && ltb (age_of says q) (age_of says p)) _
        (λ t.
        let i = cut_passed p b (and_left (cuts_at says P o n h x p) _ t) in
        absurd (omega (arith, f p i, ltb-true (age_of says q) (age_of says p) (and_right (cuts_at says P o n h x p) (ltb (age_of says q) (age_of says p)) t))))
        (λ t. t))

    -- the newest that does
    a-cutter : (q p : ℕ) → CutIn A p → age_of says q < age_of says p → ((r : ℕ) → CutIn A r → age_of says r ≤ age_of says p) → cutter says P o n h q x ≡ Some p
    unfolding cutter
    a-cutter q p i l f =
        where_is says (λ r. cuts_at says P o n h x r && ltb (age_of says q) (age_of says r)) n p
        record {
          below = i.is.below;
          passes = rw (passed-cuts p i) (lt-ltb _ _ l);
          newest = λ r b t. f r (cut_passed r b (and_left (cuts_at says P o n h x r) _ t));
        }
        (omega (arith, few))

    -- the copy q, of this age, behind the newest header passed
    behind : (q : PageNumber) (age : ℕ) → age ≡ age_of says q.0 → (r : Newest) → Latest says (CutIn A) r → behind_seen says P q age x r ≡ reason_behind says P o n h q.0 x (cutter says P o n h q.0 x)
    behind q age e Nothing l = rw (no-cutter q.0 (λ p i. absurd (l p i)))
    behind q age e (Some x) l =
        by_test (ltb age x.age) _
        (λ t. rw (t, a-cutter q.0 x.page.0 l.0 (omega (arith, ltb-true age x.age t, e, l.1)) (λ r i. le_trans (l.2 r i) (omega (arith, l.1)))))
        (λ t. rw (t, no-cutter q.0 (λ r i. le_trans (l.2 r i) (omega (arith, ltb-false age x.age t, e)))))

    -- the newest copy passed decides, if it is of the place's chunk; a chunk passed before has ended
    by_copy : (r : Newest) → Latest says (CopyIn A s.chunk.0) r → copy_seen says P s x r ≡ reason_by says P o n h x (copy_for says P o n h x)
    by_copy Nothing l =
        rw (no_copy_lem
        (λ q i.
        ⊎_elim
        (λ (z : s.chunk.0 ≡ 0). absurd (omega (arith, z, w.highest q c i, chunk_within c i.is.good)))
        (λ j. l j.page j.copy)
        w.one))
    by_copy (Some y) l =
        by_test (eqb s.chunk.0 c) _
        (λ t.
        let e : s.chunk.0 ≡ c = eqb-true _ _ t in
        let m = rw e at l in
        rw (t, a_copy y.page.0 m.0 (λ r i. le_trans (m.2 r i) (omega (arith, m.1)))) (behind y.page y.age l.1 s.cut w.newest_cut))
        (λ t.
        rw (
          t,
          no_copy_lem
              (λ r i.
              let lo : c ≤ s.chunk.0 = w.highest r c i in
              let b = upto _ l.0.there in
              let hi : s.chunk.0 ≤ c = begins_below P some-data s.chunk.0 x (rw (mark_place (base_of P s.chunk.0) y.page.0 (omega (arith, few, l.0.is.below))) at b) in
              absurd (eqb-false s.chunk.0 c t (omega (arith, lo, hi)))),
        ))

    -- so the reason is that of the place
    pub reason_seen_lem : reason_seen says P s x ≡ reason_by says P o n h x (copy_for says P o n h x)
    unfolding reason_seen
    reason_seen_lem = by_copy s.copy w.newest_copy_lem
