-- The sweep makes the spans. Behind the last mark of a place all that decides the reason there was taken in (Sighted), and up to the next place nothing
-- changes (Still). So what is made from a place on are the rows of the positions from there on where the reason or its page changes.
use Prim.Native.Nat.{ℕ, zero, suc, ◌+◌, ◌-◌, ◌≤◌, ◌<◌, min}
use mathlib.Core.Bool.{Bool, true, false}
use mathlib.Core.List.{List, [], ◌∷◌, ◌++◌, append-nil, append_assoc}
use mathlib.Core.Logic.{◌⊎◌, inl, inr, ⊎_elim}
use mathlib.Core.Path.{◌≡◌, refl, sym, ap, ◌∙◌}
use native.Mathlib.Nat.{le_refl}
use native.Mathlib.Omega.{arith}
use lib.Dec.{eqb, leb}
use borrow.Author.Tests.{eqb-true, eqb-false, eq-eqb, ne_eqb, leb-true, leb-false}
use Rattle.page.specs.Numbers.{page_values}
use Rattle.page.specs.declared.record.Record.{Record}
use Rattle.page.proofs.Searching.{clash, by_test}
use Rattle.sort.specs.Arranged.{arranged, rises, Every}
use Rattle.sort.specs.Ascending.{In}
use Rattle.sort.proofs.Arranging.{rises_cons, rises_every, arranged_rises, every_weaker}
use Rattle.sort.proofs.Places.{every_in, in_every}
use Rattle.sort.proofs.Times.{joined_in, in_arranged, arranged_in}
use Rattle.chunk.specs.Live.{passed}
use Rattle.chunk.specs.Sizes.{size_of}
use Rattle.chunk.specs.Records.{base_of}
use Rattle.chunk.proofs.Living.{passed_none, passed_skip, passed_take}
use Rattle.why.specs.Codes.{code_of, row_of}
use Rattle.why.specs.Marks.{most_data, places, no_page, mark_of, place_of, marks_to}
use Rattle.why.specs.Reasons.{reason_at, code_at, changes_at, spans_of}
use Rattle.why.specs.Sweeps.{nothing_seen, taken, goes_on, reason_seen, swept}
use Rattle.why.specs.declared.reason.Reason.{Reason}
use Rattle.why.specs.declared.reason.Reason.TheVariants.{Held, NoCopy, Cut, Count, PastEnd}
use Rattle.why.specs.declared.sweep.Seen.{Seen}
use Rattle.why.proofs.Marking as marking
use Rattle.why.proofs.Marking.{Mark, mark_of_lem, begin_marked, mark_place, place_le}
use Rattle.why.proofs.Places.{page_inside}
use Rattle.why.proofs.Sighted.{Sighted, snoc_in, nothing_sighted, take_in, reason_seen_lem}
use Rattle.why.proofs.Still.{inside_reason, quiet_at}
use Rattle.why.proofs.Until.{code_stays}

-- every code is some number
pub code_some : (r : Reason) → 0 < code_of r
code_some (Held p at) = omega arith
code_some NoCopy = omega arith
code_some (Cut p) = omega arith
code_some (Count p) = omega arith
code_some (PastEnd p) = omega arith

-- numbers of which none passes add no row
module _ (test : ℕ → Bool) (id : ℕ → ℕ) where
  pub passed_quiet : (x m : ℕ) → ((z : ℕ) → x ≤ z → z < x + m → test z ≡ false) → passed test id (x + m) ≡ passed test id x
  passed_quiet x zero f = let e : x + 0 ≡ x = omega arith in rw e
  passed_quiet x (suc m) f =
      let e : x + suc m ≡ x + m + 1 = omega arith in
      rw e (passed_skip test id (x + m) (f (x + m) (omega arith) (omega arith)) ∙ passed_quiet x m (λ z a b. f z a (omega (arith, b))))

module _ (says : ℕ → Record) (P o n h : ℕ) (some-data : 0 < P) (most-data : P ≤ most_data) (few : n < page_values) where
  abbrev size : ℕ
  size = size_of says P o h n

  abbrev marks : List ℕ
  marks = marks_to says P o h n

  abbrev changes : ℕ → Bool
  changes = changes_at says P o n h

  abbrev row : ℕ → ℕ
  row x = row_of x (code_at says P o n h x)

  abbrev code : ℕ → ℕ
  code = code_at says P o n h

  -- where the rest of the marks begins, no further than the size
  abbrev edge : List ℕ → ℕ
  edge [] = size
  edge (k ∷ L) = min size (place_of k)

  -- no mark is behind the places
  inside_mark : (k : ℕ) → Mark says P o h n k → place_of k < places
  inside_mark k (marking.cut p a w e) = rw (e, mark_place a p (omega (arith, few, w.below))) w.inside
  inside_mark k (marking.copy p c w e) =
      rw (e, mark_place (base_of P c) p (omega (arith, few, w.below))) (omega (arith, page_inside P c most-data w.good))
  inside_mark k (marking.bare x c g l e) = rw (e, mark_place x no_page (omega arith)) (omega (arith, l, page_inside P c most-data g))

  -- the code of the last row, where the positions up to e were gone over: none at the begin, else that of the position before
  abbrev Ready : (e last : ℕ) → Type 0
  Ready e last = ((e ≡ 0) × (last ≡ 0)) ⊎ ((0 < e) × (last ≡ code (e - 1)))

  -- a position changes exactly if its code is not the last one
  same_changes : (x last : ℕ) → Ready x last → eqb (code x) last ≡ true → changes x ≡ false
  unfolding changes_at
  same_changes x last (inl r) t = absurd (omega (arith, code_some (reason_at says P o n h x), eqb-true (code x) last t, r.1))
  same_changes x last (inr r) t =
      let e : code (x - 1) ≡ code x = sym r.1 ∙ sym (eqb-true _ _ t) in
      rw (ne_eqb x 0 (λ z. absurd (omega (arith, z, r.0))), e, eq-eqb (code x) (code x) refl)

  other_changes : (x last : ℕ) → Ready x last → eqb (code x) last ≡ false → changes x ≡ true
  unfolding changes_at
  other_changes x last (inl r) t = rw (eq-eqb x 0 r.0)
  other_changes x last (inr r) t =
      rw (ne_eqb x 0 (λ z. absurd (omega (arith, z, r.0))), ne_eqb (code (x - 1)) (code x) (λ z. absurd (eqb-false _ _ t (sym (r.1 ∙ z)))))

  -- how the sweep stands: the marks passed, those ahead, what was taken in, and the last row's code
  pub record Standing (A L : List ℕ) (s : Seen) (last b : ℕ) : Type 0 where
    pub sighted : Sighted says P o h n few some-data A s
    pub rising : rises b L ≡ true
    pub passed_below : Every (λ k. k ≤ b) A
    pub all : (k : ℕ) → In k marks → In k A ⊎ In k L
    pub each : (k : ℕ) → In k A ⊎ In k L → In k marks
    pub ready : Ready (edge L) last

  -- one mark more
  module _ (A L : List ℕ) (k : ℕ) (s : Seen) (last b : ℕ) (w : Standing A (k ∷ L) s last b) where
    abbrev next : List ℕ
    next = A ++ (k ∷ [])

    -- the mark is not below those passed, and those ahead are not below it
    up : b ≤ k
    up = (rises_cons b k L w.rising).0

    ahead : rises k L ≡ true
    ahead = (rises_cons b k L w.rising).1

    -- it is one of the file's
    a-mark : Mark says P o h n k
    a-mark = mark_of_lem says P o h n k (w.each k (inr (inl refl)))

    -- with it those passed are not above it
    snoc-every : (B : List ℕ) → Every (λ m. m ≤ b) B → Every (λ m. m ≤ k) (B ++ (k ∷ []))
    snoc-every [] e = (le_refl k, tt)
    snoc-every (m ∷ B) e = (omega (arith, e.0, up), snoc-every B e.1)

    -- its page is taken in
    seen_more : Sighted says P o h n few some-data next (taken says s k)
    seen_more = take_in says P o h n few some-data A k s w.sighted a-mark (every_weaker (λ m. m ≤ b) (λ m. m ≤ k) (λ m e. omega (arith, e, up)) A w.passed_below)

    -- so the sweep stands one mark further
    stand : (code : ℕ) → Ready (edge L) code → Standing next L (taken says s k) code k
    stand last' r = record {
      sighted = seen_more;
      rising = ahead;
      passed_below = snoc-every A w.passed_below;
      all = λ m i. ⊎_elim (λ j. inl (joined_in m A (k ∷ []) (inl j))) (λ j. ⊎_elim (λ e. inl (joined_in m A (k ∷ []) (inr (inl e)))) (λ z. inr z) j) (w.all m i);
      each = λ m i. ⊎_elim (λ j. ⊎_elim (λ e. w.each m (inr (inl e))) (λ z. w.each m (inl z)) (snoc_in m k A j)) (λ j. w.each m (inr (inr j))) i;
      ready = r;
    }

    -- behind the last mark of a place inside the size
    module _ (inside : place_of k < size) (ends : goes_on (place_of k) L ≡ false) where
      abbrev x : ℕ
      x = place_of k

      -- the marks ahead are behind the place
      behind : (m : ℕ) → In m L → edge L ≤ place_of m
      behind m i = go L ahead i
        where
          go : (M : List ℕ) → rises k M ≡ true → In m M → edge M ≤ place_of m
          go [] r j = absurd j
          go (y ∷ M) r j =
              let t = rises_every y M (rises_cons k y M r).1 in
              ⊎_elim (λ (e : m ≡ y). rw e (omega arith)) (λ z. let q = place_le y m (every_in (λ v. y ≤ v) m M t z) in omega (arith, q)) j

      -- and so is the next place
      later : x < edge L
      later = go L ahead ends
        where
          go : (M : List ℕ) → rises k M ≡ true → goes_on x M ≡ false → x < edge M
          go [] r e = inside
          go (y ∷ M) r e =
              let q = place_le k y (rises_cons k y M r).0 in
              omega (arith, q, inside, eqb-false (place_of y) x e)

      -- which is not past the end
      edge-most : edge L ≤ size
      edge-most = go L
        where
          go : (M : List ℕ) → edge M ≤ size
          go [] = le_refl _
          go (y ∷ M) = omega arith

      -- all up to the place was passed
      full : (m : ℕ) → In m marks → place_of m ≤ x → In m next
      full m i l =
          ⊎_elim (λ j. joined_in m A (k ∷ []) (inl j))
          (λ j. ⊎_elim (λ e. joined_in m A (k ∷ []) (inr (inl e))) (λ z. absurd (omega (arith, behind m z, later, l))) j)
          (w.all m i)

      -- and nothing behind it
      upto : (m : ℕ) → In m next → place_of m ≤ x
      upto m i = place_le m k (every_in (λ v. v ≤ k) m next (snoc-every A w.passed_below) i)

      -- so the reason is that of the place
      own_code : code_of (reason_seen says P (taken says s k) x) ≡ code x
      own_code =
          ap code_of
          (reason_seen_lem says P o h n few some-data next (taken says s k) x seen_more (inside_mark k a-mark) full upto
          ∙ sym (inside_reason says P o n h some-data most-data few x inside))

      -- and nothing changes up to the next place
      quiet : (z : ℕ) → x < z → z < edge L → changes z ≡ false
      quiet z l m =
          let e : z - 1 + 1 ≡ z = omega (arith, l) in
          rw (← e)
          (quiet_at says P o n h some-data most-data few (z - 1)
          (λ v i q.
          ⊎_elim
          (λ j. absurd (omega (arith, upto v (joined_in v A (k ∷ []) (inl j)), q, e, l)))
          (λ j. ⊎_elim (λ (y : v ≡ k). absurd (omega (arith, ap place_of y, q, e, l))) (λ y. absurd (omega (arith, behind v y, q, e, m))) j)
          (w.all v i))
          (omega (arith, e, m, edge-most)))

      -- the rows up to the next place
      skips : changes x ≡ false → passed changes row (edge L) ≡ passed changes row x
      skips t =
          let e : x + (edge L - x) ≡ edge L = omega (arith, later) in
          rw (← e)
          (passed_quiet changes row x (edge L - x)
          (λ z a b. by_test (eqb z x) _ (λ u. rw (eqb-true z x u) t) (λ u. quiet z (omega (arith, a, eqb-false z x u)) (omega (arith, b, later)))))

      takes : changes x ≡ true → passed changes row (edge L) ≡ passed changes row x ++ (row x ∷ [])
      takes t =
          let e : x + 1 + (edge L - (x + 1)) ≡ edge L = omega (arith, later) in
          rw (← e)
          (passed_quiet changes row (x + 1) (edge L - (x + 1)) (λ z a b. quiet z (omega (arith, a)) (omega (arith, b, later)))
          ∙ passed_take changes row x t)

      -- the code before the next place is that of this one
      ready-next : Ready (edge L) (code x)
      ready-next =
          let e : x + (edge L - 1 - x) ≡ edge L - 1 = omega (arith, later) in
          inr (omega (arith, later), sym (rw (← e) (code_stays says P o n h x (edge L - 1 - x) (λ z a b. quiet z a (omega (arith, b, later))))))

    -- what is made from here on, by what is made behind this mark
    module _ (rest : (last' : ℕ) → Ready (edge L) last' → passed changes row (edge L) ++ swept says P size (taken says s k) last' L ≡ passed changes row size) where
      -- another mark is at the place
      goes : goes_on (place_of k) L ≡ true → passed changes row (edge (k ∷ L)) ++ swept says P size (taken says s k) last L ≡ passed changes row size
      goes t = let e : edge L ≡ edge (k ∷ L) = go L t in rw (← e) (rest last (rw e w.ready))
        where
          go : (M : List ℕ) → goes_on (place_of k) M ≡ true → edge M ≡ edge (k ∷ L)
          go [] e = clash (cc)
          go (y ∷ M) e = ap (min size) (eqb-true _ _ e)

      -- the file has ended
      ended : leb size (place_of k) ≡ true → passed changes row (edge (k ∷ L)) ++ swept says P size (taken says s k) last L ≡ passed changes row size
      ended u = let e : edge L ≡ edge (k ∷ L) = go L ahead in rw (← e) (rest last (rw e w.ready))
        where
          go : (M : List ℕ) → rises k M ≡ true → edge M ≡ edge (k ∷ L)
          go [] r = omega (arith, leb-true size (place_of k) u)
          go (y ∷ M) r = omega (arith, leb-true size (place_of k) u, place_le k y (rises_cons k y M r).0)

      module _ (inside : place_of k < size) (ends : goes_on (place_of k) L ≡ false) (r : Ready (place_of k) last) where
        -- the reason is the last one still
        same : eqb (code (place_of k)) last ≡ true → passed changes row (place_of k) ++ swept says P size (taken says s k) last L ≡ passed changes row size
        same v =
            rw (← skips inside ends (same_changes (place_of k) last r v))
            (rest last (rw (← eqb-true (code (place_of k)) last v) (ready-next inside ends)))

        -- it is another, and a row is made
        other :
            eqb (code (place_of k)) last ≡ false →
            passed changes row (place_of k) ++ (row (place_of k) ∷ swept says P size (taken says s k) (code (place_of k)) L) ≡ passed changes row size
        other v =
            sym (append_assoc (passed changes row (place_of k)) (row (place_of k) ∷ []) (swept says P size (taken says s k) (code (place_of k)) L))
            ∙ rw (← takes inside ends (other_changes (place_of k) last r v)) (rest (code (place_of k)) (ready-next inside ends))

      -- together, whichever it is
      onward : passed changes row (edge (k ∷ L)) ++ swept says P size s last (k ∷ L) ≡ passed changes row size
      unfolding swept
      onward =
          by_test (goes_on (place_of k) L) _
          (λ t. rw t (goes t))
          (λ t.
          by_test (leb size (place_of k)) _
          (λ u. rw (t, u) (ended u))
          (λ u.
          let inside : place_of k < size = leb-false _ _ u in
          let e : edge (k ∷ L) ≡ place_of k = omega (arith, inside) in
          let own = own_code inside t in
          let r : Ready (place_of k) last = rw e at w.ready in
          by_test (eqb (code (place_of k)) last) _
          (λ v. rw (t, u, own, v, e) (same inside t r v))
          (λ v. rw (t, u, own, v, e) (other inside t r v))))

  -- what is made of the marks ahead
  pub sweeps : (A L : List ℕ) (s : Seen) (last b : ℕ) → Standing A L s last b → passed changes row (edge L) ++ swept says P size s last L ≡ passed changes row size
  unfolding swept
  sweeps A [] s last b w = append-nil _
  sweeps A (k ∷ L) s last b w = onward A L k s last b w (λ last' r. sweeps (A ++ (k ∷ [])) L (taken says s k) last' k (stand A L k s last b w last' r))

  -- the marks in order begin at the file's begin
  first_mark : (L : List ℕ) → rises 0 L ≡ true → In (mark_of 0 no_page) L → edge L ≡ 0
  first_mark [] r i = absurd i
  first_mark (k ∷ L) r i =
      let t = rises_every k L (rises_cons 0 k L r).1 in
      let l : k ≤ mark_of 0 no_page = ⊎_elim (λ e. omega (arith, e)) (λ j. every_in (λ v. k ≤ v) (mark_of 0 no_page) L t j) i in
      omega (arith, place_le k (mark_of 0 no_page) l, mark_place 0 no_page (omega arith))

  -- so the sweep over all marks in order makes the spans
  pub sweep_spans : swept says P size nothing_seen 0 (arranged marks) ≡ spans_of says P o n h
  unfolding spans_of
  sweep_spans =
      let e : edge (arranged marks) ≡ 0 = first_mark (arranged marks) (arranged_rises marks) (in_arranged _ marks (begin_marked says P o h n)) in
      let w : Standing [] (arranged marks) nothing_seen 0 0 = record {
        sighted = nothing_sighted says P o h n few some-data;
        rising = arranged_rises marks;
        passed_below = tt;
        all = λ k i. inr (in_arranged k marks i);
        each = λ k i. ⊎_elim (λ j. absurd j) (λ j. arranged_in k marks j) i;
        ready = inl (e, refl);
      } in
      ap (λ (L : List ℕ). L ++ swept says P size nothing_seen 0 (arranged marks)) (sym (ap (passed changes row) e ∙ passed_none changes row))
      ∙ sweeps [] (arranged marks) nothing_seen 0 0 w

  -- and each of them has its place
  pub marks_inside : Every (λ k. place_of k < places) (arranged marks)
  marks_inside = in_every (λ k. place_of k < places) (arranged marks) (λ k i. inside_mark k (mark_of_lem says P o h n k (arranged_in k marks i)))
