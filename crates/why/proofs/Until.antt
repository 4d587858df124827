-- How far a reason holds, and the spans of a file.
--
-- From a position on nothing changes up to the first later position of the file where the reason or its page does, and that is `until`; where nothing
-- changes any more it is the end of the file. So everywhere up to it the kind of the reason and its page are those of the position, and there, if it is
-- still inside the file, they are not.
--
-- The spans have a row for each change, and no other. So the first begins at 0, and each of the others where the one before it ends.
use Prim.Native.Nat.{ℕ, zero, suc, ◌+◌, ◌-◌, ◌≤◌, ◌<◌}
use mathlib.Core.Bool.{Bool, true, false, not}
use mathlib.Core.List.{List, [], ◌∷◌, ◌++◌, append-nil}
use mathlib.Core.Logic.{⊎_elim}
use mathlib.Core.Path.{◌≡◌, refl, sym, ap, ◌∙◌}
use native.Mathlib.Nat.{le_refl, eq-or-lt_of_le}
use native.Mathlib.Omega.{arith}
use lib.Dec.{eqb, ltb}
use lib.Seq.{append_snoc}
use borrow.Author.Tests.{eqb-true, eqb-false, ne_eqb, ltb-true, ltb-false, not-true, not-false, le-leb, lt-leb}
use Rattle.page.specs.Choice.{pick}
use Rattle.page.specs.Numbers.{page_values}
use Rattle.page.specs.Search.{first_from}
use Rattle.page.specs.declared.record.Record.{Record}
use Rattle.page.proofs.Searching.{clash, by_test, first_passes}
use Rattle.chunk.specs.Live.{passed}
use Rattle.chunk.specs.Sizes.{size_of}
use Rattle.chunk.proofs.Living.{passed_none, passed_skip, passed_take}
use Rattle.why.specs.Codes.{kind_values, code_values, kind_of, page_in, code_of, row_of, from_of, code_in}
use Rattle.why.specs.Reasons.{last_position, reason_at, code_at, changes_at, until_of, spans_of}
use Rattle.why.specs.declared.reason.Reason.{Reason}
use Rattle.why.specs.declared.reason.Reason.TheVariants.{Held, NoCopy, Cut, Count, PastEnd}
use Rattle.why.proofs.Meaning.{reason_by_lem, reason_past, copy_found, cutter_found}

-- ---- the first number from i on that passes a test

module _ (test : ℕ → Bool) where
  -- it is not before i, and not behind the numbers that are tried
  pub first_from_lem : (i n : ℕ) → i ≤ first_from test i n
  unfolding first_from
  first_from_lem i zero = le_refl _
  first_from_lem i (suc n) = by_test (test i) _ (λ t. rw t (le_refl _)) (λ t. rw t (omega (arith, first_from_lem (i + 1) n)))

  pub first_within : (i n : ℕ) → first_from test i n ≤ i + n
  unfolding first_from
  first_within i zero = omega arith
  first_within i (suc n) = by_test (test i) _ (λ t. rw t (omega arith)) (λ t. rw t (omega (arith, first_within (i + 1) n)))

  -- none before it passes
  pub first_before : (i n y : ℕ) → i ≤ y → y < first_from test i n → test y ≡ false
  unfolding first_from
  first_before i zero y a b = absurd (omega arith)
  first_before i (suc n) y a b =
      by_test (test i) _
      (λ t. let k : y < i = rw t at b in absurd (omega arith))
      (λ t.
      let k : y < first_from test (i + 1) n = rw t at b in
      ⊎_elim (λ (e : i ≡ y). rw (← e) t) (λ (j : i < y). first_before (i + 1) n y (omega arith) k) (eq-or-lt_of_le a))

-- ---- codes and rows

-- two reasons of one kind that go by one page
pub record SameReason (a b : Reason) : Type 0 where
  pub kind : kind_of a ≡ kind_of b
  pub page : page_in a ≡ page_in b

-- a kind is one of those that a code tells apart
kind_below : (r : Reason) → kind_of r < kind_values
kind_below (Held p at) = omega arith
kind_below NoCopy = omega arith
kind_below (Cut p) = omega arith
kind_below (Count p) = omega arith
kind_below (PastEnd p) = omega arith

-- they are those of one code
pub same_code : (a b : Reason) → code_of a ≡ code_of b → SameReason a b
same_code a b e = record { kind = omega (arith, kind_below a, kind_below b); page = omega (arith, kind_below a, kind_below b) }

pub code_same : (a b : Reason) → SameReason a b → code_of a ≡ code_of b
code_same a b w = rw (w.kind, w.page)

-- a row has its begin and its code
pub row_from : (from code : ℕ) → code < code_values → from_of (row_of from code) ≡ from
row_from from code i = omega arith

pub row_code : (from code : ℕ) → code < code_values → code_in (row_of from code) ≡ code
row_code from code i = omega arith

-- a reason inside the size goes by a page of the dump, so that its code is one of those that a row tells apart
pub code_below : (says : ℕ → Record) (P o n h x : ℕ) → n < page_values → x < size_of says P o h n → code_at says P o n h x < code_values
code_below says P o n h x l i =
    reason_by_lem says P o n h x (λ r. code_of r < code_values)
    (λ j. absurd (omega arith))
    (λ _ _. omega arith)
    (λ q p _ _ e. omega (arith, (cutter_found says P o n h x q p e).0.below))
    (λ q _ e _ _. omega (arith, (copy_found says P o n h x q e).newest.below))
    (λ q _ e _ _. omega (arith, (copy_found says P o n h x q e).newest.below))

-- ---- the reasons of a file

module _ (says : ℕ → Record) (P o n h : ℕ) where
  abbrev size : ℕ
  size = size_of says P o h n

  abbrev code : ℕ → ℕ
  code x = code_at says P o n h x

  abbrev changes : ℕ → Bool
  changes x = changes_at says P o n h x

  abbrev until : ℕ → ℕ
  until x = until_of says P o n h x

  abbrev reason : ℕ → Reason
  reason x = reason_at says P o n h x

  -- the reason changes at the begin, and where its code is not that of the position before
  pub begin_changes : changes 0 ≡ true
  unfolding changes_at
  begin_changes = refl

  -- a later position changes where its code is not that of the one before
  change_is : (x : ℕ) → changes (x + 1) ≡ not (eqb (code x) (code (x + 1)))
  unfolding changes_at
  change_is x =
      let z : eqb (x + 1) 0 ≡ false = ne_eqb _ _ (λ (k : x + 1 ≡ 0). omega arith) in
      let e : x + 1 - 1 ≡ x = omega arith in
      rw (z, e)

  pub unchanged : (x : ℕ) → changes (x + 1) ≡ false → code (x + 1) ≡ code x
  unchanged x t = sym (eqb-true _ _ (not-false _ (sym (change_is x) ∙ t)))

  pub changed : (x : ℕ) → changes (x + 1) ≡ true → code (x + 1) ≡ code x → ⊥
  changed x t c = eqb-false _ _ (not-true _ (sym (change_is x) ∙ t)) (sym c)

  -- the first change behind x, or the end
  until_inside : (x : ℕ) → x < size → until x ≡ first_from changes (x + 1) (size - (x + 1))
  unfolding until_of
  until_inside x i = rw (lt-leb _ _ i)

  -- where the next change behind x is, if there is one in the file, and else its end
  record NextChange (x end : ℕ) : Type 0 where
    behind : x < end
    inside : end ≤ size
    between : (y : ℕ) → x < y → y < end → changes y ≡ false
    there : end < size → changes end ≡ true

  -- `until` is that position
  next_change : (x : ℕ) → x < size → NextChange x (until x)
  next_change x i =
      rw (until_inside x i) record {
        behind = omega (arith, first_from_lem changes (x + 1) (size - (x + 1)));
        inside = omega (arith, first_within changes (x + 1) (size - (x + 1)));
        between = λ y a b. first_before changes (x + 1) (size - (x + 1)) y (omega arith) b;
        there = λ b. first_passes changes (x + 1) (size - (x + 1)) (omega arith);
      }

  -- there is one such position, and it is the same for all positions up to it
  next_only : (x u v : ℕ) → NextChange x u → NextChange x v → u ≡ v
  next_only x u v a b =
      by_test (ltb u v) _
      (λ t. absurd (apart u v a b (ltb-true _ _ t)))
      (λ t. by_test (ltb v u) _ (λ s. absurd (apart v u b a (ltb-true _ _ s))) (λ s. omega (arith, ltb-false u v t, ltb-false v u s)))
    where
      apart : (u v : ℕ) → NextChange x u → NextChange x v → u < v → ⊥
      apart u v a b i =
          let t : changes u ≡ true = a.there (omega (arith, b.inside)) in
          let f : changes u ≡ false = b.between u a.behind i in
          clash (cc)

  -- so positions up to it share their `until`
  pub until_shared : (x y : ℕ) → x < size → x ≤ y → y < until x → until y ≡ until x
  until_shared x y i a b =
      let w = next_change x i in
      next_only y (until y) (until x) (next_change y (omega (arith, w.inside)))
      record { behind = b; inside = w.inside; between = λ z c d. w.between z (omega arith) d; there = w.there }

  -- what it is to hold from x up to a position: the reason and its page are the same all the way, and there, if that is inside the file, they are not
  pub record HoldsUntil (x end : ℕ) : Type 0 where
    pub behind : x < end
    pub inside : end ≤ size
    pub same : (y : ℕ) → x ≤ y → y < end → SameReason (reason y) (reason x)
    pub other : end < size → SameReason (reason end) (reason x) → ⊥

  -- as long as nothing changes the code stays
  pub code_stays : (x d : ℕ) → ((y : ℕ) → x < y → y ≤ x + d → changes y ≡ false) → code (x + d) ≡ code x
  code_stays x zero same = ap code (omega arith)
  code_stays x (suc d) same =
      let e : x + suc d ≡ x + d + 1 = omega arith in
      ap code e
      ∙ unchanged (x + d) (same (x + d + 1) (omega arith) (omega arith))
      ∙ code_stays x d (λ y a b. same y a (omega arith))

  -- so the code is the same up to `until`
  pub until_same : (x y : ℕ) → x < size → x ≤ y → y < until x → code y ≡ code x
  until_same x y i a b =
      let e : y ≡ x + (y - x) = omega arith in
      ap code e ∙ code_stays x (y - x) (λ z c d. (next_change x i).between z c (omega arith))

  -- the reason of a position inside the file holds up to `until`
  pub until_holds : (x : ℕ) → x < size → HoldsUntil x (until x)
  until_holds x i =
      let w = next_change x i in
      let last : until x - 1 + 1 ≡ until x = omega (arith, w.behind) in
      let before : code (until x - 1) ≡ code x = until_same x (until x - 1) i (omega (arith, w.behind)) (omega (arith, w.behind)) in
      record {
        behind = w.behind;
        inside = w.inside;
        same = λ y a b. same_code (reason y) (reason x) (until_same x y i a b);
        other = λ b c. changed (until x - 1) (ap changes last ∙ w.there b) (ap code last ∙ code_same (reason (until x)) (reason x) c ∙ sym before);
      }

  -- that of one past the end holds for all behind it, and `until` is the largest position
  pub past_same : (x y : ℕ) → size ≤ x → size ≤ y → reason x ≡ reason y
  past_same x y i j = reason_past says P o n h x i ∙ sym (reason_past says P o n h y j)

  pub until_past : (x : ℕ) → size ≤ x → until x ≡ last_position
  unfolding until_of
  until_past x i = rw (le-leb _ _ i)

  -- ---- the spans

  -- the rows are the spans of the file from x on: none at its end; else the first begins at x, has the reason and page there, which hold up to `until`,
  -- and the others are the spans from there on
  abbrev pub SpansFrom : (x : ℕ) (rows : List ℕ) → Type 0
  SpansFrom x [] = x ≡ size
  SpansFrom x (row ∷ rows) = (from_of row ≡ x) × (code_in row ≡ code x) × HoldsUntil x (until x) × SpansFrom (until x) rows

  abbrev row : ℕ → ℕ
  row x = row_of x (code x)

  -- the rows of the d positions from x on
  unfoldable rows : (x d : ℕ) → List ℕ
  rows x zero = []
  rows x (suc d) = let rest = rows (x + 1) d in pick (changes x) (row x ∷ rest) rest

  -- none of no positions; a change is a row; and no change is none
  rows_none : (x : ℕ) → rows x 0 ≡ []
  unfolding rows
  rows_none x = refl

  rows_take : (x : ℕ) → x < size → changes x ≡ true → rows x (size - x) ≡ row x ∷ rows (x + 1) (size - (x + 1))
  unfolding rows
  rows_take x i t = let e : size - x ≡ suc (size - (x + 1)) = omega arith in rw (e, t)

  rows_skip : (x : ℕ) → x < size → changes x ≡ false → rows x (size - x) ≡ rows (x + 1) (size - (x + 1))
  unfolding rows
  rows_skip x i t = let e : size - x ≡ suc (size - (x + 1)) = omega arith in rw (e, t)

  -- behind those of the positions before x they are those of all
  rows_behind : (x d : ℕ) → passed changes row (x + d) ≡ passed changes row x ++ rows x d
  unfolding rows
  rows_behind x zero = let e : x + 0 ≡ x = omega arith in rw e (sym (append-nil _))
  rows_behind x (suc d) =
      let e : x + suc d ≡ x + 1 + d = omega arith in
      ap (passed changes row) e
      ∙ rows_behind (x + 1) d
      ∙ by_test (changes x) _
      (λ t. rw (t, passed_take changes row x t) (append_snoc (passed changes row x) (row x) (rows (x + 1) d)))
      (λ t. rw (t, passed_skip changes row x t))

  -- where nothing changes there are none
  rows_stay : (x d : ℕ) → x + d ≤ size → ((y : ℕ) → x ≤ y → y < x + d → changes y ≡ false) → rows x (size - x) ≡ rows (x + d) (size - (x + d))
  rows_stay x zero i w = let e : x + 0 ≡ x = omega arith in rw e
  rows_stay x (suc d) i w =
      let e : x + suc d ≡ x + d + 1 = omega arith in
      rows_stay x d (omega arith) (λ y a b. w y a (omega arith))
      ∙ rows_skip (x + d) (omega arith) (w (x + d) (omega arith) (omega arith))
      ∙ rw (← e)

  module _ (few : n < page_values) where
    spans-at : (most x : ℕ) → size ≤ x + most → x ≤ size → (x < size → changes x ≡ true) → SpansFrom x (rows x (size - x))
    spans-at zero x k i t = let e : x ≡ size = omega arith in let z : size - x ≡ 0 = omega arith in rw (z, rows_none x) e
    spans-at (suc most) x k i t =
        ⊎_elim
        (λ (e : x ≡ size). let z : size - x ≡ 0 = omega arith in rw (z, rows_none x) e)
        (λ (j : x < size).
        let c = code_below says P o n h x few j in
        let w = next_change x j in
        let e : x + 1 + (until x - (x + 1)) ≡ until x = omega (arith, w.behind) in
        let r : rows (x + 1) (size - (x + 1)) ≡ rows (until x) (size - until x) =
        rows_stay (x + 1) (until x - (x + 1)) (omega (arith, w.inside)) (λ y a b. w.between y (omega arith) (omega arith))
        ∙ rw e
        in
        let rest = spans-at most (until x) (omega (arith, w.behind)) w.inside w.there in
        rw (rows_take x j (t j), r) (row_from x (code x) c, row_code x (code x) c, until_holds x j, rest))
        (eq-or-lt_of_le i)

    -- the spans of a file are those from 0 on
    pub spans_from : SpansFrom 0 (spans_of says P o n h)
    unfolding spans_of
    spans_from =
        let e : size ≡ 0 + size = omega arith in
        let z : size - 0 ≡ size = omega arith in
        let r : passed changes row size ≡ rows 0 (size - 0) = ap (passed changes row) e ∙ rows_behind 0 size ∙ rw (passed_none changes row, z) in
        rw r (spans-at size 0 (omega arith) (omega arith) (λ _. begin_changes))
