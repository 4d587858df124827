-- Which stretches differ, by the rows of both sides. A row stands for a stretch until it ends at or before it; so the rows that stand later are found
-- among those that stand now. A stretch before the begin of the rows that stand shows zeros on both sides, and is passed over.
use Prim.Native.Nat.{ℕ, zero, suc, ◌+◌, ◌-◌, ◌*◌, ◌≤◌, ◌<◌, zero-le, min, max}
use mathlib.Core.Bool.{Bool, true, false, ◌&&◌}
use mathlib.Core.Logic.{⊎_elim}
use mathlib.Core.List.{List, [], ◌∷◌, ◌++◌, append-nil}
use mathlib.Core.Path.{◌≡◌, refl, ap, sym, ◌∙◌}
use native.Mathlib.Nat.{add-zero, add_assoc}
use native.Mathlib.Numerals.{add-one}
use native.Mathlib.Omega.{arith}
use borrow.Author.Tests.{le-leb, lt-leb, leb-true, leb-false}
use lib.Dec.{leb}
use lib.ListN.{length, take, drop, get_or, drop_of_length-le, get_or-eq_default}
use lib.Seq.{drop-cons}
use Rattle.page.specs.Lengths.{page_in}
use Rattle.page.specs.declared.geometry.Geometry.{Geometry}
use Rattle.page.proofs.Searching.{by_test}
use Rattle.chunk.specs.Answers.{valid_part, part_by}
use Rattle.chunk.specs.Looked as looked
use Rattle.text.specs.Put.{Put}
use Rattle.text.proofs.Order.{le_or_lt}
use Rattle.text.proofs.Putting.{also}
use Rattle.text.specs.Lines.{line_of}
use Rattle.text.specs.Quoted.{bytes_of}
use Rattle.file.specs.Copies.{copy_of}
use Rattle.file.specs.declared.copy.Copy.{Copy}
use Rattle.compare.specs.Views.{byte_of}
use Rattle.compare.specs.Differences.{stretch, stretch_bytes, stretches_in, stretch_differs}
use Rattle.compare.specs.Parts.{Shows, begins_in, line_if}
use Rattle.compare.specs.Report.{lines_of}
use Rattle.compare.specs.Sides.{row_begin, row_end, standing, stretch_begin, byte_by, rows_show}
use Rattle.compare.proofs.Differing.{differ_same, differ_equal, part_shows}
use Rattle.compare.proofs.PassedLines.{lines_to, lines_more}

module _ (P : ℕ) where
  -- a row that ends at or before a position does not stand there
  standing_past : (x r : ℕ) (rows : List ℕ) → row_end P r ≤ x → standing P x (r ∷ rows) ≡ standing P x rows
  unfolding standing
  standing_past x r rows h = rw (le-leb _ _ h)

  -- another stands, and all behind it
  standing_first : (x r : ℕ) (rows : List ℕ) → x < row_end P r → standing P x (r ∷ rows) ≡ r ∷ rows
  unfolding standing
  standing_first x r rows h = rw (lt-leb _ _ h)

  -- where there are no rows none stands
  standing_nil : (x : ℕ) → standing P x [] ≡ []
  unfolding standing
  standing_nil x = refl

  -- row i ends there
  pub standing_next : (x i : ℕ) (rows : List ℕ) → i < length rows → row_end P (get_or rows i 0) ≤ x → standing P x (drop i rows) ≡ standing P x (drop (i + 1) rows)
  standing_next x i rows h e = rw (drop-cons rows i 0 h, standing_past x _ _ e, add-one)

  -- row i stands
  pub standing_here : (x i : ℕ) (rows : List ℕ) → i < length rows → x < row_end P (get_or rows i 0) → drop i rows ≡ standing P x (drop i rows)
  standing_here x i rows h e = rw (drop-cons rows i 0 h, standing_first x _ _ e)

  -- there is no row i
  pub standing_end : (x i : ℕ) (rows : List ℕ) → length rows ≤ i → drop i rows ≡ standing P x (drop i rows)
  standing_end x i rows h = rw (drop_of_length-le rows h, standing_nil x)

  -- the rows that stand later are found among those that stand now
  standing_later : (x y : ℕ) (rows : List ℕ) → x ≤ y → standing P y rows ≡ standing P y (standing P x rows)
  standing_later x y [] h = rw (standing_nil x)
  standing_later x y (r ∷ rows) h =
      by_test (leb (row_end P r) x) _
      (λ t.
      let e = leb-true _ _ t in
      rw (standing_past x r rows e, standing_past y r rows (omega arith)) (standing_later x y rows h))
      (λ t. rw (standing_first x r rows (leb-false _ _ t)))

-- a stretch of so many bytes begins among them
pub begins_below : (k end m : ℕ) → end ≡ stretches_in m → k < end → stretch_bytes * k < m
begins_below k end m e h = omega arith

-- where the stretch of a byte of stretch k begins
begin_in : (k i : ℕ) → i < stretch_bytes → stretch_begin (stretch_bytes * k + i) ≡ stretch_bytes * k
begin_in k i h = omega arith

module _ (g : Geometry) (dump : List ℕ) where
  -- what the first of some rows shows in stretch k: zeros where it begins behind the stretch's begin
  byte_before : (r k i : ℕ) (rows : List ℕ) → i < stretch_bytes → stretch_bytes * k < row_begin g.layout.«data» r → byte_by g dump (r ∷ rows) (stretch_bytes * k + i) ≡ 0
  unfolding byte_by
  byte_before r k i rows h l = rw (begin_in k i h, lt-leb _ _ l)

  -- its valid bytes, where it begins before
  byte_within :
      (r k i : ℕ) (rows : List ℕ) →
      i < stretch_bytes →
      row_begin g.layout.«data» r ≤ stretch_bytes * k →
      byte_by g dump (r ∷ rows) (stretch_bytes * k + i) ≡ byte_of (valid_part g dump (copy_of r).page (copy_of r).valid) (stretch_bytes * k + i - row_begin g.layout.«data» r)
  unfolding byte_by
  byte_within r k i rows h l = rw (begin_in k i h, le-leb _ _ l)

  -- the part that shows it: an empty one
  pub part_before : (r k n : ℕ) → n ≤ stretch_bytes → stretch_bytes * k < row_begin g.layout.«data» r → Shows [] (byte_by g dump (r ∷ [])) (stretch_bytes * k) n
  part_before r k n h l = record { short = omega arith; at = λ i j. sym (byte_before r k i [] (omega arith) l) }

  -- or its valid bytes from there on
  pub part_within :
      (r k n begin : ℕ) (c : Copy) (bytes part : List ℕ) →
      n ≤ stretch_bytes →
      c ≡ copy_of r →
      begin ≡ row_begin g.layout.«data» r →
      begin ≤ stretch_bytes * k →
      bytes ≡ part_by g dump (looked.Copy (record { 0 = c.page }) c.valid 0 0) →
      part ≡ take n (drop (stretch_bytes * k - begin) bytes) →
      Shows part (byte_by g dump (r ∷ [])) (stretch_bytes * k) n
  unfolding part_by
  part_within r k n begin c bytes part h copy e l valid p =
      let s = part_shows bytes (stretch_bytes * k - begin) n in
      record {
        short = rw p s.short;
        at = λ i j.
            let x : stretch_bytes * k - begin + i ≡ stretch_bytes * k + i - begin = omega arith in
            rw p (s.at i j ∙ rw (x, valid, copy, e) (sym (byte_within r k i [] (omega arith) (omega arith))));
      }

-- the line of a stretch that differs
pub line_differs : (differs : Bool) (k : ℕ) → differs ≡ true → line_if differs k ≡ line_of (bytes_of "stretch=") k
unfolding lines_of
line_differs differs k e = rw e

-- and none of one that does not differ
pub line_same : (differs : Bool) (k : ℕ) → differs ≡ false → line_if differs k ≡ []
line_same differs k e = rw e

-- of the rows, those that stand at stretch k are found from row i on
pub record Stands (P : ℕ) (rows : List ℕ) (k i : ℕ) : Type 0 where
  pub inside : i ≤ length rows
  pub found : standing P (stretch_bytes * k) rows ≡ standing P (stretch_bytes * k) (drop i rows)

module _ (P : ℕ) (rows : List ℕ) where
  -- at the begin all are left
  pub stands_first : (k : ℕ) → Stands P rows k 0
  stands_first k = record { inside = zero-le; found = refl }

  -- row j is the first that stands
  pub stands_at_lem : {k i : ℕ} (j : ℕ) → Stands P rows k i → drop j rows ≡ standing P (stretch_bytes * k) (drop i rows) → standing P (stretch_bytes * k) rows ≡ drop j rows
  stands_at_lem j s e = s.found ∙ sym e

  -- so for a later stretch the search begins there
  pub stands_on : (k l j : ℕ) → k ≤ l → j ≤ length rows → standing P (stretch_bytes * k) rows ≡ drop j rows → Stands P rows l j
  stands_on k l j h n e =
      record { inside = n; found = standing_later P (stretch_bytes * k) (stretch_bytes * l) rows (omega arith) ∙ ap (standing P (stretch_bytes * l)) e }

module _ (g : Geometry) (dump : List ℕ) where
  -- a copy without bytes shows none
  no_bytes : (p : ℕ) → valid_part g dump p 0 ≡ []
  unfolding valid_part
  no_bytes p = by_test (page_in g (length dump) p && leb 0 g.layout.«data») _ (λ t. rw t) (λ t. rw t)

  -- where there is no row, row 0 shows the same: zeros
  byte_none : (x : ℕ) → byte_by g dump [] x ≡ byte_by g dump (0 ∷ []) x
  unfolding byte_by
  byte_none x = by_test (leb (row_begin g.layout.«data» 0) (stretch_begin x)) _ (λ t. rw (t, no_bytes)) (λ t. rw t)

  -- so what the rows from i on show is what row i does
  byte_row : (i x : ℕ) (rows : List ℕ) → byte_by g dump (drop i rows) x ≡ byte_by g dump (get_or rows i 0 ∷ []) x
  unfolding byte_by
  byte_row i x rows =
      ⊎_elim
      (λ h. rw (drop_of_length-le rows h, get_or-eq_default rows 0 h) (byte_none x))
      (λ h. rw (drop-cons rows i 0 h))
      (le_or_lt (length rows) i)

  -- the first of some rows still stands where it has not begun, and shows zeros
  quiet :
      (L : List ℕ) (l d last : ℕ) →
      l < begins_in g.layout.«data» last L →
      d < stretch_bytes →
      byte_by g dump (standing g.layout.«data» (stretch_bytes * l) L) (stretch_bytes * l + d) ≡ 0
  unfolding byte_by
  quiet [] l d last b n = rw (standing_nil g.layout.«data» (stretch_bytes * l))
  quiet (r ∷ L) l d last b n =
      let P = g.layout.«data» in
      let before : stretch_bytes * l < row_begin P r = omega arith in
      rw (standing_first P (stretch_bytes * l) r L (omega arith)) (byte_before g dump r l d L n before)

  module _ (rows : List ℕ) (k : ℕ) where
    -- what rows show in a stretch, by the first that stands there
    shows-row :
        (i d row : ℕ) →
        standing g.layout.«data» (stretch_bytes * k) rows ≡ drop i rows →
        row ≡ get_or rows i 0 →
        d < stretch_bytes →
        rows_show g dump rows (stretch_bytes * k + d) ≡ byte_by g dump (row ∷ []) (stretch_bytes * k + d)
    unfolding rows_show
    shows-row i d row e f h = rw (begin_in k d h, e, f) (byte_row i (stretch_bytes * k + d) rows)

    -- before the begin of the first that stands: zeros
    shows_nothing :
        (L : List ℕ) (l d last : ℕ) →
        standing g.layout.«data» (stretch_bytes * k) rows ≡ L →
        k ≤ l →
        l < begins_in g.layout.«data» last L →
        d < stretch_bytes →
        rows_show g dump rows (stretch_bytes * l + d) ≡ 0
    unfolding rows_show
    shows_nothing L l d last e h b n =
        let P = g.layout.«data» in
        let later = standing_later P (stretch_bytes * k) (stretch_bytes * l) rows (omega arith) ∙ ap (standing P (stretch_bytes * l)) e in
        rw (begin_in l d n, later) (quiet L l d last b n)

module _ (test : ℕ → Bool) where
  -- the lines of those stretches below n that pass a test
  abbrev pub stretch_lines : (stretches : ℕ) → List ℕ
  stretch_lines n = lines_to lines_of stretch test (λ k. k) n

  -- where none of the next stretches passes
  lines_still : (k n : ℕ) → ((l : ℕ) → k ≤ l → l < k + n → test l ≡ false) → stretch_lines (k + n) ≡ stretch_lines k
  lines_still k zero none = rw add-zero
  lines_still k (suc n) none =
      rw (← add-one n, ← add_assoc)
      (lines_more lines_of stretch test (λ k. k) (k + n) ∙ rw (none (k + n) (omega arith) (omega arith), append-nil) (lines_still k n (λ l h j. none l h (omega arith))))

  -- the line of stretch k, where none passes behind it up to the next
  lines_on : (k next : ℕ) → k < next → ((l : ℕ) → k < l → l < next → test l ≡ false) → stretch_lines next ≡ stretch_lines k ++ line_if (test k) k
  lines_on k next h none =
      let e : next ≡ k + 1 + (next - (k + 1)) = omega arith in
      ap stretch_lines e ∙ lines_still (k + 1) (next - (k + 1)) (λ l j n. none l (omega arith) (omega arith)) ∙ lines_more lines_of stretch test (λ k. k) k

-- two sides
module _ (g : Geometry) (dump rows : List ℕ) (g' : Geometry) (dump' rows' : List ℕ) (m : ℕ) where
  -- whether stretch k differs
  abbrev pub differs : (stretch : ℕ) → Bool
  differs k = stretch_differs (rows_show g dump rows) (rows_show g' dump' rows') m k

  module _ (k i j : ℕ) (e : standing g.layout.«data» (stretch_bytes * k) rows ≡ drop i rows) (e' : standing g'.layout.«data» (stretch_bytes * k) rows' ≡ drop j rows') where
    -- by the first rows that stand there
    differs-here :
        (row row' : ℕ) →
        row ≡ get_or rows i 0 →
        row' ≡ get_or rows' j 0 →
        differs k ≡ stretch_differs (byte_by g dump (row ∷ [])) (byte_by g' dump' (row' ∷ [])) m k
    differs-here row row' f f' =
        differ_same _ _ _ _ (stretch_bytes * k) (stretch_bytes * k) (min stretch_bytes (m - stretch_bytes * k))
        (λ d h. shows-row g dump rows k i d row e f (omega arith))
        (λ d h. shows-row g' dump' rows' k j d row' e' f' (omega arith))

    -- and none differs that both begin behind
    differs-not :
        (l last : ℕ) →
        k ≤ l →
        l < begins_in g.layout.«data» last (drop i rows) →
        l < begins_in g'.layout.«data» last (drop j rows') →
        differs l ≡ false
    differs-not l last h b b' =
        differ_equal _ _ (stretch_bytes * l) (min stretch_bytes (m - stretch_bytes * l))
        (λ d n.
        shows_nothing g dump rows k (drop i rows) l d last e h b (omega arith)
        ∙ sym (shows_nothing g' dump' rows' k (drop j rows') l d last e' h b' (omega arith)))

    -- a turn: stretch k is compared, and those up to the next are passed over
    pub turn :
        {before mid after : List ℕ} {at from to : ℕ} (row row' a b last next : ℕ) →
        row ≡ get_or rows i 0 →
        row' ≡ get_or rows' j 0 →
        a ≡ begins_in g.layout.«data» last (drop i rows) →
        b ≡ begins_in g'.layout.«data» last (drop j rows') →
        next ≡ max (k + 1) (min (min a b) last) →
        Put (stretch_lines differs k) before at mid from →
        Put (line_if (stretch_differs (byte_by g dump (row ∷ [])) (byte_by g' dump' (row' ∷ [])) m k) k) mid from after to →
        Put (stretch_lines differs next) before at after to
    turn row row' a b last next f f' p q n one more =
        let e =
        lines_on differs k next (omega arith) (λ l h t. differs-not l last (omega arith) (omega arith) (omega arith))
        ∙ ap (λ (x : Bool). stretch_lines differs k ++ line_if x k) (differs-here row row' f f')
        in
        rw e (also one more)

  -- the stretches below k are done, and the rows that stand at stretch k are found from rows i and j on
  pub record Sofar (before : List ℕ) (at end : ℕ) (after : List ℕ) (next k i j : ℕ) : Type 0 where
    pub inside : k ≤ end
    pub one : Stands g.layout.«data» rows k i
    pub other : Stands g'.layout.«data» rows' k j
    pub put : Put (stretch_lines differs k) before at after next
