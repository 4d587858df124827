-- Marks put into words one behind another. A page makes no more than three, and none if it is no record of the object, so that they are bounded by the
-- pages and by the records; those of each page have room where all have.
use Prim.Native.Nat.{ℕ, zero, suc, ◌+◌, ◌*◌, ◌≤◌, ◌<◌, zero-le}
use Rattle.std.specs.Prelude.{Option, Some, None}
use mathlib.Core.Bool.{false}
use mathlib.Core.List.{List, [], ◌∷◌, ◌++◌, append-nil}
use mathlib.Core.Logic.{⊎_elim}
use mathlib.Core.Path.{◌≡◌, refl, sym, ap, ◌∙◌}
use native.Mathlib.Nat.{not-suc-le-zero, le_of_suc-le-suc, eq-or-lt_of_le}
use native.Mathlib.Numerals.{add-one}
use native.Mathlib.Omega.{arith}
use lib.Dec.{eqb, ltb, leb}
use lib.ListN.{length, drop, set, length-append}
use lib.Seq.{sets, length-sets, length_front, length-take-le, sets-eq, take-append_seam, drop-append-add, drop-drop, drop-set-lt}
use Rattle.page.specs.Numbers.{bad_chunk}
use Rattle.page.specs.declared.record.Record.{Record}
use Rattle.page.specs.declared.record.Record.TheVariants.{Other, Header, Data}
use Rattle.page.proofs.Searching.{by_test}
use Rattle.chunk.specs.Lists.{in_front}
use Rattle.chunk.specs.Newest.{records}
use Rattle.chunk.specs.Records.{is_of}
use Rattle.chunk.specs.Cuts.{cut_of}
use Rattle.chunk.proofs.Gathering.{gather_step, since_one, since_skip}
use Rattle.why.specs.Marks.{places, no_page, mark_of, cut_marks, marks_of, marks_to}
use Rattle.why.proofs.Marking.{marks_none, marks_suc}

-- words in front leave the length, and a run of stores may follow them
pub front_length : (ids words : List ℕ) → length ids ≤ length words → length (in_front ids words) ≡ length words
front_length ids words h = length_front words ids (length ids) (sym (length-take-le (length ids) words h))

pub front_sets : (ids words F : List ℕ) → length ids + length F ≤ length words → sets (in_front ids words) (length ids) F ≡ in_front (ids ++ F) words
front_sets ids words F h =
    let long = front_length ids words (omega arith) in
    let e : length ids + length F ≡ length (ids ++ F) = sym (length-append ids F) in
    sets-eq F (in_front ids words) (length ids) (omega arith)
    ∙ rw (take-append_seam ids (drop (length ids) words), drop-append-add ids (drop (length ids) words) (length F), drop-drop (length F) (length ids) words, e)

-- the first word stored
pub front_first : (w : List ℕ) (m : ℕ) → 0 < length w → set w 0 m ≡ in_front (m ∷ []) (set w 0 m)
front_first [] m h = absurd (not-suc-le-zero h)
front_first (x ∷ w) m h = refl

-- of object o, whose newest header is h
module _ (says : ℕ → Record) (P o h : ℕ) where
  -- a page makes at most three marks
  cut_few : (p : ℕ) (k : (Option ℕ)) → length (cut_marks p k) ≤ 3
  cut_few p None = zero-le
  cut_few p (Some a) = by_test (ltb a places) _ (λ t. rw t (omega arith)) (λ t. rw t (omega arith))

  -- whatever the page says
  of_few : (p : ℕ) (r : Record) → length (marks_of P o h p r) ≤ 3
  of_few p Other = zero-le
  of_few p (Header k) = by_test (eqb k.object.0 o) _ (λ t. rw t (cut_few p (cut_of (eqb p h) (Header k)))) (λ t. rw t (omega arith))
  of_few p (Data d) =
      by_test (eqb d.object.0 o) _
      (λ t.
      by_test (bad_chunk d.chunk.0) _
      (λ u. rw (t, u) (omega arith))
      (λ u. by_test (leb P d.count) _ (λ v. rw (t, u, v) (omega arith)) (λ v. rw (t, u, v) (omega arith))))
      (λ t. rw t (omega arith))

  -- one that is no record of the object makes none
  of_none : (p : ℕ) (r : Record) → is_of o r ≡ false → marks_of P o h p r ≡ []
  of_none p Other t = refl
  of_none p (Header k) t = rw t
  of_none p (Data d) t = rw t

  -- one page more
  pub marks_more : (n : ℕ) → marks_to says P o h (n + 1) ≡ marks_to says P o h n ++ marks_of P o h n (says n)
  unfolding marks_to
  marks_more n = gather_step (λ p marks. marks ++ marks_of P o h p (says p)) (mark_of 0 no_page ∷ []) n

  -- a page that is no record of the object adds none
  pub marks_same : (n : ℕ) → is_of o (says n) ≡ false → marks_to says P o h (n + 1) ≡ marks_to says P o h n
  marks_same n t = marks_more n ∙ ap (λ (r : List ℕ). marks_to says P o h n ++ r) (of_none n (says n) t) ∙ append-nil (marks_to says P o h n)

  -- they are counted page by page
  pub count_more : (n : ℕ) → length (marks_to says P o h (n + 1)) ≡ length (marks_to says P o h n) + length (marks_of P o h n (says n))
  count_more n = ap length (marks_more n) ∙ length-append (marks_to says P o h n) (marks_of P o h n (says n))

  count_suc : (n : ℕ) → length (marks_to says P o h (suc n)) ≡ length (marks_to says P o h n) + length (marks_of P o h n (says n))
  count_suc n = ap length (marks_suc says P o h n) ∙ length-append (marks_to says P o h n) (marks_of P o h n (says n))

  -- and begin with that of the file's begin
  pub count_none : length (marks_to says P o h 0) ≡ 1
  count_none = ap length (marks_none says P o h)

  -- how many marks there are at most, and at least
  pub marks_few : (n : ℕ) → length (marks_to says P o h n) ≤ 3 * n + 1
  marks_few zero = rw (marks_none says P o h) (omega arith)
  marks_few (suc n) = omega (arith, count_suc n, marks_few n, of_few n (says n))

  pub marks_some : (n : ℕ) → 0 < length (marks_to says P o h n)
  marks_some zero = rw (marks_none says P o h) (omega arith)
  marks_some (suc n) = omega (arith, count_suc n, marks_some n)

  -- no more than three for each of the object's records: a page that is none makes no mark
  pub marks_records : (n : ℕ) → length (marks_to says P o h n) ≤ 3 * records says o n + 1
  marks_records zero = rw (marks_none says P o h) (omega arith)
  marks_records (suc n) =
      by_test (is_of o (says n)) _
      (λ t. let s = since_one says o 0 n t zero-le in rw (← add-one n) (omega (arith, s, count_more n, marks_records n, of_few n (says n))))
      (λ t.
      let s = since_skip says o 0 n t in
      rw (← add-one n, marks_same n t) (omega (arith, s, marks_records n)))

  -- those of a page are among those of all
  pub marks_within : (n i : ℕ) → i < n → length (marks_to says P o h i) + length (marks_of P o h i (says i)) ≤ length (marks_to says P o h n)
  marks_within zero i b = absurd (not-suc-le-zero b)
  marks_within (suc n) i b =
      let e = count_suc n in
      ⊎_elim
      (λ (k : i ≡ n). rw k (omega arith))
      (λ (k : i < n). omega (arith, marks_within n i k))
      (eq-or-lt_of_le (le_of_suc-le-suc b))

  -- what holds when the marks of i of n pages stand in front of words that were w₀
  pub record Filled (n : ℕ) (w₀ w : List ℕ) (at i : ℕ) : Type 0 where
    pub inside : i ≤ n
    pub place : at ≡ length (marks_to says P o h i)
    pub long : length w ≡ length w₀
    pub front : w ≡ in_front (marks_to says P o h i) w₀

  -- the first stands there before any page
  pub fill_none : (n m : ℕ) (w : List ℕ) → m ≡ mark_of 0 no_page → 0 < length w → Filled n (set w 0 m) (set w 0 m) 1 0
  fill_none n m w e k =
      record {
        inside = zero-le;
        place = sym count_none;
        long = refl;
        front = front_first w m k ∙ ap (λ (r : List ℕ). in_front r (set w 0 m)) (ap (λ (y : ℕ). y ∷ []) e ∙ sym (marks_none says P o h));
      }

-- of which i are passed
module _ {says : ℕ → Record} {P o h n : ℕ} {w₀ w : List ℕ} {at i : ℕ} (f : Filled says P o h n w₀ w at i) where
  -- a page that is no record of the object is passed over
  pub fill_skip : i < n → is_of o (says i) ≡ false → Filled says P o h n w₀ w at (i + 1)
  fill_skip k t =
      let e = marks_same says P o h i t in
      record { inside = omega arith; place = f.place ∙ ap length (sym e); long = f.long; front = f.front ∙ ap (λ (r : List ℕ). in_front r w₀) (sym e) }

  module _ (room : length (marks_to says P o h n) ≤ length w₀) (k : i < n) {F : List ℕ} (e : F ≡ marks_of P o h i (says i)) where
    -- the next page's have room
    pub fill_room : at + length F ≤ length w
    fill_room = omega (arith, f.place, f.long, ap length e, marks_within says P o h n i k)

    -- and stand behind them once they are put
    pub fill_more : Filled says P o h n w₀ (sets w at F) (at + length F) (i + 1)
    fill_more =
        record {
          inside = omega arith;
          place = rw (f.place, e) (sym (count_more says P o h i));
          long = length-sets w at F ∙ f.long;
          front =
              rw (f.front, f.place, e)
              (front_sets (marks_to says P o h i) w₀ (marks_of P o h i (says i)) (omega (arith, marks_within says P o h n i k))
              ∙ ap (λ (r : List ℕ). in_front r w₀) (sym (marks_more says P o h i)));
        }

-- all pages are passed, where the first mark was stored before any
pub fill_end :
    {says : ℕ → Record} {P o h n : ℕ} (m : ℕ) (w₀ : List ℕ) {w : List ℕ} {at i : ℕ} → Filled says P o h n (set w₀ 0 m) w at i → n ≤ i →
    w ≡ in_front (marks_to says P o h n) w₀
fill_end {says} {P} {o} {h} {n} m w₀ {w} {at} {i} f k =
    let e : i ≡ n = omega (arith, f.inside) in
    rw e at f.front ∙ ap (λ (r : List ℕ). marks_to says P o h n ++ r) (drop-set-lt (length (marks_to says P o h n)) w₀ 0 m (marks_some says P o h n))
