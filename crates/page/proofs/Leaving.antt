-- Laws of a candidate that is left before its end. Each page left adds at most one to the score, and where it does it is one more that is not
-- blank. So a candidate that is lost does not reach what it needs, and one that is gone through and not lost does.
use Prim.Native.Nat.{ℕ, zero, suc, ◌+◌, ◌-◌, ◌*◌, ◌%◌, ◌^◌, ◌≤◌, ◌<◌, zero-le}
use mathlib.Core.Bool.{Bool, true, false}
use mathlib.Core.List.{List}
use mathlib.Core.Logic.{◌⊎◌, inl, inr, ⊎_elim}
use mathlib.Core.Path.{◌≡◌, refl, sym, ◌∙◌}
use native.Mathlib.Nat.{add-zero, zero-mod, div-le_self}
use native.Mathlib.Omega.{arith}
use lib.Dec.{ltb, leb}
use lib.ListN.{length}
use borrow.Author.Tests.{ltb-true, ltb-false, leb-false, le-leb, lt-leb}
use Rattle.page.specs.Search.{count, more}
use Rattle.page.specs.Layouts.{page_len}
use Rattle.page.specs.Lengths.{length_fits, whole_blocks}
use Rattle.page.specs.Tags.{claim_at}
use Rattle.page.specs.Find.{candidate_at, is_marked, bears_sequence, block_sequence, is_scored, score_of, marked_at, marked_of, score_fits, fitting_score, candidate_score}
use Rattle.page.specs.Leaving.{pages_under, Gained, is_lost, at_least}
use Rattle.page.specs.declared.find.Gain.{Gain}
use Rattle.page.specs.declared.geometry.Geometry.{Geometry}
use Rattle.page.specs.declared.tags.Claim.{Claim}
use Rattle.page.specs.declared.tags.Claim.TheVariants.{Blank, Foreign, Damaged, Header, Data}
use Rattle.page.proofs.Searching.{clash, by_test, pick_cases, count_step, count_none, count_le}
use Rattle.page.proofs.Lengths.{length_most}
use Rattle.page.proofs.Blocks.{Through, through_none, through_on, whole_pages}

-- one number more adds at most one to a count
more_by : (b : Bool) (m : ℕ) → more b m ≤ m + 1
more_by true m = omega arith
more_by false m = omega arith

-- and nothing that a test which holds wherever it does would not add
more_both : (b d : Bool) (x y : ℕ) → (b ≡ true → d ≡ true) → more b x + y ≤ x + more d y
more_both true true x y f = omega arith
more_both true false x y f = let z : ◌≡◌ {A = ℕ} 0 1 = let e = f refl in cc in absurd (omega arith)
more_both false true x y f = omega arith
more_both false false x y f = omega arith

-- m numbers more add at most m
pub count_by : (test : ℕ → Bool) (i m : ℕ) → count test (i + m) ≤ count test i + m
count_by test i zero = rw (add-zero i) (omega arith)
count_by test i (suc m) =
    let e : i + suc m ≡ i + m + 1 = omega arith in
    rw (e, count_step test (i + m)) (omega (arith, count_by test i m, more_by (test (i + m)) (count test (i + m))))

-- and no more than they add by a test which holds wherever that one does
count_both :
    (test other : ℕ → Bool) → ((i : ℕ) → test i ≡ true → other i ≡ true) → (i m : ℕ) →
    count test (i + m) + count other i ≤ count test i + count other (i + m)
count_both test other f i zero = rw (add-zero i) (omega arith)
count_both test other f i (suc m) =
    let e : i + suc m ≡ i + m + 1 = omega arith in
    rw (e, count_step test (i + m), count_step other (i + m))
    (omega (arith, count_both test other f i m, more_both (test (i + m)) (other (i + m)) (count test (i + m)) (count other (i + m)) (f (i + m))))

-- a page that bears a sequence is not blank
bears_marked : (s : ℕ) (c : Claim) → bears_sequence s c ≡ true → is_marked c ≡ true
unfolding bears_sequence
bears_marked s Blank e = e
bears_marked s Foreign e = refl
bears_marked s Damaged e = refl
bears_marked s (Header q o) e = refl
bears_marked s (Data d) e = refl

scored_marked : (said : ℕ → Claim) (k i : ℕ) → is_scored said k i ≡ true → marked_at said i ≡ true
unfolding is_scored
scored_marked said k i e = bears_marked (block_sequence said k i) (said i) e

-- a dump of an accepted length has few pages under any layout
pub pages_few : (g : Geometry) (n : ℕ) → length_fits n ≡ true → pages_under g n < 2 ^ 31
unfolding pages_under
pages_few g n h =
    by_test (whole_blocks g n) _
    (λ t. rw t (omega (arith, length_most n h, div-le_self n (page_len g.layout))))
    (λ t. rw t (omega arith))

-- and they come out even
pages_even : (g : Geometry) (n : ℕ) → 0 < g.block → 0 < page_len g.layout → pages_under g n % g.block ≡ 0
unfolding pages_under
pages_even g n h long = by_test (whole_blocks g n) _ (λ t. rw t (whole_pages g n h long t)) (λ t. rw t (zero-mod g.block))

-- no page, no score
fitting_none : (said : ℕ → Claim) (k : ℕ) → fitting_score said k 0 ≡ 0
unfolding fitting_score
fitting_none said k = by_test (score_fits (score_of said k 0) (marked_of said 0)) _ (λ t. rw (t, count_none (is_scored said k))) (λ t. rw t)

-- so that a candidate's score is that of these pages, whether it divides the dump or not
pub score_pages : (dump : List ℕ) (k c : ℕ) → candidate_score dump k c ≡ fitting_score (claim_at (candidate_at k c) dump) k (pages_under (candidate_at k c) (length dump))
unfolding candidate_score pages_under
score_pages dump k c =
    by_test (whole_blocks (candidate_at k c) (length dump)) _
    (λ t. rw t)
    (λ t. rw t (sym (fitting_none (claim_at (candidate_at k c) dump) k)))

-- a score that is too low beside the pages that are not blank does not fit
unfit : (said : ℕ → Claim) (k n : ℕ) → 2 * score_of said k n < marked_of said n → fitting_score said k n ≡ 0
unfolding fitting_score score_fits
unfit said k n h = rw (lt-leb (marked_of said n) (2 * score_of said k n) h) (by_test (leb 1 (score_of said k n)) _ (λ t. rw t) (λ t. rw t))

-- and one that is not is the candidate's, be it 0
fit : (said : ℕ → Claim) (k n : ℕ) → marked_of said n ≤ 2 * score_of said k n → fitting_score said k n ≡ score_of said k n
unfolding fitting_score score_fits
fit said k n h =
    by_test (leb 1 (score_of said k n)) _
    (λ t. rw (t, le-leb (marked_of said n) (2 * score_of said k n) h))
    (λ t. let z : score_of said k n < 1 = leb-false 1 (score_of said k n) t in rw t (omega arith))

-- a candidate's score is no higher than its pages'
fitting_le : (said : ℕ → Claim) (k n : ℕ) → fitting_score said k n ≤ score_of said k n
unfolding fitting_score
fitting_le said k n = by_test (score_fits (score_of said k n) (marked_of said n)) _ (λ t. rw t (omega arith)) (λ t. rw t zero-le)

-- pages whose blocks before `next` are gone through
module _ {said : ℕ → Claim} {k pages next score marked : ℕ} (t : Through said k pages next score marked) where
  -- what the pages left can add
  left_score : score_of said k pages ≤ score + (pages - next)
  left_score =
      let e : next + (pages - next) ≡ pages = omega (arith, t.within) in
      let b = rw e at (count_by (is_scored said k) next (pages - next)) in
      omega (arith, b, t.scored)

  left_both : score_of said k pages + marked ≤ score + marked_of said pages
  left_both =
      let e : next + (pages - next) ≡ pages = omega (arith, t.within) in
      let b = rw e at (count_both (is_scored said k) (marked_at said) (scored_marked said k) next (pages - next)) in
      omega (arith, b, t.scored, t.counted)

  -- once they are lost they do not reach what they need, or do not fit
  pub through_lost : (need : ℕ) → is_lost score marked (pages - next) need ≡ true → (fitting_score said k pages < need) ⊎ (fitting_score said k pages ≡ 0)
  unfolding is_lost
  through_lost need lost =
      pick_cases (ltb (score + (pages - next)) need) true (ltb (2 * score + (pages - next)) marked) true _ lost
      (λ low _. let b : score + (pages - next) < need = ltb-true _ _ low in inl (omega (arith, fitting_le said k pages, left_score)))
      (λ _ high. let b : 2 * score + (pages - next) < marked = ltb-true _ _ high in inr (unfit said k pages (omega (arith, left_score, left_both))))

  -- gone through and not lost they do
  pub through_won : (need : ℕ) → next ≡ pages → is_lost score marked (pages - next) need ≡ false → (need ≤ score) × (fitting_score said k pages ≡ score)
  unfolding is_lost
  through_won need e won =
      let s : score ≡ score_of said k pages = t.scored ∙ rw e in
      let m : marked ≡ marked_of said pages = t.counted ∙ rw e in
      pick_cases (ltb (score + (pages - next)) need) true (ltb (2 * score + (pages - next)) marked) false _ won
      (λ _ z. clash (cc))
      (λ low high.
      let a : need ≤ score + (pages - next) = ltb-false _ _ low in
      let b : marked ≤ 2 * score + (pages - next) = ltb-false _ _ high in
      (omega arith, fit said k pages (omega arith) ∙ sym s))

  -- what is counted fits a word
  pub through_fits : (2 * score + (pages - next) < 2 ^ 32) × (score < 2 ^ 31) × (marked < 2 ^ 31) × (next < 2 ^ 31)
  through_fits =
      let s : score ≤ next = omega (arith, t.scored, count_le (is_scored said k) next) in
      let m : marked ≤ next = omega (arith, t.counted, count_le (marked_at said) next) in
      (omega (arith, t.few, t.within), omega (arith, t.few, t.within), omega (arith, t.few, t.within), omega (arith, t.few, t.within))

-- candidate n, whose blocks before `next` are gone through
pub record Underway (dump : List ℕ) (k n : ℕ) (g : Geometry) (pages next score marked : ℕ) : Type 0 where
  pub row : g ≡ candidate_at k n
  pub all : pages ≡ pages_under g (length dump)
  pub through : Through (claim_at g dump) k pages next score marked

-- at first none is
pub under_none :
    (dump : List ℕ) (k n : ℕ) (g : Geometry) (pages : ℕ) → g ≡ candidate_at k n → pages ≡ pages_under g (length dump) → 0 < k → 0 < page_len g.layout → length_fits (length dump) ≡ true →
    Underway dump k n g pages 0 0 0
under_none dump k n g pages row all some long fits =
    let even : pages_under g (length dump) % k ≡ 0 = rw row (pages_even (candidate_at k n) (length dump) some (rw row at long)) in
    record {
      row = row;
      all = all;
      through = through_none (claim_at g dump) k pages some (rw all (pages_few g (length dump) fits)) (rw all even);
    }

module _ {dump : List ℕ} {k n : ℕ} {g : Geometry} {pages next score marked : ℕ} (u : Underway dump k n g pages next score marked) where
  -- one block more
  pub under_on : (gain : Gain) → next < pages → Gained (claim_at g dump) k next gain → Underway dump k n g pages (next + k) (score + gain.score) (marked + gain.marked)
  under_on gain h a = record { row = u.row; all = u.all; through = through_on u.through gain.score gain.marked h a.scored a.counted }

  -- the candidate's score
  own_score_lem : candidate_score dump k n ≡ fitting_score (claim_at g dump) k pages
  own_score_lem = score_pages dump k n ∙ rw (u.all, u.row)

  -- a candidate that is lost does not reach what it needs
  pub under_lost : (need : ℕ) → 0 < need → is_lost score marked (pages - next) need ≡ true → candidate_score dump k n < need
  under_lost need some lost =
      rw own_score_lem
      (⊎_elim (λ less. less) (λ (none : fitting_score (claim_at g dump) k pages ≡ 0). omega arith) (through_lost u.through need lost))

  -- one that is gone through and is not does
  pub under_won : (need : ℕ) → next ≡ pages → is_lost score marked (pages - next) need ≡ false → (need ≤ score) × (candidate_score dump k n ≡ score)
  under_won need e won = let w = through_won u.through need e won in (w.0, own_score_lem ∙ w.1)

  pub under_fits : (2 * score + (pages - next) < 2 ^ 32) × (score < 2 ^ 31) × (marked < 2 ^ 31) × (next < 2 ^ 31)
  under_fits = through_fits u.through

-- a score of which at least so much is asked: reached, or not
module _ (need : ℕ) where
  pub at_least_lem : (s : ℕ) → need ≤ s → at_least need s ≡ s
  unfolding at_least
  at_least_lem s h = rw (le-leb need s h)

  pub not_least : (s : ℕ) → (s < need) ⊎ (s ≡ 0) → at_least need s ≡ 0
  unfolding at_least
  not_least s h = ⊎_elim (λ (less : s < need). rw (lt-leb need s less)) (λ (none : s ≡ 0). rw none (by_test (leb need 0) _ (λ t. rw t) (λ t. rw t))) h
