-- Laws of finding the layout: a found layout fits and divides the dump, which is accepted under it; no candidate has a higher score and none
-- before it as high a one.
use Prim.Native.Nat.{ℕ, ◌≤◌, ◌<◌}
use Rattle.std.specs.Prelude.{Result, Ok, Err}
use Rattle.page.specs.declared.refusal.Refusal.{Refusal}
use mathlib.Core.Bool.{Bool, true, not}
use mathlib.Core.List.{List}
use mathlib.Core.Path.{◌≡◌, refl, sym}
use native.Mathlib.Omega.{arith}
use lib.Dec.{eqb}
use lib.ListN.{length}
use borrow.Author.Tests.{eqb-true, eqb-false, lt-leb, not-false}
use Rattle.page.specs.Layouts.{layouts, layout_at, number_of}
use Rattle.page.specs.Lengths.{geometry_of, block_fits, length_fits, whole_blocks, page_count, opened_of}
use Rattle.page.specs.Tags.{claim_at}
use Rattle.page.specs.Find.{candidate_at, score_of, marked_of, score_fits, fitting_score, candidate_score, winner_of, find_of}
use Rattle.page.specs.declared.layout.Layout.{Layout}
use Rattle.page.specs.declared.refusal.Refusal.TheVariants.{BadLayout, BadLength, NoLayout}
use Rattle.page.proofs.Searching.{clash, pick_cases, by_test}
use Rattle.page.proofs.Layouts.{row_listed}
use Rattle.page.proofs.Leading.{winning, highest_bounds, won_named, won_refused}

-- what the pages of a candidate score, and whether it fits
abbrev pub own_score : List ℕ → ℕ → ℕ → ℕ
own_score dump k c = score_of (claim_at (candidate_at k c) dump) k (page_count (candidate_at k c) (length dump))

abbrev pub own_fits : List ℕ → ℕ → ℕ → Bool
own_fits dump k c = score_fits (own_score dump k c) (marked_of (claim_at (candidate_at k c) dump) (page_count (candidate_at k c) (length dump)))

-- a candidate that divides the dump into whole blocks and fits, with its score
pub record Fitting (dump : List ℕ) (k c : ℕ) : Type 0 where
  pub divides : whole_blocks (candidate_at k c) (length dump) ≡ true
  pub fits : own_fits dump k c ≡ true
  pub scores : candidate_score dump k c ≡ own_score dump k c

-- is one that has a score
pub fitting : (dump : List ℕ) (k c : ℕ) → 0 < candidate_score dump k c → Fitting dump k c
unfolding candidate_score fitting_score
fitting dump k c h =
    pick_cases (whole_blocks (candidate_at k c) (length dump)) _ _ _ _ refl
    (λ d z. pick_cases (own_fits dump k c) _ _ _ _ z
    (λ f y. record { divides = d; fits = f; scores = sym y })
    (λ f y. absurd (omega arith)))
    (λ d z. absurd (omega arith))

-- and has one
pub fitting_scores : (dump : List ℕ) (k c : ℕ) → whole_blocks (candidate_at k c) (length dump) ≡ true → own_fits dump k c ≡ true → candidate_score dump k c ≡ own_score dump k c
unfolding candidate_score fitting_score
fitting_scores dump k c d f = rw (d, f)

-- an answer that is neither of the first refusals is the winner
past_refusals :
    (dump : List ℕ) (k : ℕ) (r : (Result Layout Refusal)) → (Err BadLayout ≡ r → ⊥) → (Err BadLength ≡ r → ⊥) → find_of dump k ≡ r → winner_of (candidate_score dump k) ≡ r
unfolding find_of
past_refusals dump k r f g e =
    pick_cases (not (block_fits k)) _ _ _ _ e (λ t z. absurd (f z)) (λ t z. pick_cases (not (length_fits (length dump))) _ _ _ _ z (λ u y. absurd (g y)) (λ u y. y))

-- a found layout is that of a candidate that fits; none has a higher score, and none before it as high a one
pub record Found (dump : List ℕ) (k : ℕ) (l : Layout) : Type 0 where
  pub number : ℕ
  pub listed : number < layouts
  pub row : layout_at number ≡ l
  pub fits : Fitting dump k number
  pub highest : (c : ℕ) → c < layouts → candidate_score dump k c ≤ candidate_score dump k number
  pub first : (c : ℕ) → c < number → candidate_score dump k c < candidate_score dump k number

pub found_is : (dump : List ℕ) (k : ℕ) (l : Layout) → find_of dump k ≡ Ok l → Found dump k l
found_is dump k l e =
    let w = past_refusals dump k (Ok l) (λ z. clash (cc)) (λ z. clash (cc)) e in
    let score = candidate_score dump k in
    let o = winning score in
    let t = o.won in
    by_test (eqb o.best 0) _
    (λ z. let r = won_refused t (eqb-true o.best 0 z) in clash (cc))
    (λ z.
    let q = eqb-false o.best 0 z in
    let some : 0 < o.best = omega arith in
    let r = won_named t some in
    let s = t.here some in
    record {
      number = o.found;
      listed = t.within;
      row = cc;
      fits = fitting dump k o.found (omega (arith, s));
      highest = λ c less. let b = highest_bounds score layouts c less in omega (arith, s, t.top);
      first = λ c less. let b = t.before c less in omega (arith, s);
    })

-- what finding refuses first: a block and a length that do not fit
first_tests : (dump : List ℕ) (k : ℕ) (l : Layout) → find_of dump k ≡ Ok l → (block_fits k ≡ true) × (length_fits (length dump) ≡ true)
unfolding find_of
first_tests dump k l e =
    pick_cases (not (block_fits k)) _ _ _ _ e (λ t z. clash (cc))
    (λ t z. pick_cases (not (length_fits (length dump))) _ _ _ _ z (λ u y. clash (cc)) (λ u y. (not-false _ t, not-false _ u)))

-- a dump is accepted under the layout that was found
pub found_opens :
    (dump : List ℕ) (k : ℕ) (l : Layout) → find_of dump k ≡ Ok l
    → opened_of (geometry_of l k) (length dump) ≡ Ok (page_count (geometry_of l k) (length dump))
unfolding opened_of
found_opens dump k l e =
    let f = found_is dump k l e in
    let t = first_tests dump k l e in
    rw (← f.row, lt-leb layouts (number_of (layout_at f.number)) (row_listed f.number f.listed), t.0, t.1, f.fits.divides)

-- where NoLayout is given, no candidate has a score
pub none_found : (dump : List ℕ) (k : ℕ) → find_of dump k ≡ Err NoLayout → (c : ℕ) → c < layouts → candidate_score dump k c ≡ 0
none_found dump k e c h =
    let w = past_refusals dump k (Err NoLayout) (λ z. clash (cc)) (λ z. clash (cc)) e in
    let o = winning (candidate_score dump k) in
    let b = highest_bounds (candidate_score dump k) layouts c h in
    by_test (eqb o.best 0) _
    (λ z. let q = eqb-true o.best 0 z in omega (arith, o.won.top))
    (λ z. let q = eqb-false o.best 0 z in let r = won_named o.won (omega arith) in clash (cc))
