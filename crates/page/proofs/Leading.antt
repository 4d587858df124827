-- Laws of the highest score. Candidates are gone through in some order, and one of them leads: none so far has a higher score, and none so far
-- that stands before it in the table as high a one. Table order settles equal scores, so a candidate needs one more than the best to lead before
-- an earlier one, and as much to lead before a later one. Once all have had their turn the leader has won.
use Prim.Native.Nat.{ℕ, zero, suc, ◌+◌, ◌≤◌, ◌<◌, zero-le}
use Rattle.std.specs.Prelude.{Ok, Err}
use mathlib.Core.Bool.{Bool, true, false}
use mathlib.Core.Path.{◌≡◌, refl, ◌∙◌}
use mathlib.Core.Logic.{⊎_elim}
use native.Mathlib.Nat.{le_antisymm, le_of_suc-le-suc, eq-or-lt_of_le, le_trans, le-max_left, le-max_right, max-le}
use native.Mathlib.Numerals.{add-one}
use native.Mathlib.Omega.{arith}
use lib.Dec.{eqb, ltb}
use borrow.Author.Tests.{ltb-true, ltb-false, lt-ltb, le-ltb, eqb-true, eq-eqb, ne_eqb}
use Rattle.page.specs.Search.{first_from}
use Rattle.page.specs.Layouts.{layouts, layout_at}
use Rattle.page.specs.Find.{highest, winner, winner_of}
use Rattle.page.specs.Leaving.{in_turn, need_of}
use Rattle.page.specs.declared.refusal.Refusal.TheVariants.{NoLayout}
use Rattle.page.proofs.Searching.{by_test, one_more}

-- the guess has the first turn, the first of the table that of the guess, and any other its own
module _ (guess : ℕ) where
  turn_first : in_turn guess 0 ≡ guess
  unfolding in_turn
  turn_first = refl

  turn_guess : in_turn guess guess ≡ 0
  unfolding in_turn
  turn_guess = by_test (eqb guess 0) _ (λ t. rw t (eqb-true guess 0 t)) (λ t. rw (t, eq-eqb guess guess refl))

  turn_other : (c : ℕ) → eqb c 0 ≡ false → eqb c guess ≡ false → in_turn guess c ≡ c
  unfolding in_turn
  turn_other c e f = rw (e, f)

  -- so that each has one
  pub in_turn_twice : (c : ℕ) → in_turn guess (in_turn guess c) ≡ c
  in_turn_twice c =
      by_test (eqb c 0) _
      (λ e. let z : c ≡ 0 = eqb-true c 0 e in rw (z, turn_first) turn_guess)
      (λ e. by_test (eqb c guess) _
      (λ f. let z : c ≡ guess = eqb-true c guess f in rw (z, turn_guess) turn_first)
      (λ f. rw (turn_other c e f) (turn_other c e f)))

pub in_turn_listed : (guess turn : ℕ) → guess < layouts → turn < layouts → in_turn guess turn < layouts
unfolding in_turn
in_turn_listed guess turn g h =
    by_test (eqb turn 0) _ (λ t. rw t g) (λ t. rw t (by_test (eqb turn guess) _ (λ s. rw s (omega arith)) (λ s. rw s h)))

-- what is needed to lead is the best so far, or one more
module _ (n found best : ℕ) where
  need_early : n < found → need_of n found best ≡ best
  unfolding need_of
  need_early h = rw (lt-ltb n found h)

  need_late : found ≤ n → need_of n found best ≡ best + 1
  unfolding need_of
  need_late h = rw (le-ltb n found h)

  need_between : (best ≤ need_of n found best) × (need_of n found best ≤ best + 1)
  need_between =
      by_test (ltb n found) _
      (λ t. rw (need_early (ltb-true _ _ t)) (omega arith, omega arith))
      (λ t. rw (need_late (ltb-false _ _ t)) (omega arith, omega arith))

-- the candidate that leads after some turns
pub record Leads (score order : ℕ → ℕ) (turns best found : ℕ) : Type 0 where
  pub within : found < layouts
  pub some : 0 < found → 0 < best
  pub here : 0 < best → score found ≡ best
  pub most : (t : ℕ) → t < turns → score (order t) ≤ best
  pub before : (t : ℕ) → t < turns → order t < found → score (order t) < best

-- before the first turn none leads
pub leads_none : (score order : ℕ → ℕ) → Leads score order 0 0 0
leads_none score order =
    record {
      within = omega arith;
      some = λ h. absurd (omega arith);
      here = λ h. absurd (omega arith);
      most = λ t h. absurd (omega arith);
      before = λ t h. absurd (omega arith);
    }

module _ {score order : ℕ → ℕ} {turns best found : ℕ} (l : Leads score order turns best found) where
  -- something is needed to lead
  pub need_some : 0 < need_of (order turns) found best
  need_some =
      by_test (ltb (order turns) found) _
      (λ t. let h : order turns < found = ltb-true _ _ t in rw (need_early _ _ best h) (l.some (omega arith)))
      (λ t. rw (need_late _ _ best (ltb-false _ _ t)) (omega arith))

  -- a candidate that does not reach it changes nothing
  pub leads_still : score (order turns) < need_of (order turns) found best → Leads score order (turns + 1) best found
  leads_still h =
      record {
        within = l.within;
        some = l.some;
        here = l.here;
        most = λ t g. one_more (λ i. score (order i) ≤ best) turns t g (omega (arith, (need_between (order turns) found best).1)) (l.most t);
        before = λ t g. one_more (λ i. order i < found → score (order i) < best) turns t g (λ early. rw (need_early (order turns) found best early) at h) (l.before t);
      }

  -- one that does leads
  pub leads_now : order turns < layouts → need_of (order turns) found best ≤ score (order turns) → Leads score order (turns + 1) (score (order turns)) (order turns)
  leads_now g h =
      record {
        within = g;
        some = λ _. omega (arith, need_some);
        here = λ _. refl;
        most = λ t b. one_more (λ i. score (order i) ≤ score (order turns)) turns t b (omega arith) (λ a. omega (arith, l.most t a, least));
        before = λ t b. one_more (λ i. order i < order turns → score (order i) < score (order turns)) turns t b (λ e. absurd (omega arith)) (earlier t);
      }
    where
      least : best ≤ score (order turns)
      least = omega (arith, (need_between (order turns) found best).0)

      earlier : (t : ℕ) → t < turns → order t < order turns → score (order t) < score (order turns)
      earlier t a b =
          by_test (ltb (order turns) found) _
          (λ e. let early : order turns < found = ltb-true _ _ e in omega (arith, l.before t a (omega arith), least))
          (λ e. omega (arith, l.most t a, need_late (order turns) found best (ltb-false _ _ e)))

-- no score is higher than the highest
pub highest_bounds : (score : ℕ → ℕ) (n c : ℕ) → c < n → score c ≤ highest score n
unfolding highest
highest_bounds score zero c h = absurd (omega arith)
highest_bounds score (suc n) c h =
    ⊎_elim
    (λ e. rw e (le-max_right (highest score n) (score n)))
    (λ less. le_trans (highest_bounds score n c less) (le-max_left (highest score n) (score n)))
    (eq-or-lt_of_le (le_of_suc-le-suc h))

-- which is no higher than what bounds them all
highest_most : (score : ℕ → ℕ) (n b : ℕ) → ((c : ℕ) → c < n → score c ≤ b) → highest score n ≤ b
unfolding highest
highest_most score zero b f = zero-le
highest_most score (suc n) b f = max-le (highest_most score n b (λ c h. f c (omega arith))) (f n (omega arith))

-- the first number that passes is the only one with none before it that does
pub first_is : (test : ℕ → Bool) (i n found : ℕ) → i ≤ found → found < i + n → test found ≡ true → ((c : ℕ) → c < found → test c ≡ false) → first_from test i n ≡ found
unfolding first_from
first_is test i zero found h g t f = absurd (omega arith)
first_is test i (suc n) found h g t f =
    ⊎_elim
    (λ q. let here : test i ≡ true = rw q t in rw here q)
    (λ less. rw (f i less) (first_is test (i + 1) n found (omega arith) (omega arith) t f))
    (eq-or-lt_of_le h)

-- the candidate that has won
pub record Won (score : ℕ → ℕ) (best found : ℕ) : Type 0 where
  pub top : best ≡ highest score layouts
  pub within : found < layouts
  pub here : 0 < best → score found ≡ best
  pub before : (c : ℕ) → c < found → score c < best

-- is the one that leads once all have had their turn
pub leads_won :
    {score order : ℕ → ℕ} {best found : ℕ} → ((c : ℕ) → order (order c) ≡ c) → ((c : ℕ) → c < layouts → order c < layouts) →
    Leads score order layouts best found → Won score best found
leads_won {score} {order} {best} {found} twice listed l =
    record {
      top = le_antisymm low (highest_most score layouts best (λ c h. rw (twice c) at (l.most (order c) (listed c h))));
      within = l.within;
      here = l.here;
      before = λ c h.
          let in_table : c < layouts = omega (arith, l.within) in
          rw (twice c) at (l.before (order c) (listed c in_table)) h;
    }
  where
    low : best ≤ highest score layouts
    low =
        by_test (ltb 0 best) _
        (λ t. let h : 0 < best = ltb-true _ _ t in omega (arith, l.here h, highest_bounds score layouts found l.within))
        (λ t. let h : best ≤ 0 = ltb-false _ _ t in omega arith)

module _ {score : ℕ → ℕ} {best found : ℕ} (w : Won score best found) where
  -- it is the first with the highest score
  pub found_wins : 0 < best → winner score ≡ found
  unfolding winner
  found_wins some =
      first_is _ 0 layouts found zero-le w.within
      (eq-eqb _ _ (w.here some ∙ w.top))
      (λ c less. ne_eqb (score c) (highest score layouts) (λ e. let b = w.before c less in omega (arith, e, w.top)))

  -- it is the answer, if it has a score
  pub won_named : 0 < best → winner_of score ≡ Ok (layout_at found)
  unfolding winner_of
  won_named some = rw (← w.top, ne_eqb best 0 (λ e. omega arith), found_wins some)

  -- and if it has none, no candidate fits
  pub won_refused : best ≡ 0 → winner_of score ≡ Err NoLayout
  unfolding winner_of
  won_refused none = rw (← w.top, eq-eqb best 0 none)

-- some candidate has won
pub record Winner (score : ℕ → ℕ) : Type 0 where
  pub best : ℕ
  pub found : ℕ
  pub won : Won score best found

record Leader (score : ℕ → ℕ) (turns : ℕ) : Type 0 where
  best : ℕ
  found : ℕ
  leads : Leads score (λ c. c) turns best found

leader : (score : ℕ → ℕ) (turns : ℕ) → turns ≤ layouts → Leader score turns
leader score zero h = record { best = 0; found = 0; leads = leads_none score (λ c. c) }
leader score (suc n) h =
    let l = leader score n (omega arith) in
    by_test (ltb (score n) (need_of n l.found l.best)) _
    (λ e. record { best = l.best; found = l.found; leads = rw (← add-one) (leads_still l.leads (ltb-true _ _ e)) })
    (λ e. record { best = score n; found = n; leads = rw (← add-one) (leads_now l.leads h (ltb-false _ _ e)) })

pub winning : (score : ℕ → ℕ) → Winner score
winning score =
    let l = leader score layouts (omega arith) in
    record { best = l.best; found = l.found; won = leads_won (λ c. refl) (λ c h. h) l.leads }
