use Prim.Native.Nat.{◌+◌, ◌-◌, ◌^◌, ◌<◌}
use mathlib.Core.Bool.{true}
use mathlib.Core.Path.{◌≡◌, sym, ◌∙◌}
use native.Mathlib.Omega.{arith}
use Rattle.page.specs.Layouts.{layouts, roomy}
use Rattle.page.specs.Find.{candidate_score}
use Rattle.page.proofs.Layouts.{row_roomy, roomy_facts}
use Rattle.page.proofs.Lengths.{block_some}
use Rattle.page.proofs.Leading.{in_turn_twice, in_turn_listed, need_some, leads_still, leads_now, Won, leads_won, won_named, won_refused}
use Rattle.page.proofs.Leaving.{Underway, under_none, under_on, under_lost, under_won, under_fits}
use Rattle.page.proofs.find.best_of.Goals as goal
use Rattle.page.proofs.find.best_of.Goals.{After-in_turn-n, After-row, After-need_of-need, At-blocks-2, Else-next-pages, After-gain_in-gain}

-- the candidate is one of the table
listed : (c : After-in_turn-n) → c.in_turn-n.result < layouts
listed c = rw c.in_turn-n.ensures (in_turn_listed c.guess-first.result c.candidates.turn c.guess-first.ensures c.candidates-test.true)

-- and has room
room : (c : After-row) → roomy c.row.result ≡ true
room c =
    let listed : c.in_turn-n.result < layouts = rw c.in_turn-n.ensures (in_turn_listed c.guess-first.result c.candidates.turn c.guess-first.ensures c.candidates-test.true) in
    rw c.row.ensures (row_roomy c.in_turn-n.result listed)

pub pages_under-pages-requires : goal.pages_under-pages-requires
pages_under-pages-requires c = record { layout_value = room c; block_value = c.requires.k_value; len_value = c.requires.dump_value }

-- something is needed to lead
some : (c : After-need_of-need) → 0 < c.need_of-need.result
some c = rw (c.need_of-need.ensures, c.in_turn-n.ensures) (need_some c.candidates.invariant.2)

pub blocks-2-init : goal.blocks-2-init
blocks-2-init c =
    let size = roomy_facts c.row.result (room (goal.at.blocks-2-init c).After-row) in
    under_none c.args.dump.now c.args.k c.in_turn-n.result (record { layout = c.row.result; block = c.args.k }) c.pages_under-pages.result
    (rw c.row.ensures) c.pages_under-pages.ensures (block_some c.args.k c.requires.k_value) (omega arith) c.requires.dump_value

pub is_lost-requires : goal.is_lost-requires
is_lost-requires c = (under_fits c.blocks-2.invariant).0

-- a turn ends
turn-less : (c : At-blocks-2) → 13 - (c.candidates.turn + 1) < 13 - c.candidates.turn
turn-less c = omega (arith, c.candidates-test.true)

turn_few : (c : At-blocks-2) → c.candidates.turn + 1 < 2 ^ 32
turn_few c = omega (arith, c.candidates-test.true)

pub candidates-preserved-then-is_lost : goal.candidates-preserved-then-is_lost
candidates-preserved-then-is_lost c =
    let low = under_lost c.blocks-2.invariant c.need_of-need.result (some (goal.at.candidates-preserved-then-is_lost c).After-need_of-need) (sym c.is_lost.ensures ∙ c.if-is_lost.true) in (
      omega (arith, c.candidates-test.true),
      c.candidates.invariant.1,
      (leads_still c.candidates.invariant.2 (rw (c.need_of-need.ensures, c.in_turn-n.ensures) at low)),
    )

-- blocks are left
more : (c : Else-next-pages) → c.blocks-2.next < c.pages_under-pages.result
more c = let t = c.blocks-2.invariant.through in omega (arith, t.within, c.if-next-pages.false)

-- the candidate, one block on
on : (c : After-gain_in-gain) → let a = c.args in
    Underway a.dump.now a.k c.in_turn-n.result (record { layout = c.row.result; block = a.k }) c.pages_under-pages.result (c.blocks-2.next + a.k) (c.blocks-2.score + c.gain_in-gain.result.score) (c.blocks-2.marked + c.gain_in-gain.result.marked)
on c =
    let more : c.blocks-2.next < c.pages_under-pages.result = let t = c.blocks-2.invariant.through in omega (arith, t.within, c.if-next-pages.false) in
    under_on c.blocks-2.invariant c.gain_in-gain.result more c.gain_in-gain.ensures

pub overflow_add-score : goal.overflow_add-score
overflow_add-score c = omega (arith, (under_fits (on (goal.at.overflow_add-score c).After-gain_in-gain)).1)

pub overflow_add-marked : goal.overflow_add-marked
overflow_add-marked c = omega (arith, (under_fits (on (goal.at.overflow_add-marked c).After-gain_in-gain)).2)

pub blocks-2-preserved : goal.blocks-2-preserved
blocks-2-preserved c = on (goal.at.blocks-2-preserved c).After-gain_in-gain

pub candidates-preserved : goal.candidates-preserved
candidates-preserved c =
    let high = under_won c.blocks-2.invariant c.need_of-need.result c.if-next-pages.true (sym c.is_lost.ensures ∙ c.if-is_lost.false) in (
      omega (arith, c.candidates-test.true),
      (under_fits c.blocks-2.invariant).1,
      rw (← high.1, c.in_turn-n.ensures)
          (leads_now c.candidates.invariant.2 (rw c.in_turn-n.ensures at (listed (goal.at.candidates-preserved c).After-in_turn-n)) (rw (c.need_of-need.ensures, ← high.1, c.in_turn-n.ensures) at high.0)),
    )

pub returns-then-best-eq0 : goal.returns-then-best-eq0
returns-then-best-eq0 c = let behind : let q = c.candidates in let a = c.args in Won (candidate_score a.dump.now a.k) q.best q.found = let e : c.candidates.turn ≡ layouts = omega (arith, c.candidates-test.false) in leads_won (in_turn_twice c.guess-first.result) (λ n h. in_turn_listed c.guess-first.result n c.guess-first.ensures h) (rw e at c.candidates.invariant.2) in
    sym (won_refused behind c.if-best-eq0.true)

pub returns : goal.returns
returns c = let behind : let q = c.candidates in let a = c.args in Won (candidate_score a.dump.now a.k) q.best q.found = let e : c.candidates.turn ≡ layouts = omega (arith, c.candidates-test.false) in leads_won (in_turn_twice c.guess-first.result) (λ n h. in_turn_listed c.guess-first.result n c.guess-first.ensures h) (rw e at c.candidates.invariant.2) in
    rw c.row-2.ensures (sym (won_named behind (omega (arith, c.if-best-eq0.false))))

pub row-requires : goal.row-requires
row-requires c = listed c
