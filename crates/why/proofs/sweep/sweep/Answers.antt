use Prim.Native.Nat.{◌<◌, ◌≤◌}
use mathlib.Core.Path.{◌≡◌, sym, ◌∙◌}
use native.Mathlib.Omega.{arith}
use lib.ListN.{get_or, length}
use Rattle.page.specs.Records.{record_at}
use Rattle.chunk.specs.Takes.{seen_by}
use Rattle.why.specs.Codes.{code_of}
use Rattle.why.specs.Marks.{places}
use Rattle.why.specs.Sweeps.{reason_seen}
use Rattle.why.proofs.InPlace.{SeenBelow, taken_below, sweep_none, mark_inside, code_below, sweep_goes, sweep_past, sweep_same, sweep_row, sweep_end, zeros_behind}
use Rattle.why.proofs.sweep.sweep.Goals as goal
use Rattle.why.proofs.sweep.sweep.Goals.{After-place_of-x, After-code-code, then-goes_on-via-then-goes_on, then-goes_on-via-else-goes_on+then-size-x}

pub bounds-rows-j : goal.bounds-rows-j
bounds-rows-j c = omega (arith, c.loop-j.invariant.long, c.loop-j-test.true)

-- the place of the mark is before the last
inside : (c : After-place_of-x) → c.place_of-x.result < places
inside c =
    let q = c.loop-j in
    rw c.place_of-x.ensures
    (mark_inside q.invariant c.requires.every c.loop-j-test.true)

pub loop-j-preserved-then-goes_on : goal.loop-j-preserved-then-goes_on
loop-j-preserved-then-goes_on c =
    let q = c.loop-j in
    elim c.then-goes_on.branch [
      | then-goes_on-via-then-goes_on w ↦
          sweep_goes q.invariant c.loop-j-test.true c.taking-seen.ensures c.place_of-x.ensures (sym c.goes_on.ensures ∙ w.if-goes_on.true)
      | then-goes_on-via-else-goes_on+then-size-x w ↦
          sweep_past q.invariant c.loop-j-test.true c.taking-seen.ensures c.place_of-x.ensures (sym c.goes_on.ensures ∙ w.if-goes_on.false) w.if-size-x.true
    ]

pub reason-requires : goal.reason-requires
reason-requires c = record { data_nonzero = c.requires.data_nonzero; x_lt_places = inside (goal.at.reason-requires c).After-place_of-x }

-- the code is that of the reason at the place
coded : (c : After-code-code) → let a = c.args in
    c.code-code.result ≡ code_of (reason_seen (seen_by a.t (record_at a.g a.dump.now)) a.g.layout.«data» c.taking-seen.result c.place_of-x.result)
coded c = rw (← c.reason.ensures) c.code-code.ensures

pub loop-j-preserved-then-code-last : goal.loop-j-preserved-then-code-last
loop-j-preserved-then-code-last c =
    let q = c.loop-j in
    sweep_same q.invariant c.loop-j-test.true c.taking-seen.ensures c.place_of-x.ensures (sym c.goes_on.ensures ∙ c.if-goes_on.false) c.if-size-x.false (coded (goal.at.loop-j-preserved-then-code-last c).After-code-code) c.if-code-last.true

pub row-requires : goal.row-requires
row-requires c =
    let q = c.loop-j in
    let a = c.args in
    let says = seen_by a.t (record_at a.g a.dump.now) in
    let b : SeenBelow c.taking-seen.result = rw c.taking-seen.ensures (taken_below says q.seen (get_or q.rows q.j 0) q.invariant.below) in
    record { place_lt_places = inside (goal.at.row-requires c).After-place_of-x; code_lt_code_values = rw (coded (goal.at.row-requires c).After-code-code) (code_below says a.g.layout.«data» c.taking-seen.result c.place_of-x.result b) }

pub loop-j-preserved : goal.loop-j-preserved
loop-j-preserved c =
    let q = c.loop-j in
    sweep_row q.invariant c.loop-j-test.true c.taking-seen.ensures c.place_of-x.ensures (sym c.goes_on.ensures ∙ c.if-goes_on.false) c.if-size-x.false (coded (goal.at.loop-j-preserved c).After-code-code) c.if-code-last.false c.row.ensures

pub bounds-rows-at : goal.bounds-rows-at
bounds-rows-at c =
    let q = c.loop-j in
    omega (arith, q.invariant.order, q.invariant.long, c.loop-j-test.true)

pub returns : goal.returns
returns c =
    let q = c.loop-j in
    let fits : q.at ≤ length q.rows = omega (arith, q.invariant.order, q.invariant.long, c.loop-j.auto.j-end) in
    let told = sweep_end q.invariant fits (zeros_behind q.at q.rows _ fits (c.fill.ensures.after (λ y e. e))) c.loop-j-test.false in
    record { value = told.0; rows_after = told.1 }

pub loop-j-init : goal.loop-j-init
loop-j-init c = sweep_none _ _ _ _
