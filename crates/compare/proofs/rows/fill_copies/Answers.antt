use Prim.Native.Nat.{ℕ, ◌+◌, ◌-◌}
use mathlib.Core.List.{List, ◌++◌}
use mathlib.Core.Path.{◌≡◌, sym, ap, ◌∙◌}
use native.Mathlib.Omega.{arith}
use lib.ListN.{take, drop}
use Rattle.std.proofs.lemmas.List.{take_rest}
use Rattle.page.specs.Records.{record_at}
use Rattle.compare.specs.Rows.{copies_in}
use Rattle.compare.proofs.Filling.{part_length, Turn, turn_at, fill_end}
use Rattle.compare.proofs.rows.fill_copies.Goals as goal
use Rattle.compare.proofs.rows.fill_copies.Goals.{After-run_of}

turn : (k : After-run_of) → let q = k.loop-i in
    let a = k.args in
    Turn a.g a.dump.now a.pages a.g.layout.«data» a.order.now q.copies q.i k.run_of.result
turn k =
    let q = k.loop-i in
    let s = k in
    let a = s.args in
    turn_at a.g a.dump.now a.pages a.g.layout.«data» s.requires.dump_value a.order.now s.requires.order_value q.copies q.i q.invariant.1
    k.loop-i-test.true _ k.run_of.result k.key_of-o.ensures (rw take_rest at k.run_of.ensures)

pub fill_run-requires : goal.fill_run-requires
fill_run-requires c =
    let q = c.loop-i in
    let t = turn (goal.at.fill_run-requires c).After-run_of in
    let l = part_length c.args.order.now q.i c.run_of.result t.inside in
    let m = part_length q.copies q.i c.run_of.result (omega (arith, t.inside, q.invariant.1.long)) in record { dump_value = c.requires.dump_value; list_len_bound = omega (arith, l, t.few); rows_len = m ∙ sym l; list_in_bounds = omega (arith, l, t.inside, q.invariant.0, c.requires.order_in_bounds) }

pub loop-i-preserved : goal.loop-i-preserved
loop-i-preserved c =
    let q = c.loop-i in
    let a = c.args in
    let t = turn (goal.at.loop-i-preserved c).After-run_of in
    let r : q.i + c.run_of.result - q.i ≡ c.run_of.result = omega arith in
    let e = rw r at c.fill_run.ensures in (
      c.fill_run.auto.work ∙ q.invariant.0,
      t.onward _
          (rw r
          (ap (λ (l : List ℕ). take q.i q.copies ++ (l ++ drop c.run_of.result (drop q.i q.copies)))
          (e ∙ ap (copies_in (record_at a.g a.dump.now) a.g.layout.«data») t.words))),
    )

pub returns : goal.returns
returns c =
    let q = c.loop-i in
    let a = c.args in
    fill_end a.g a.dump.now a.pages a.g.layout.«data» c.requires.dump_value a.order.now c.requires.order_value q.copies q.i q.invariant.1 c.loop-i-test.false

pub overflow_add-end : goal.overflow_add-end
overflow_add-end c = omega (arith, (turn c).inside)

pub slice_bounds-fill_run-end : goal.slice_bounds-fill_run-end
slice_bounds-fill_run-end c = omega (arith, (turn c).inside)

pub loop-i-smaller : goal.loop-i-smaller
loop-i-smaller c = omega (arith, (turn (goal.at.loop-i-smaller c).After-run_of).some)
