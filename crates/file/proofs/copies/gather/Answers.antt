-- The keys are sorted, and then passed one by one; what is left of the words is cleared.
use Prim.Native.Nat.{◌/◌, ◌≤◌}
use mathlib.Core.Path.{ap}
use native.Mathlib.Omega.{arith}
use lib.ListN.{length}
use Rattle.file.specs.Copies.{room_for}
use Rattle.file.proofs.Gathering.{sorted_length, key_below, gather_first, gather_older, gather_end}
use Rattle.file.proofs.copies.gather.Goals as goal
use Rattle.file.proofs.copies.gather.Goals.{After-sort, then-chunk-last, else-chunk-last}

room : (k : After-sort) → room_for (length k.args.rows.now / 2) ≤ length k.sort.new.words
room k = omega (arith, ap length k.sort.ensures, sorted_length k.args.rows.now)

pub loop-i-preserved : goal.loop-i-preserved
loop-i-preserved c =
    let q = c.loop-i in
    let h = room (goal.at.loop-i-preserved c).After-sort in
    elim c.if-chunk-last.branch [
      | then-chunk-last w ↦
          rw (w.rows-is, w.m-is, c.key_of-chunk.ensures, w.value_of.ensures)
          (gather_first _ _ h q.rows q.last q.m q.i q.invariant c.loop-i-test.true (rw c.key_of-chunk.ensures at w.if-chunk-last.true))
      | else-chunk-last w ↦
          rw (w.rows-is, w.m-is, c.key_of-chunk.ensures)
          (gather_older _ _ h q.rows q.last q.m q.i q.invariant c.loop-i-test.true (rw c.key_of-chunk.ensures at w.if-chunk-last.false))
    ]

pub returns : goal.returns
returns c =
    let q = c.loop-i in
    let h = room (goal.at.returns c).After-sort in
    let e = gather_end _ _ h q.rows q.last q.m q.i q.invariant _ (c.fill.ensures.after (λ y e. e)) c.loop-i-test.false in
    record { value = rw c.sort.ensures at e.0; upper_bound = e.1; rows_after = rw (c.sort.ensures, sorted_length c.args.rows.now) at e.2 }

pub bounds-rows-n : goal.bounds-rows-n
bounds-rows-n c =
    let q = c.loop-i in
    let k = key_below _ _ (room (goal.at.bounds-rows-n c).After-sort) q.rows q.last q.m q.i q.invariant (rw c.sort.ensures c.requires) c.loop-i-test.true in
    omega (arith, q.invariant.long, room (goal.at.bounds-rows-n c).After-sort, c.value_of.ensures)
