use Prim.Native.Nat.{◌+◌, ◌≤◌}
use native.Mathlib.Omega.{arith}
use borrow.Author.Rules.{rules}
use mathlib.Core.Path.{◌≡◌}
use lib.ListN.{length, drop}
use Rattle.std.proofs.lemmas.List.{take_rest}
use Rattle.compare.specs.Lists.{next_in}
use Rattle.compare.proofs.Listing.{under_end, turn_by, turn_few, turn_onward}
use Rattle.compare.proofs.whole.put_reports.Goals as goal
use Rattle.compare.proofs.whole.put_reports.Goals.{After-next-t}

-- the object that comes next in what is left of both lists
next_left : (n : After-next-t) → n.next-t.result ≡ next_in (drop n.loop-i.i n.args.order.now) (drop n.loop-i.j n.args.order2.now)
next_left n = rw (take_rest, take_rest) at n.next-t.ensures

there : (n : After-next-t) → (n.loop-i.i + n.next-t.result.first ≤ length n.args.order.now)
    × (n.loop-i.j + n.next-t.result.second ≤ length n.args.order2.now)
there n = turn_few _ _ _ _ _ _ _ _ n.loop-i.invariant n.next-t.result (next_left n)

pub overflow_add-e : goal.overflow_add-e
overflow_add-e c = let h = (there (goal.at.overflow_add-e c).After-next-t).0 in search rules

pub overflow_add-f : goal.overflow_add-f
overflow_add-f c = let h = (there (goal.at.overflow_add-f c).After-next-t).1 in search rules

pub slice_bounds-put_object-end : goal.slice_bounds-put_object-end
slice_bounds-put_object-end c = let h = (there (goal.at.slice_bounds-put_object-end c).After-next-t).0 in search rules

pub slice_bounds-put_object-end-in-loop-i : goal.slice_bounds-put_object-end-in-loop-i
slice_bounds-put_object-end-in-loop-i c = let h = (there (goal.at.slice_bounds-put_object-end-in-loop-i c).After-next-t).1 in search rules

pub loop-i-smaller : goal.loop-i-smaller
loop-i-smaller c =
    let t = there (goal.at.loop-i-smaller c).After-next-t in
    omega (arith, t.0, t.1, turn_onward _ _ _ _ _ _ _ _ c.loop-i.invariant c.next-t.result (next_left (goal.at.loop-i-smaller c).After-next-t) c.loop-i-test.true)

pub returns : goal.returns
returns c = under_end _ _ _ _ _ _ _ _ c.loop-i.invariant c.loop-i-test.false

pub loop-i-preserved : goal.loop-i-preserved
loop-i-preserved c =
    turn_by _ _ _ _ _ _ _ _ c.loop-i.invariant c.next-t.result (next_left (goal.at.loop-i-preserved c).After-next-t) c.loop-i-test.true
    _ _ c.part.ensures c.part-in-loop-i.ensures
    c.put_object-put.ensures
