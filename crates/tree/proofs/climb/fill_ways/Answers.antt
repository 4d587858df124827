use native.Mathlib.Omega.{arith}
use Rattle.tree.proofs.Climbing.{filled_more}
use Rattle.tree.proofs.climb.fill_ways.Goals as goal

pub loop-i-preserved : goal.loop-i-preserved
loop-i-preserved c =
    let q = c.loop-i in
    rw c.pack.ensures
    (filled_more _ _ q.ways q.i c.code_of-code.result q.invariant c.loop-i-test.true (omega arith)
    (rw (← c.value_of.ensures, ← c.seen_at.ensures, ← c.parent_in-parent.ensures) c.code_of-code.ensures))
