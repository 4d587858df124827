-- Each block that is glanced at begins at a multiple of k, no later than the dump ends, and scores no more than its pages.
use Prim.Native.Nat.{◌*◌, ◌-◌, ◌≤◌}
use Rattle.page.proofs.find.glance.Given as goal

abbrev pub invariant-loop-i : goal.invariant-loop-i
invariant-loop-i l = (l.i ≤ 8) × (l.score ≤ l.i * 256)

abbrev pub decreases-loop-i : goal.decreases-loop-i
decreases-loop-i l = 8 - l.i
