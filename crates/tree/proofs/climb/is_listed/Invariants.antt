-- The way goes up parent by parent, at most 32 steps. The loop's invariant is `Tracked`: the way of the row's object has gone so many steps, and come
-- to the code. It is in the first list exactly if the way comes to the root by then.
use Rattle.tree.proofs.Settled.{Tracked}
use Rattle.tree.proofs.climb.is_listed.Given as goal

abbrev pub invariant-loop-step : goal.invariant-loop-step
invariant-loop-step l = Tracked l.ways l.i l.code l._step
