-- The loop's invariant: the blocks before `next` are gone through. Pages that are lost do not reach what is needed; gone through and not lost they do.
use Prim.Native.Nat.{◌-◌}
use Rattle.page.specs.Tags.{claim_at}
use Rattle.page.proofs.Blocks.{Through}
use Rattle.page.proofs.find.score_in.Given as goal

abbrev pub invariant-loop-g : goal.invariant-loop-g
invariant-loop-g l = Through (claim_at l.g l.dump) l.g.block l.pages l.next l.score l.marked

abbrev pub decreases-loop-g : goal.decreases-loop-g
decreases-loop-g l = l.pages - l.next
