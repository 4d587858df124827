-- The loop's invariant: the search from the block's start and the search from here find the same sequence.
use Prim.Native.Nat.{◌≤◌, ◌-◌}
use mathlib.Core.Path.{◌≡◌}
use Rattle.page.specs.Tags.{claim_at}
use Rattle.page.specs.Find.{first_sequence}
use Rattle.page.proofs.find.first_sequence.Given as goal

abbrev pub invariant-loop-i : goal.invariant-loop-i
invariant-loop-i l = (l.i ≤ l.end) × (first_sequence (claim_at l.g l.dump) l.block l.g.block ≡ first_sequence (claim_at l.g l.dump) l.i (l.end - l.i))

abbrev pub decreases-loop-i : goal.decreases-loop-i
decreases-loop-i l = l.end - l.i
