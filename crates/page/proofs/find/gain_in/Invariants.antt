-- The loop's invariant: what was counted so far is what the pages from the block's start to here add, since each page of the block has its sequence.
use Prim.Native.Nat.{◌≤◌, ◌-◌, ◌+◌}
use mathlib.Core.Path.{◌≡◌}
use Rattle.page.specs.Tags.{claim_at}
use Rattle.page.specs.Find.{score_of, marked_of}
use Rattle.page.proofs.find.gain_in.Given as goal

abbrev pub invariant-loop-i : goal.invariant-loop-i
invariant-loop-i l =
    (l.block ≤ l.i)
    × (l.i ≤ l.i-end)
    × (score_of (claim_at l.g l.dump) l.g.block l.block + l.score ≡ score_of (claim_at l.g l.dump) l.g.block l.i)
    × (marked_of (claim_at l.g l.dump) l.block + l.marked ≡ marked_of (claim_at l.g l.dump) l.i)

abbrev pub decreases-loop-i : goal.decreases-loop-i
decreases-loop-i l = l.i-end - l.i
