-- The loop's invariant: the words have gone more than so many steps, or have ended. A round makes of s steps more than 2 s + 1.
use Prim.Native.Nat.{◌-◌}
use mathlib.Core.Path.{◌≡◌}
use lib.ListN.{length}
use Rattle.tree.specs.Climbs.{Raised}
use Rattle.tree.proofs.climb.climb.Given as goal

abbrev pub invariant-loop-steps : goal.invariant-loop-steps
invariant-loop-steps l = (length l.ways ≡ length l.initial.ways) × Raised 0 l.steps l.initial.ways l.ways

abbrev pub decreases-loop-steps : goal.decreases-loop-steps
decreases-loop-steps l = l.pages - l.steps
