use Prim.Native.Nat.{◌/◌, ◌<◌}
use native.Mathlib.Omega.{arith}
use lib.ListN.{length}
use Rattle.tree.proofs.Climbing.{kind_goes, kind_ends}
use Rattle.tree.proofs.Settled.{tracked_first, tracked_inside, tracked_more, tracked_end, tracked_done}
use Rattle.tree.proofs.climb.is_listed.Goals as goal
use Rattle.tree.proofs.climb.is_listed.Goals.{In-GoesOn}

pub loop-step-init : goal.loop-step-init
loop-step-init c = rw c.key_of-code.ensures (tracked_first _ _ c.requires.i_in_bounds)

pub returns-in_default : goal.returns-in_default
returns-in_default c = tracked_end _ _ _ _ c.loop-step.invariant (kind_ends _ _ c.into.ensures c.in_default.not-GoesOn)

-- the word that the way has come to
next : (c : In-GoesOn) → c.loop-step.code / 4 < length c.args.ways.now
next c = tracked_inside _ _ _ _ c.loop-step.invariant c.requires.some_ways (kind_goes _ _ c.into.ensures c.in-GoesOn.is)

pub loop-step-preserved : goal.loop-step-preserved
loop-step-preserved c =
    rw c.key_of-code-in-loop-step.ensures
    (tracked_more _ _ _ _ c.loop-step.invariant (kind_goes _ _ c.into.ensures c.in-GoesOn.is) (λ e. omega (arith, c.loop-step-test.true)))

pub returns : goal.returns
returns c = tracked_done _ _ _ _ c.loop-step.invariant c.loop-step-test.false

pub bounds-ways-code : goal.bounds-ways-code
bounds-ways-code c = next (goal.at.bounds-ways-code c).In-GoesOn
