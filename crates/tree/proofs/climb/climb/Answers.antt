use mathlib.Core.Path.{◌∙◌}
use Rattle.tree.proofs.Climbing.{raised_some, raised_doubled, raised_enough}
use Rattle.tree.proofs.climb.climb.Goals as goal

pub double-requires : goal.double-requires
double-requires c =
    let q = c.loop-steps in
    raised_some q.steps _ q.ways c.requires q.invariant.1

pub loop-steps-preserved : goal.loop-steps-preserved
loop-steps-preserved c =
    let q = c.loop-steps in
    (c.double.auto.ways ∙ q.invariant.0, raised_doubled q.steps _ q.ways _ q.invariant.1 c.double.ensures)

pub returns : goal.returns
returns c = let q = c.loop-steps in raised_enough _ q.steps _ q.ways q.invariant.1 c.loop-steps-test.false
