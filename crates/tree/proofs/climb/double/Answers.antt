use Prim.Native.Nat.{◌/◌, ◌<◌}
use native.Mathlib.Omega.{arith}
use lib.ListN.{length, get_or}
use mathlib.Core.Path.{◌≡◌}
use Rattle.sort.specs.Packed.{value_of}
use Rattle.tree.specs.Climbs.{kind_in}
use Rattle.tree.proofs.Climbing.{kind_goes, kind_ends, doubling_inside, doubling_ended, doubling_more, doubling_all}
use Rattle.tree.proofs.climb.double.Goals as goal
use Rattle.tree.proofs.climb.double.Goals.{In-GoesOn}

pub loop-i-preserved-in_default : goal.loop-i-preserved-in_default
loop-i-preserved-in_default c =
    let q = c.loop-i in
    doubling_ended _ q.ways q.i q.invariant (omega (arith, q.invariant.long, c.loop-i-test.true))
    (rw (← c.value_of-jump.ensures) (kind_ends _ _ c.into.ensures c.in_default.not-GoesOn))

-- its way goes on
on : (c : In-GoesOn) → kind_in (value_of (get_or c.loop-i.ways c.loop-i.i 0)) ≡ 0
on c = rw (← c.value_of-jump.ensures) (kind_goes _ _ c.into.ensures c.in-GoesOn.is)

-- the word that the way has come to
next : (c : In-GoesOn) → c.value_of-jump.result / 4 < length c.loop-i.ways
next c =
    let q = c.loop-i in
    rw c.value_of-jump.ensures
    (doubling_inside _ q.ways q.i q.i c.requires q.invariant (omega (arith, q.invariant.long, c.loop-i-test.true)) (on c))

pub loop-i-preserved : goal.loop-i-preserved
loop-i-preserved c =
    let q = c.loop-i in
    rw (c.pack.ensures, c.key_of.ensures, c.value_of-next.ensures, c.value_of-jump.ensures)
    (doubling_more _ q.ways q.i q.invariant (omega (arith, q.invariant.long, c.loop-i-test.true))
    (on (goal.at.loop-i-preserved c).In-GoesOn))

pub returns : goal.returns
returns c = let q = c.loop-i in doubling_all _ q.ways q.i q.invariant (omega (arith, q.invariant.long, c.loop-i-test.false))

pub bounds-ways-jump : goal.bounds-ways-jump
bounds-ways-jump c = next (goal.at.bounds-ways-jump c).In-GoesOn
