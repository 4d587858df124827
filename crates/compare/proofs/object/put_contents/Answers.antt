-- Where one side is no live file nothing is compared.
use Prim.Native.Nat.{min}
use mathlib.Core.Path.{◌≡◌}
use native.Mathlib.Omega.{arith}
use Rattle.sort.specs.Lists.{joined}
use Rattle.text.proofs.Putting.{nothing, also}
use Rattle.compare.specs.Differences.{stretches_of}
use Rattle.compare.specs.Lines.{content_lines}
use Rattle.compare.proofs.object.put_contents.Goals as goal

pub returns-in_default : goal.returns-in_default
unfolding content_lines stretches_of joined
returns-in_default c = rw (c.in_default.is-0, c.in_default.is-1) (nothing _ _ (omega arith) (omega arith))

pub returns-in_default-2 : goal.returns-in_default-2
unfolding content_lines stretches_of joined
returns-in_default-2 c = rw c.in_default.is-0 (nothing _ _ (omega arith) (omega arith))

-- Of two live files the sizes are put, and then the stretches up to the smaller size.
pub returns-in-Some-Some : goal.returns-in-Some-Some
unfolding content_lines stretches_of
returns-in-Some-Some c =
    let m : c.min.result ≡ min c.in-Some-Some.y c.in-Some-Some.z = c.min.ensures in
    rw (c.in-Some-Some.is-0, c.in-Some-Some.is-1, ← m) (also c.put_sizes-next.ensures c.put_stretches.ensures)
