use native.Mathlib.Omega.{arith}
use Rattle.compare.specs.Parts.{block, zeros}
use Rattle.compare.proofs.Differing.{differ_found}
use Rattle.compare.proofs.bytes.any_set.Goals as goal

pub returns-then-set_in-gt0 : goal.returns-then-set_in-gt0
returns-then-set_in-gt0 c =
    let q = c.loop-i in
    let a = c.args in
    differ_found _ zeros q.i block _ _ (omega arith) c.set_in.ensures c.if-set_in-gt0.true
