use mathlib.Core.Path.{◌∙◌}
use native.Mathlib.Omega.{arith}
use borrow.Author.Tests.{lt-ltb}
use Rattle.compare.specs.Parts.{block}
use Rattle.compare.proofs.Differing.{differ_found, differ_behind}
use Rattle.compare.proofs.bytes.differ_from.Goals as goal

pub returns-then-differing_in-gt0 : goal.returns-then-differing_in-gt0
returns-then-differing_in-gt0 c =
    let q = c.loop-i in
    differ_found _ _ q.i block _ _ (omega arith) c.differing_in.ensures c.if-differing_in-gt0.true

pub returns-then-differing_in-gt0-2 : goal.returns-then-differing_in-gt0-2
returns-then-differing_in-gt0-2 c =
    let q = c.loop-i in
    rw (lt-ltb _ _ c.if-differing_in-gt0-2.true) (differ_found _ _ q.i _ _ _ (omega arith) c.differing_in-2.ensures c.if-differing_in-gt0-2.true)

pub returns-else-differing_in-gt0-2 : goal.returns-else-differing_in-gt0-2
returns-else-differing_in-gt0-2 c =
    let q = c.loop-i in
    c.any_set.ensures
    ∙ differ_behind c.args.a.now c.args.b.now q.i _ c.requires q.invariant.0 q.invariant.1 c.differing_in-2.ensures c.if-differing_in-gt0-2.false
