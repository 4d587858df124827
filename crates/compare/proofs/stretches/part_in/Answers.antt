-- A row that begins behind the stretch's begin shows nothing in it, and another its valid bytes from there on.
use native.Mathlib.Omega.{arith}
use Rattle.compare.proofs.Stretching.{part_before}
use Rattle.compare.proofs.stretches.part_in.Goals as goal

pub returns-then-from-begin : goal.returns-then-from-begin
returns-then-from-begin c =
    let a = c.args in
    part_before a.g a.dump.now a.row a.k _ (omega arith) (rw c.begin_of-begin.ensures.value at c.if-from-begin.true)
