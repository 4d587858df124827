-- Two lines, if the sizes differ.
use native.Mathlib.Omega.{arith}
use Rattle.text.proofs.Putting.{nothing, also}
use Rattle.compare.proofs.Lining.{sizes_same, sizes_other}
use Rattle.compare.proofs.object.put_sizes.Goals as goal

pub returns-then-one-other : goal.returns-then-one-other
returns-then-one-other c = let a = c.args in rw (sizes_same a.one a.other c.if-one-other.true) (nothing _ _ (omega arith) (omega arith))

pub returns : goal.returns
returns c =
    let a = c.args in
    rw (sizes_other a.one a.other c.if-one-other.false) (also c.put_line-next.ensures c.put_line.ensures)
