-- The object's line and what differs are measured on no bytes, one behind the other, and written if something differs and both fit.
use native.Mathlib.Omega.{arith}
use Rattle.compare.proofs.Lining.{written_nothing, written_short, written_both}
use Rattle.compare.proofs.whole.write_measured.Goals as goal

pub returns-then-need-line : goal.returns-then-need-line
returns-then-need-line c = written_nothing _ (omega arith) _ c.put_name-line.ensures c.put_differences-need.ensures _ c.if-need-line.true

pub returns-then-buf-need : goal.returns-then-buf-need
returns-then-buf-need c = written_short _ (omega arith) _ c.put_name-line.ensures c.put_differences-need.ensures _ c.if-need-line.false c.if-buf-need.true

pub returns : goal.returns
returns c =
    written_both _ (omega arith) _ c.put_name-line.ensures c.put_differences-need.ensures _ c.if-need-line.false c.if-buf-need.false
    c.put_name.ensures c.put_differences.ensures
