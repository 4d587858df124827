use mathlib.Core.Path.{sym}
use native.Mathlib.Numerals.{add-one}
use lib.ListN.{drop_of_length-le}
use lib.Seq.{drop-cons}
use Rattle.why.proofs.Finding.{found_end, found_here, found_on}
use Rattle.why.proofs.byte.find.Goals as goal

pub returns-then-x-from : goal.returns-then-x-from
returns-then-x-from c =
    let q = c.loop-row in
    let next = drop-cons c.args.rows.now q.row-index 0 c.loop-row-test.true in
    rw (← q.invariant, next, c.from_of-from.ensures) (sym (found_here _ _ _ _ _ (rw c.from_of-from.ensures at c.if-x-from.true)))

pub loop-row-preserved : goal.loop-row-preserved
loop-row-preserved c =
    let q = c.loop-row in
    let next = drop-cons c.args.rows.now q.row-index 0 c.loop-row-test.true in
    rw (← q.invariant, next, c.code_in-code.ensures, add-one) (sym (found_on _ _ _ _ _ (rw c.from_of-from.ensures at c.if-x-from.false)))

pub returns : goal.returns
returns c = rw (← c.loop-row.invariant, drop_of_length-le c.args.rows.now {i = c.loop-row.row-index} c.loop-row-test.false, found_end)
