use native.Mathlib.Omega.{arith}
use Rattle.tree.proofs.SecondList.{listing_none, listing_pass, listing_more, listing_all}
use Rattle.tree.proofs.others.list_others.Goals as goal
use Rattle.tree.proofs.others.list_others.Goals.{then-is_other, else-is_other}

pub loop-i-preserved : goal.loop-i-preserved
loop-i-preserved c =
    let q = c.loop-i in
    elim c.if-is_other.branch [
      | then-is_other w ↦
          rw (w.rows-is, w.end-is)
          (listing_more _ _ _ _ _ q.rows q.end q.i q.invariant c.loop-i-test.true _ _
          (rw w.if-is_other.true at c.is_other.ensures)
          (rw (← w.reason_at.ensures, ← w.number-number.ensures, ← w.value_of.ensures, ← w.pack.ensures) w.put_row-end.ensures))
      | else-is_other w ↦
          rw (w.rows-is, w.end-is)
          (listing_pass _ _ _ _ _ q.rows q.end q.i q.invariant c.loop-i-test.true (rw w.if-is_other.false at c.is_other.ensures))
    ]

pub returns : goal.returns
returns c = let q = c.loop-i in listing_all _ _ _ _ _ q.rows q.end q.i q.invariant c.loop-i-test.false

pub loop-i-init : goal.loop-i-init
loop-i-init c = listing_none _ _ _ _ _ (omega arith) (omega arith)
