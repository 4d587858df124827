use native.Mathlib.Omega.{arith}
use Rattle.text.proofs.Putting.{nothing}
use Rattle.compare.specs.Differences.{stretch}
use Rattle.compare.specs.Report.{lines_of}
use Rattle.compare.proofs.PassedLines.{lines_none}
use Rattle.compare.proofs.Stretching.{stands_first, stands_at_lem, stands_on, turn}
use Rattle.compare.proofs.stretches.put_stretches.Goals as goal
use Rattle.compare.proofs.stretches.put_stretches.Goals.{In-loop-k}

pub loop-k-init : goal.loop-k-init
loop-k-init c =
    record {
      inside = omega arith;
      one = stands_first _ _ 0;
      other = stands_first _ _ 0;
      put = rw (lines_none lines_of stretch _ _) (nothing _ _ (omega arith) (omega arith));
    }

pub loop-k-preserved : goal.loop-k-preserved
loop-k-preserved c =
    let q = c.loop-k in
    let a = c.args in
    let at_i = stands_at_lem a.g.layout.«data» a.rows.now c.standing_from-i.result q.invariant.one c.standing_from-i.ensures.rows_value in
    let at_j = stands_at_lem a.g2.layout.«data» a.rows2.now c.standing_from-j.result q.invariant.other c.standing_from-j.ensures.rows_value in
    record {
      inside = omega arith;
      one = stands_on a.g.layout.«data» a.rows.now q.k _ _ (omega arith) c.standing_from-i.ensures.upper_bound at_i;
      other = stands_on a.g2.layout.«data» a.rows2.now q.k _ _ (omega arith) c.standing_from-j.ensures.upper_bound at_j;
      put = turn a.g a.dump.now a.rows.now a.g2 a.dump2.now a.rows2.now a.m q.k _ _ at_i at_j _ _ _ _ c.stretches_in-end.result _
          c.row_at.ensures
          c.row_at-in-loop-k.ensures
          c.begins_in.ensures
          c.begins_in-in-loop-k.ensures
          c.after-k.ensures
          q.invariant.put
          c.put_stretch-next.ensures;
    }
