use Prim.Native.Nat.{◌<◌}
use mathlib.Core.Path.{ap, ◌∙◌}
use native.Mathlib.Omega.{arith}
use lib.ListN.{length, length-set}
use Rattle.page.specs.Records.{record_at}
use Rattle.chunk.specs.Takes.{seen_by}
use Rattle.records.specs.Lows.{lows_of}
use Rattle.records.specs.Written.{written}
use Rattle.records.proofs.Lowering.{lows_length}
use Rattle.records.proofs.Rowing.{row_put, detail_put}
use Rattle.records.proofs.stands.put_standings.Goals as goal

pub loop-i-preserved : goal.loop-i-preserved
loop-i-preserved c =
    let q = c.loop-i in
    let a = c.args in
    let says = seen_by a.t (record_at a.g a.dump.now) in
    let ages = written says a.o.0 a.pages in
    let h : q.i < length ages = omega (arith, ap length c.requires.rows_value) in (
      rw (c.pack.ensures, c.value_of.ensures, c.kind.ensures, q.invariant.0) (row_put says a.g.layout.«data» a.o.0 a.pages q.i h _ c.standing_at-s.ensures),
      rw (c.detail.ensures, q.invariant.1)
          (detail_put says a.g.layout.«data» a.o.0 a.pages q.i h _ c.standing_at-s.ensures (lows_of says ages) (omega (arith, lows_length says ages))),
      length-set q.rows q.i _ ∙ q.invariant.2,
      length-set q.details q.i _ ∙ q.invariant.3,
    )
