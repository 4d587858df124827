use Rattle.std.proofs.Common.{arith}
use Rattle.sort.proofs.Copying.{copied_more}
use Rattle.sort.proofs.room.copy.Goals as goal

pub loop-i-preserved : goal.loop-i-preserved
loop-i-preserved g c =
    let q = c.loop-i in
    rw q.invariant (copied_more c.args.from.now c.args.to.now q.i _ (omega arith) (omega arith) c.index-from-i.is)
