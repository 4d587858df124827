-- The lines of what differs are measured; if there are none, nothing is put, and else the object's line goes before them.
use native.Mathlib.Omega.{arith}
use Rattle.compare.proofs.Lining.{nothing_put, object_put}
use Rattle.compare.proofs.object.put_object.Goals as goal

pub returns-then-n-eq0 : goal.returns-then-n-eq0
returns-then-n-eq0 c =
    nothing_put _ _ c.put_differences-n.ensures _ _ c.if-n-eq0.true (omega arith) (omega arith)

pub returns : goal.returns
returns c = object_put _ _ c.put_differences-n.ensures _ _ c.if-n-eq0.false c.put_name-next.ensures c.put_differences.ensures
