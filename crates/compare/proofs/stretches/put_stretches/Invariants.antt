-- The loop's invariant: the lines of the stretches below k were put, and the rows that stand at stretch k are found from rows i and j on. A turn compares
-- stretch k by the first of them, and goes on to where one of them begins.
use Prim.Native.Nat.{◌-◌}
use Rattle.compare.proofs.Stretching.{Sofar}
use Rattle.compare.proofs.stretches.put_stretches.Given as goal

abbrev pub invariant-loop-k : goal.invariant-loop-k
invariant-loop-k l = Sofar l.g l.dump l.rows l.g2 l.dump2 l.rows2 l.m l.initial.buf l.at l.end l.buf l.next l.k l.i l.j

abbrev pub decreases-loop-k : goal.decreases-loop-k
decreases-loop-k l = l.end - l.k
