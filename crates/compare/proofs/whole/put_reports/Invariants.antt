-- Object by object. The loop's invariant is `Underway`: what was put, and what the words left give, are the whole report. Each turn takes as many words
-- from the front of both lists as are of the next object, of which one list has some: so the words left get fewer.
use Prim.Native.Nat.{◌+◌, ◌-◌}
use lib.ListN.{length}
use Rattle.compare.proofs.Listing.{Underway}
use Rattle.compare.proofs.whole.put_reports.Given as goal

abbrev pub invariant-loop-i : goal.invariant-loop-i
invariant-loop-i l = Underway l.g l.dump l.g2 l.dump2 l.order l.rows l.order2 l.rows2 l.initial.buf l.at l.buf l.put l.i l.j

abbrev pub decreases-loop-i : goal.decreases-loop-i
decreases-loop-i l = (length l.order + length l.order2) - (l.i + l.j)
