-- A pass goes over the words in place. The loop's invariant is `Doubling`: the words of the rows passed have gone more than twice the steps. A word
-- takes over what the word that it has come to knows; that one has gone as many steps at least, whether it was passed already or not.
use Rattle.tree.proofs.Climbing.{Doubling}
use Rattle.tree.proofs.climb.double.Given as goal

abbrev pub invariant-loop-i : goal.invariant-loop-i
invariant-loop-i l = Doubling l.initial.ways l.ways l.i
