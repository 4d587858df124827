-- The loop's invariant is `Gathered`: the rows of the keys passed are taken, and the words not yet read are as they were.
use Prim.Native.Nat.{◌/◌}
use lib.ListN.{length}
use Rattle.file.proofs.Gathering.{Gathered}
use Rattle.file.proofs.copies.gather.Given as goal

abbrev pub invariant-loop-i : goal.invariant-loop-i
invariant-loop-i l = Gathered l.initial.rows (length l.fn.rows / 2) l.rows l.last l.m l.i
