-- The loop's invariant: the words passed are of the object, and the run from the next on is the rest of it.
use Prim.Native.Nat.{◌+◌}
use mathlib.Core.Path.{◌≡◌}
use lib.ListN.{drop}
use Rattle.compare.specs.Lists.{run_of}
use Rattle.compare.proofs.runs.run_of.Given as goal

abbrev pub invariant-loop-i : goal.invariant-loop-i
invariant-loop-i l = run_of l.o l.order ≡ l.i + run_of l.o (drop l.i l.order)
