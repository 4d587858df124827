-- The first i elements are copied.
use Rattle.std.proofs.Common.{◌≡◌}
use Rattle.sort.proofs.Copying.{copied}
use Rattle.sort.proofs.room.copy.Given as goal

abbrev pub invariant-loop-i : goal.invariant-loop-i
invariant-loop-i g l = l.to ≡ copied l.from l.initial.to l.i
