-- The loop's invariant: the largest end of the pages passed.
use mathlib.Core.Path.{◌≡◌}
use Rattle.page.specs.Records.{record_at}
use Rattle.chunk.specs.Takes.{seen_by}
use Rattle.chunk.specs.Sizes.{data_end}
use Rattle.chunk.proofs.scan.data_end.Given as goal

abbrev pub invariant-loop-i : goal.invariant-loop-i
invariant-loop-i l = (l.end ≡ data_end (seen_by l.t (record_at l.g l.dump)) l.g.layout.«data» l.o.0 l.age l.i)
