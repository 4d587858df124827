-- The loop's invariant: the lowest cut of the pages passed.
use mathlib.Core.Path.{◌≡◌}
use Rattle.page.specs.Records.{record_at}
use Rattle.chunk.specs.Takes.{seen_by}
use Rattle.chunk.specs.Cuts.{lowest_cut}
use Rattle.chunk.proofs.scan.lowest_cut.Given as goal

abbrev pub invariant-loop-i : goal.invariant-loop-i
invariant-loop-i l = (l.cut ≡ lowest_cut (seen_by l.t (record_at l.g l.dump)) l.o.0 l.h.0 l.age l.i)
