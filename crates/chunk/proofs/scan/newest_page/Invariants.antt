-- The loop's invariant: the newest wanted page of those passed.
use mathlib.Core.Path.{◌≡◌}
use Rattle.page.specs.Records.{record_at}
use Rattle.chunk.specs.Takes.{seen_by}
use Rattle.chunk.specs.Newest.{newest}
use Rattle.chunk.specs.Scans.{wanted, newest_in}
use Rattle.chunk.proofs.scan.newest_page.Given as goal

abbrev pub invariant-loop-i : goal.invariant-loop-i
invariant-loop-i l = (l.best ≡ newest_in (seen_by l.t (record_at l.g l.dump)) (newest (seen_by l.t (record_at l.g l.dump)) (wanted l.o.0 l.w) l.i))
