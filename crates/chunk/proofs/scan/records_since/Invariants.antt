-- The loop's invariant: the count of the records passed that are not older.
use Prim.Native.Nat.{◌≤◌}
use mathlib.Core.Path.{◌≡◌}
use Rattle.page.specs.Records.{record_at}
use Rattle.chunk.specs.Takes.{seen_by}
use Rattle.chunk.specs.Newest.{since}
use Rattle.chunk.proofs.scan.records_since.Given as goal

abbrev pub invariant-loop-i : goal.invariant-loop-i
invariant-loop-i l = (l.count ≤ l.i) × (l.count ≡ since (seen_by l.t (record_at l.g l.dump)) l.o.0 l.age l.i)
