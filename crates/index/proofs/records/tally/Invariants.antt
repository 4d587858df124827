-- The loop's invariant: the tally of the chain from the first link on is that of the chain from here on, with the records passed; and those, and
-- the ones still ahead, are no more than the pages. Each turn goes on to an older record, so that the bound falls.
use Prim.Native.Nat.{◌+◌, ◌≤◌}
use mathlib.Core.Path.{◌≡◌}
use Rattle.page.specs.Records.{record_at}
use Rattle.index.specs.Chains.{top}
use Rattle.index.specs.Walks.{records_in, under}
use Rattle.index.specs.Recorded.{tally_of}
use Rattle.index.proofs.Walk.Recorded.{tally_from}
use Rattle.index.proofs.records.tally.Given as goal

abbrev pub invariant-loop-q : goal.invariant-loop-q
invariant-loop-q l =
    (l.count + records_in (under (record_at l.g l.dump) l.pages l.cells l.o.0 l.bound l.link) ≤ l.pages)
    × (tally_of (under (record_at l.g l.dump) l.pages l.cells l.o.0 top l.first) ≡ tally_from l.count (under (record_at l.g l.dump) l.pages l.cells l.o.0 l.bound l.link))

abbrev pub decreases-loop-q : goal.decreases-loop-q
decreases-loop-q l = l.bound
