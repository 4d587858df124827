-- The loop's invariant: the answer of the chain from the first link on is the answer of the chain from here on, and the records visited and
-- those still ahead are no more than the pages. Each turn goes on to an older record, so that the bound falls.
use Prim.Native.Nat.{◌+◌, ◌≤◌}
use mathlib.Core.Path.{◌≡◌}
use Rattle.page.specs.Records.{record_at}
use Rattle.index.specs.Walks.{records_in, seek, under}
use Rattle.index.proofs.walks.seek_copy.Given as goal

abbrev pub invariant-loop-q : goal.invariant-loop-q
invariant-loop-q l =
    (l.visits + records_in (under (record_at l.g l.dump) l.pages l.cells l.o.0 l.bound l.link) ≤ l.pages)
    × (seek (record_at l.g l.dump) l.g.layout.«data» l.c.0 l.shown l.initial.cut l.above (under (record_at l.g l.dump) l.pages l.cells l.o.0 l.age l.first)
    ≡ seek (record_at l.g l.dump) l.g.layout.«data» l.c.0 l.shown l.cut l.visits (under (record_at l.g l.dump) l.pages l.cells l.o.0 l.bound l.link))

abbrev pub decreases-loop-q : goal.decreases-loop-q
decreases-loop-q l = l.bound
