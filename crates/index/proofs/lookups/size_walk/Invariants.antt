-- The loop's invariant: the size by the chain from the first link on is the size by what the chain from here on reaches, and the records visited
-- and those still ahead are no more than the pages. Each turn goes on to an older record, so that the bound falls.
use Prim.Native.Nat.{◌+◌, ◌≤◌}
use Rattle.std.specs.Prelude.{None}
use mathlib.Core.Path.{◌≡◌}
use Rattle.page.specs.Records.{record_at}
use Rattle.index.specs.Chains.{top}
use Rattle.index.specs.Walks.{records_in, size_reached, reach, size_walk, under}
use Rattle.index.proofs.lookups.size_walk.Given as goal

abbrev pub invariant-loop-q : goal.invariant-loop-q
invariant-loop-q l =
    (l.visits + records_in (under (record_at l.g l.dump) l.pages l.cells l.o.0 l.bound l.link) ≤ l.pages)
    × (size_walk (record_at l.g l.dump) l.g.layout.«data» (under (record_at l.g l.dump) l.pages l.cells l.o.0 top l.first)
    ≡ size_reached (record_at l.g l.dump) (reach (record_at l.g l.dump) l.g.layout.«data» 0 l.end None l.visits (under (record_at l.g l.dump) l.pages l.cells l.o.0 l.bound l.link)))

abbrev pub decreases-loop-q : goal.decreases-loop-q
decreases-loop-q l = l.bound
