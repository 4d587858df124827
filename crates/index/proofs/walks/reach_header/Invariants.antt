-- The loop's invariant: what the chain from the first link on reaches is what the chain from here on reaches, and the records visited and
-- those still ahead are no more than the pages. Each turn goes on to an older record, so that the bound falls.
use Prim.Native.Nat.{◌+◌, ◌≤◌}
use Rattle.std.specs.Prelude.{None}
use mathlib.Core.Path.{◌≡◌}
use Rattle.page.specs.Records.{record_at}
use Rattle.index.specs.Chains.{top}
use Rattle.index.specs.Walks.{records_in, reach, under}
use Rattle.index.proofs.walks.reach_header.Given as goal

abbrev pub invariant-loop-q : goal.invariant-loop-q
invariant-loop-q l =
    (l.visits + records_in (under (record_at l.g l.dump) l.pages l.cells l.o.0 l.bound l.link) ≤ l.pages)
    × (reach (record_at l.g l.dump) l.g.layout.«data» l.c.0 0 None 0 (under (record_at l.g l.dump) l.pages l.cells l.o.0 top l.first)
    ≡ reach (record_at l.g l.dump) l.g.layout.«data» l.c.0 l.end l.met l.visits (under (record_at l.g l.dump) l.pages l.cells l.o.0 l.bound l.link))

abbrev pub decreases-loop-q : goal.decreases-loop-q
decreases-loop-q l = l.bound
