-- The loop's invariant: each row is free, and then its answer lies ahead, or it is done. Each turn goes on to
-- an older record, so that the bound falls.
use Prim.Native.Nat.{ℕ, ◌≤◌, ◌<◌}
use mathlib.Core.Path.{◌≡◌}
use lib.ListN.{length}
use Rattle.page.specs.Records.{record_at}
use Rattle.chunk.specs.Lookups.{shown_of}
use Rattle.index.specs.Walks.{under}
use Rattle.index.specs.Ahead.{ahead}
use Rattle.file.specs.Table.{chunks_in, all_ahead}
use Rattle.file.proofs.Rows.{Row}
use Rattle.file.proofs.table.fill.Given as goal

abbrev pub invariant-loop-table : goal.invariant-loop-table
invariant-loop-table l =
    let says = record_at l.g l.dump in
    let P = l.g.layout.«data» in
    (length l.table ≡ length l.fn.table)
    × ((c : ℕ) → 0 < c → c ≤ chunks_in P l.size →
    Row l.table c (ahead says P c (shown_of P c l.size) l.newest l.cut (under says l.pages l.cells l.o.0 l.bound l.link)) (all_ahead says P l.size l.pages l.cells l.o.0 l.first c))

abbrev pub decreases-loop-table : goal.decreases-loop-table
decreases-loop-table l = l.bound
