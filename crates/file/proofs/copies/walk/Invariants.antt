-- The loop's invariant: what is put so far, and what is met ahead, are all copies of the chain; and the copies met and the records still ahead are
-- no more than the pages. Each turn goes on to an older record, so that the bound falls.
use Prim.Native.Nat.{◌/◌}
use lib.ListN.{length}
use Rattle.page.specs.Records.{record_at}
use Rattle.index.specs.Chains.{top}
use Rattle.index.specs.Walks.{under}
use Rattle.file.specs.Table.{chunks_in}
use Rattle.file.proofs.Meeting.{Underway}
use Rattle.file.proofs.copies.walk.Given as goal

abbrev pub invariant-loop-q : goal.invariant-loop-q
invariant-loop-q l =
    let says = record_at l.g l.dump in
    Underway says l.g.layout.«data» (chunks_in l.g.layout.«data» l.size) l.size (length l.initial.rows / 2) l.pages l.initial.rows (under says l.pages l.cells l.o.0 top l.first) l.rows l.newest l.cut l.copies
    (under says l.pages l.cells l.o.0 l.bound l.link)

abbrev pub decreases-loop-q : goal.decreases-loop-q
decreases-loop-q l = l.bound
