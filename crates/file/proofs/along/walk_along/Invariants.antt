-- The loop's invariant: what is put so far, and what is met from the next word on, are all copies of the list; and the copies met and the words still
-- ahead are no more than there are words.
use Prim.Native.Nat.{◌/◌}
use lib.ListN.{length}
use Rattle.page.specs.Records.{record_at}
use Rattle.file.specs.Table.{chunks_in}
use Rattle.file.proofs.Listing.{from}
use Rattle.file.proofs.Meeting.{Underway}
use Rattle.file.proofs.along.walk_along.Given as goal

abbrev pub invariant-loop-word : goal.invariant-loop-word
invariant-loop-word l =
    Underway (record_at l.g l.dump) l.g.layout.«data» (chunks_in l.g.layout.«data» l.size) l.size (length l.initial.rows / 2) (length l.list) l.initial.rows (from l.list 0) l.rows l.newest l.cut l.copies (from l.list l.word-index)
