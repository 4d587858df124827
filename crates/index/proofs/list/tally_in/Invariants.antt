-- The loop's invariant: no slot passed is damaged, and the count is that of the slots asked for passed.
use Prim.Native.Nat.{◌≤◌}
use mathlib.Core.Path.{◌≡◌}
use Rattle.page.specs.Search.{count}
use Rattle.page.specs.Records.{record_at}
use Rattle.index.specs.Listing.{asked_slot, damaged_slot}
use Rattle.index.proofs.list.tally_in.Given as goal

abbrev pub invariant-loop-s : goal.invariant-loop-s
invariant-loop-s l =
    (l.count ≤ l.s)
    × (count (damaged_slot l.ask (record_at l.g l.dump) l.g.layout.«data» l.cells l.pages) l.s ≡ 0)
    × (l.count ≡ count (asked_slot l.ask (record_at l.g l.dump) l.g.layout.«data» l.cells l.pages) l.s)
