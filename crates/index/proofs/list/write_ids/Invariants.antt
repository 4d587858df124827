-- The loop's invariant: the ids of the slots asked for passed stand in front of the words, ascending, and the count is how many they are.
use Rattle.page.specs.Records.{record_at}
use Rattle.chunk.proofs.Sorting.{Listed}
use Rattle.index.specs.Cells.{keys}
use Rattle.index.specs.Listing.{asked_slot}
use Rattle.index.specs.declared.list.Ask.TheVariants.{Live}
use Rattle.index.proofs.list.write_ids.Given as goal

abbrev pub invariant-loop-s : goal.invariant-loop-s
invariant-loop-s l =
    Listed (asked_slot Live (record_at l.g l.dump) l.g.layout.«data» l.cells l.pages) (keys l.cells) l.initial.words l.words l.count l.s
