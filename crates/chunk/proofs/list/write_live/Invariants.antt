-- The loop's invariant: the ids of the live pages passed stand in front of the words, ascending, and the count is how many they are.
use Rattle.page.specs.Records.{record_at}
use Rattle.chunk.specs.Live.{object_at, live_page}
use Rattle.chunk.proofs.Sorting.{Listed}
use Rattle.chunk.proofs.list.write_live.Given as goal

abbrev pub invariant-loop-i : goal.invariant-loop-i
invariant-loop-i l =
    Listed (live_page (record_at l.g l.dump) l.pages) (object_at (record_at l.g l.dump)) l.initial.words l.words l.count l.i
