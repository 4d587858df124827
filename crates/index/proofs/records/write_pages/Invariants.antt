-- The loop's invariant: of the chain's pages so many stand in front of the words, and the rest are those of the chain from here on.
use mathlib.Core.Path.{◌≡◌}
use lib.ListN.{length, take, drop}
use Rattle.page.specs.Records.{record_at}
use Rattle.chunk.specs.Lists.{in_front}
use Rattle.index.specs.Chains.{top}
use Rattle.index.specs.Walks.{under}
use Rattle.index.specs.Recorded.{pages_of}
use Rattle.index.proofs.records.write_pages.Given as goal

abbrev pub invariant-loop-q : goal.invariant-loop-q
invariant-loop-q l =
    let all = pages_of (under (record_at l.g l.dump) l.pages l.cells l.o.0 top l.first) in
    (length l.words ≡ length l.initial.words)
    × (drop l.count all ≡ pages_of (under (record_at l.g l.dump) l.pages l.cells l.o.0 l.bound l.link))
    × (l.words ≡ in_front (take l.count all) l.initial.words)

abbrev pub decreases-loop-q : goal.decreases-loop-q
decreases-loop-q l = l.bound
