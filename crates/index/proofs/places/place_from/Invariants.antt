-- The loop's invariant: the place in the chain from the first link on is the place in the chain from here on. Each turn goes on to an older
-- record, so that the bound falls.
use Prim.Native.Nat.{◌<◌}
use mathlib.Core.Path.{◌≡◌}
use lib.ListN.{length}
use Rattle.page.specs.Records.{record_at}
use Rattle.index.specs.Cells.{word}
use Rattle.index.specs.Chains.{objects, trace}
use Rattle.index.specs.Places.{place_of, place_from}
use Rattle.chunk.specs.Records.{age_of}
use Rattle.index.proofs.places.place_from.Given as goal

abbrev pub invariant-loop-q : goal.invariant-loop-q
invariant-loop-q l =
    (l.at < length l.cells)
    × (place_from (record_at l.g l.dump) l.pages l.cells l.o.0 l.p.0 (word l.cells l.from) l.from
    ≡ place_of (age_of (record_at l.g l.dump)) l.p.0 (trace l.pages (objects (record_at l.g l.dump)) (age_of (record_at l.g l.dump)) l.cells l.o.0 l.bound (word l.cells l.at)) l.at)

abbrev pub decreases-loop-q : goal.decreases-loop-q
decreases-loop-q l = l.bound
