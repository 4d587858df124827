-- The loop's invariant: the object stands by the chain from the first link on as it does by the chain from here on. Each turn goes on to an
-- older record, so that the bound falls.
use mathlib.Core.Bool.{false}
use mathlib.Core.Path.{◌≡◌}
use Rattle.page.specs.Records.{record_at}
use Rattle.index.specs.Chains.{top}
use Rattle.index.specs.Walks.{under}
use Rattle.index.specs.Listing.{stands}
use Rattle.index.proofs.list.standing_from.Given as goal

abbrev pub invariant-loop-q : goal.invariant-loop-q
invariant-loop-q l =
    stands l.ask (record_at l.g l.dump) false (under (record_at l.g l.dump) l.pages l.cells l.o.0 top l.first)
    ≡ stands l.ask (record_at l.g l.dump) l.met (under (record_at l.g l.dump) l.pages l.cells l.o.0 l.bound l.link)

abbrev pub decreases-loop-q : goal.decreases-loop-q
decreases-loop-q l = l.bound
