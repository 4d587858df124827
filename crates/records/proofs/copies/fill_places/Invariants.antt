-- The loop's invariant: the rows of the ages passed are laid over the words. There are as many words as ages, so that all rows fill them, and sorted they
-- are the places.
use mathlib.Core.Path.{◌≡◌}
use Rattle.page.specs.Records.{record_at}
use Rattle.chunk.specs.Takes.{seen_by}
use Rattle.chunk.proofs.Laying.{laid}
use Rattle.records.specs.Copies.{placed_from}
use Rattle.records.proofs.copies.fill_places.Given as goal

abbrev pub invariant-loop-i : goal.invariant-loop-i
invariant-loop-i l = l.words ≡ laid (placed_from (seen_by l.t (record_at l.g l.dump)) 0 l.ages) l.initial.words l.i
