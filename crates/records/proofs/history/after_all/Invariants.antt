-- The loop's invariant: what following the records passed comes to. After all of them that is what a size lookup answers, where the object has a record
-- and so an id.
use mathlib.Core.Path.{◌≡◌}
use Rattle.page.specs.Records.{record_at}
use Rattle.chunk.specs.Takes.{seen_by}
use Rattle.records.specs.Steps.{followed}
use Rattle.records.proofs.history.after_all.Given as goal

abbrev pub invariant-loop-age : goal.invariant-loop-age
invariant-loop-age l = l.after ≡ followed (seen_by l.t (record_at l.g l.dump)) l.g.layout.«data» l.ages l.age-index
