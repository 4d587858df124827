-- The loop's invariant: how many marks the pages passed make, and the largest end of those that are newer than the newest header. A page whose tags do not
-- name the object makes none and ends nothing. A page makes no more than three, so that their number is a word.
use mathlib.Core.Path.{◌≡◌}
use lib.ListN.{length}
use Rattle.page.specs.Records.{record_at}
use Rattle.chunk.specs.Takes.{seen_by}
use Rattle.chunk.specs.Sizes.{data_end}
use Rattle.why.specs.Marks.{marks_to}
use Rattle.why.proofs.marks.measure.Given as goal

abbrev pub invariant-loop-i : goal.invariant-loop-i
invariant-loop-i l =
    let says = seen_by l.t (record_at l.g l.dump) in
    (l.marks ≡ length (marks_to says l.g.layout.«data» l.o.0 l.h.0 l.i)) × (l.end ≡ data_end says l.g.layout.«data» l.o.0 l.age l.i)
