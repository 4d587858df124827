-- The loop's invariant is `Filled`: the marks of the pages passed stand in front of the words, behind that of the file's begin. Those of the next page have
-- room, since all marks have.
use Rattle.page.specs.Records.{record_at}
use Rattle.chunk.specs.Takes.{seen_by}
use Rattle.why.proofs.Putting.{Filled}
use Rattle.why.proofs.marks.fill_marks.Given as goal

abbrev pub invariant-loop-i : goal.invariant-loop-i
invariant-loop-i l = Filled (seen_by l.t (record_at l.g l.dump)) l.g.layout.«data» l.o.0 l.h.0 l.pages l.initial.rows l.rows l.at l.i
