-- The loop's invariant is `Swept`: the rows of the marks passed are made, and the words not yet read are as they were. Each turn passes one mark, and ends in
-- one of four ways: another mark of its place follows, the file has ended, the reason is the last row's, or it makes a row.
use Rattle.page.specs.Records.{record_at}
use Rattle.chunk.specs.Takes.{seen_by}
use Rattle.why.proofs.InPlace.{Swept}
use Rattle.why.proofs.sweep.sweep.Given as goal

abbrev pub invariant-loop-j : goal.invariant-loop-j
invariant-loop-j l = Swept (seen_by l.t (record_at l.g l.dump)) l.g.layout.«data» l.size l.initial.rows l.rows l.seen l.last l.at l.j
