-- The loop's invariant is `Lowered`: the words from the place reached on are filled, and the cut and whether a header was met are those of the records from
-- there on. The next record is older, and lowers the cut by its own.
use Rattle.page.specs.Records.{record_at}
use Rattle.chunk.specs.Takes.{seen_by}
use Rattle.records.proofs.Lowering.{Lowered}
use Rattle.records.proofs.cuts.fill_lows.Given as goal

abbrev pub invariant-loop-i : goal.invariant-loop-i
invariant-loop-i l = Lowered (seen_by l.t (record_at l.g l.dump)) l.ages l.words l.cut l.newest l.i
