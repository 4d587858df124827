use Rattle.page.specs.Records.{record_at}
use Rattle.chunk.specs.Takes.{seen_by}
use Rattle.records.proofs.Lowering.{lowered_none, lowered_one}
use Rattle.records.proofs.cuts.fill_lows.Goals as goal

pub loop-i-init : goal.loop-i-init
loop-i-init c = lowered_none (seen_by c.args.t (record_at c.args.g c.args.dump.now)) c.args.ages.now c.args.words.now c.requires

pub loop-i-preserved : goal.loop-i-preserved
loop-i-preserved c =
    lowered_one c.loop-i.invariant c.seen_at-r.result c.loop-i-test.true (rw (← c.value_of.ensures) c.seen_at-r.ensures)
    c.low_with-cut.ensures c.headless_with-newest.ensures c.word_of.ensures
