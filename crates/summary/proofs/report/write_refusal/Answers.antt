-- A refusal is a report of one line.
use Rattle.summary.specs.Report.{text_of}
use Rattle.summary.proofs.report.write_refusal.Goals as goal

pub returns : goal.returns
unfolding text_of
returns c = c.write_figured.ensures
