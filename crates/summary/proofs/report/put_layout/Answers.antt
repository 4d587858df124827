-- The three parts of the line, one after the other.
use Rattle.summary.specs.Report.{layout_line}
use Rattle.text.proofs.Putting.{also}
use Rattle.summary.proofs.report.put_layout.Goals as goal

pub returns : goal.returns
unfolding layout_line
returns c = also (also c.put_field-spare.ensures c.put_field-tag.ensures) c.put_line.ensures
