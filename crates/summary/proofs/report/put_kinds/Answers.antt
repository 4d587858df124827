-- The five lines, one after the other.
use Rattle.summary.specs.Report.{kind_lines}
use Rattle.text.proofs.Putting.{also, kept}
use Rattle.summary.proofs.report.put_kinds.Goals as goal

pub returns : goal.returns
unfolding kind_lines
returns c =
    also
    (also (also (also c.put_line-foreign.ensures c.put_line-damaged.ensures) c.put_line-headers.ensures) c.put_line-data.ensures)
    c.put_line.ensures

pub shape_of-buf : goal.shape_of-buf
shape_of-buf c = kept (returns c)
