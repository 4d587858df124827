-- The lines, one after the other.
use Rattle.summary.specs.Report.{ten_lines}
use Rattle.text.proofs.Putting.{also, kept}
use Rattle.summary.proofs.report.put_figures.Goals as goal

pub returns : goal.returns
unfolding ten_lines
returns c =
    also
    (also
    (also (also (also c.put_layout-block.ensures c.put_line-pages.ensures) c.put_line-kinds.ensures) c.put_kinds-objects.ensures)
    c.put_line-live.ensures)
    c.put_line.ensures

pub shape_of-buf : goal.shape_of-buf
shape_of-buf c = kept (returns c)
