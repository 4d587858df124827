-- The figures are those under the layout that was found, under which the dump is accepted.
use mathlib.Core.Path.{sym}
use Rattle.page.proofs.Finding.{found_opens}
use Rattle.summary.specs.Figures.{figured_by, figured_of, figured_on}
use Rattle.summary.proofs.figures.figures_of.Goals as goal

pub returns : goal.returns
unfolding figured_by figured_of figured_on
returns c =
    let e = sym c.in_ok-layout.ensures in
    rw e (rw (found_opens c.args.dump.now c.args.k _ e) at c.figures_on.ensures)
