-- A refused dump has no page.
use mathlib.Core.Path.{◌∙◌}
use Rattle.page.specs.Lengths.{placed_of, placed_in}
use Rattle.page.proofs.Passing.{passed_on}
use Rattle.page.proofs.geometry.Geometry.placed.Goals as goal

pub returns-in_err-count : goal.returns-in_err-count
unfolding placed_of placed_in
returns-in_err-count c = passed_on _ c.from_residual.ensures.1 ∙ rw (← c.in_err-count.ensures)
