-- A refused dump is refused before anything else.
use mathlib.Core.Path.{sym, ◌∙◌}
use Rattle.page.proofs.Passing.{passed_on}
use Rattle.index.proofs.Walk.Ahead.{size_refused}
use Rattle.file.specs.Copies.{copied_from, copied_by}
use Rattle.file.proofs.copies.copies.Goals as goal

pub returns-in_err-pages-clause-value : goal.returns-in_err-pages-clause-value
unfolding copied_from copied_by
returns-in_err-pages-clause-value c = passed_on _ c.from_residual.ensures.1 ∙ rw (size_refused _ _ _ _ _ (sym c.in_err-pages.ensures))
