-- A refusal of the dump is passed on.
use mathlib.Core.Path.{◌∙◌}
use Rattle.page.proofs.Passing.{passed_on}
use Rattle.index.specs.Walks.{chunk_from}
use Rattle.index.proofs.lookups.chunk.Goals as goal

pub returns-in_err-pages : goal.returns-in_err-pages
unfolding chunk_from
returns-in_err-pages c = passed_on _ c.from_residual.ensures.1 ∙ rw (← c.in_err-pages.ensures)
