-- A number that the table lacks has sizes of 0.
use mathlib.Core.Path.{sym, ◌∙◌}
use Rattle.page.proofs.Naming.{numbered_none}
use Rattle.capi.proofs.layout.layout_at.Goals as goal

pub returns-in-Err : goal.returns-in-Err
returns-in-Err c = sym (numbered_none _ _ (sym c.numbered.ensures ∙ c.in-Err.is))
