-- A refusal of the place is passed on.
use mathlib.Core.Path.{sym, ◌∙◌}
use Rattle.std.specs.Prelude.{Err}
use Rattle.page.proofs.Passing.{passed_on}
use Rattle.index.proofs.Held.Cases.{at_refused, record_at_lem}
use Rattle.index.proofs.additions.add_record.Goals as goal

pub returns-in_err-at : goal.returns-in_err-at
returns-in_err-at c =
    rw (passed_on _ c.from_residual.ensures.1)
    (sym (at_refused _ _ _ _ _)
    ∙ record_at_lem _ _ _ _ _ _ _ (Err _) c.slot_of-s.ensures.value c.requires.own (sym c.in_err-at.was ∙ c.place_of.ensures.value))
