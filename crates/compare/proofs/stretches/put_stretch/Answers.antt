-- The two parts show what both sides have of the stretch, so they differ where that does.
use mathlib.Core.Path.{sym, ◌∙◌}
use native.Mathlib.Omega.{arith}
use Rattle.text.proofs.Putting.{nothing}
use Rattle.compare.proofs.Differing.{shown_differ}
use Rattle.compare.proofs.Stretching.{line_same}
use Rattle.compare.proofs.stretches.put_stretch.Goals as goal

pub returns-else-differ : goal.returns-else-differ
returns-else-differ c =
    let e = sym (shown_differ c.part_in-a.ensures c.part_in-b.ensures) ∙ sym c.differ.ensures ∙ c.if-differ.false in
    rw (line_same _ _ e) (nothing _ _ (omega arith) (omega arith))
