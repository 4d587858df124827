-- The two parts show the bytes of the field on both sides, with zeros behind their ends: so they differ exactly where the field does, and its line is
-- put there.
use mathlib.Core.Path.{◌≡◌, ◌∙◌}
use native.Mathlib.Omega.{arith}
use Rattle.text.proofs.Putting.{nothing}
use Rattle.compare.specs.Differences.{differ_in}
use Rattle.compare.specs.Lines.{field_lines}
use Rattle.compare.specs.Views.{byte_of}
use Rattle.compare.proofs.Differing.{part_shows, shown_differ}
use Rattle.compare.proofs.fields.put_field.Goals as goal
use Rattle.compare.proofs.fields.put_field.Goals.{After-differ}

differs : (k : After-differ) → let a = k.args in k.differ.result ≡ differ_in (byte_of a.one.now) (byte_of a.other.now) a.place a.length
differs k =
    let a = k.args in
    k.differ.ensures ∙ rw (k.part.ensures, k.part-2.ensures) (shown_differ (part_shows a.one.now a.place a.length) (part_shows a.other.now a.place a.length))

pub returns-then-differ : goal.returns-then-differ
unfolding field_lines
returns-then-differ c = rw (← differs (goal.at.returns-then-differ c).After-differ, c.if-differ.true) c.put_line.ensures

pub returns-else-differ : goal.returns-else-differ
unfolding field_lines
returns-else-differ c = rw (← differs (goal.at.returns-else-differ c).After-differ, c.if-differ.false) (nothing _ _ (omega arith) (omega arith))
