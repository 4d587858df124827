-- A page that is a header lies in the dump.
use mathlib.Core.Path.{◌≡◌, sym, ◌∙◌}
use Rattle.page.specs.Counts.{is_header}
use Rattle.page.specs.Kinds.{kind_at}
use Rattle.page.proofs.Sound.{header_in}
use Rattle.page.proofs.header.text_in.Goals as goal
use Rattle.page.proofs.header.text_in.Goals.{After-is_header}

tested : (c : After-is_header) → let a = c.args in is_header (kind_at a.g a.dump.now a.n.0) ≡ c.is_header.result
tested c = rw (← c.kind_at.ensures) (sym c.is_header.ensures)

pub text_on-requires : goal.text_on-requires
text_on-requires c = let a = c.args in header_in a.g a.dump.now a.n.0 (tested (goal.at.text_on-requires c).After-is_header ∙ c.if-is_header.true)
