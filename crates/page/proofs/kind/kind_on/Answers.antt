-- The tags are read once, and say which kind the page is.
use native.Mathlib.Omega.{arith}
use Rattle.page.proofs.Layouts.{roomy_facts}
use Rattle.page.proofs.kind.kind_on.Goals as goal

pub kind_by-requires : goal.kind_by-requires
kind_by-requires c = omega (arith, roomy_facts c.args.l c.requires.l_value)
