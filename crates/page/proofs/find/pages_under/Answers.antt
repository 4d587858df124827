-- A layout with room has no page length of 0, and few enough pages to count.
use native.Mathlib.Nat.{div-le_self}
use native.Mathlib.Omega.{arith}
use Rattle.page.proofs.Layouts.{roomy_facts}
use Rattle.page.proofs.Lengths.{length_most}
use Rattle.page.proofs.find.pages_under.Goals as goal

pub nonzero_div-result : goal.nonzero_div-result
nonzero_div-result c = omega (arith, roomy_facts c.args.g.layout c.requires.layout_value, c.page_len.ensures.value)

pub overflow_cast-result : goal.overflow_cast-result
overflow_cast-result c = omega (arith, length_most c.args.len c.requires.len_value, div-le_self c.args.len c.page_len.result)
