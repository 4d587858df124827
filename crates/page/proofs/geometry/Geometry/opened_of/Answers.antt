-- The tests come in the definition's order. A layout of the table has room, so that its page length is no zero divisor.
use mathlib.Core.Bool.{true}
use mathlib.Core.Path.{◌≡◌}
use native.Mathlib.Omega.{arith}
use native.Mathlib.Nat.{div-le_self}
use Rattle.page.specs.Layouts.{layout_of, roomy}
use Rattle.page.proofs.Layouts.{listed_roomy, roomy_facts}
use Rattle.page.proofs.Lengths.{length_most}
use Rattle.page.proofs.geometry.Geometry.opened_of.Goals as goal
use Rattle.page.proofs.geometry.Geometry.opened_of.Goals.{Else-not-length_fits}

has_room : (c : Else-not-length_fits) → roomy (let a = c.args in layout_of a.«data» a.spare a.tag) ≡ true
has_room c = listed_roomy (let a = c.args in layout_of a.«data» a.spare a.tag) (rw (← c.number.ensures) c.if-number-ge-COUNT.false)

pub divides-requires : goal.divides-requires
divides-requires c = record { layout_value = has_room c; block_value = rw (← c.block_fits.ensures) c.if-not-block_fits.false }

pub nonzero_div-result : goal.nonzero_div-result
nonzero_div-result c = omega (arith, roomy_facts _ (has_room (goal.at.nonzero_div-result c).Else-not-length_fits), c.page_len.ensures.value)

pub overflow_cast-result : goal.overflow_cast-result
overflow_cast-result c =
    let a = c.args in
    let m = length_most a.len (rw (← c.length_fits.ensures) c.if-not-length_fits.false) in
    omega (arith, div-le_self a.len c.page_len.result)
