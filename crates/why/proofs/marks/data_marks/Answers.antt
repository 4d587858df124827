-- The marks of a chunk lie before the last place.
use Prim.Native.Nat.{◌+◌, ◌<◌}
use mathlib.Core.Path.{sym, ◌∙◌}
use native.Mathlib.Omega.{arith}
use Rattle.why.specs.Marks.{places}
use Rattle.why.proofs.Places.{page_inside}
use Rattle.why.proofs.marks.data_marks.Goals as goal
use Rattle.why.proofs.marks.data_marks.Goals.{After-base_of-base}

-- the page of the chunk ends before the last place
inside : (b : After-base_of-base) → b.base_of-base.result + b.args.«data» < places
inside b =
    let a = b.args in
    rw b.base_of-base.ensures.value (page_inside a.«data» a.d.chunk.0 b.requires.data_le_most_data (sym b.is_bad.ensures ∙ b.if-is_bad.false))

pub mark-begin-requires-clause-place_lt_places : goal.mark-begin-requires-clause-place_lt_places
mark-begin-requires-clause-place_lt_places c = omega (arith, inside c)

pub mark-next-requires-clause-place_lt_places : goal.mark-next-requires-clause-place_lt_places
mark-next-requires-clause-place_lt_places c = omega (arith, inside (goal.at.mark-next-requires-clause-place_lt_places c).After-base_of-base)

pub mark-requires-clause-place_lt_places : goal.mark-requires-clause-place_lt_places
mark-requires-clause-place_lt_places c = omega (arith, inside (goal.at.mark-requires-clause-place_lt_places c).After-base_of-base, c.if-data-d.false)
