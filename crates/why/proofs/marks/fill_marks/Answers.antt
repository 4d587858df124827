use Prim.Native.Nat.{◌≤◌}
use mathlib.Core.Bool.{false}
use mathlib.Core.Path.{◌≡◌, ◌∙◌}
use native.Mathlib.Omega.{arith}
use lib.ListN.{length, set, length-set}
use Rattle.page.specs.Records.{record_at}
use Rattle.page.specs.Tags.{names_at}
use Rattle.chunk.specs.Takes.{seen_by}
use Rattle.why.specs.Marks.{marks_in, marks_of, marks_to}
use Rattle.chunk.proofs.Records.{seen_unnamed}
use Rattle.why.proofs.Putting.{marks_some, fill_none, fill_skip, fill_room, fill_more, fill_end}
use Rattle.why.proofs.marks.fill_marks.Goals as goal
use Rattle.why.proofs.marks.fill_marks.Goals.{After-mark, After-marks_of-made}

pub bounds-rows-0 : goal.bounds-rows-0
bounds-rows-0 c =
    let a = c.args in
    omega (arith, marks_some (seen_by a.t (record_at a.g a.dump.now)) a.g.layout.«data» a.o.0 a.h.0 a.pages, c.requires.pages_in_bounds)

pub loop-i-init : goal.loop-i-init
loop-i-init c =
    let a = c.args in
    let says = seen_by a.t (record_at a.g a.dump.now) in
    fill_none says a.g.layout.«data» a.o.0 a.h.0 a.pages c.mark.result a.rows.now c.mark.ensures
    (omega (arith, marks_some says a.g.layout.«data» a.o.0 a.h.0 a.pages, c.requires.pages_in_bounds))

pub loop-i-preserved-then-not-names_object : goal.loop-i-preserved-then-not-names_object
loop-i-preserved-then-not-names_object c =
    let q = c.loop-i in
    let a = c.args in
    let u : names_at a.g a.dump.now q.i a.o.0 ≡ false = rw (← c.names_object.ensures) c.if-not-names_object.true in
    fill_skip q.invariant c.loop-i-test.true (seen_unnamed a.g a.dump.now q.i a.o.0 u a.t)

-- all marks have room in the words, and those of the page are the definition's
room : (c : After-mark) → let a = c.args in
    length (marks_to (seen_by a.t (record_at a.g a.dump.now)) a.g.layout.«data» a.o.0 a.h.0 a.pages) ≤ length (set a.rows.now 0 c.mark.result)
room c = rw (length-set c.args.rows.now 0 c.mark.result) c.requires.pages_in_bounds

made : (c : After-marks_of-made) → let q = c.loop-i in
    let a = c.args in
    marks_in c.marks_of-made.result ≡ marks_of a.g.layout.«data» a.o.0 a.h.0 q.i (seen_by a.t (record_at a.g a.dump.now) q.i)
made c = rw (← c.seen_at.ensures) c.marks_of-made.ensures

pub put-at-requires : goal.put-at-requires
put-at-requires c = fill_room c.loop-i.invariant (room (goal.at.put-at-requires c).After-mark) c.loop-i-test.true (made (goal.at.put-at-requires c).After-marks_of-made)

pub loop-i-preserved : goal.loop-i-preserved
loop-i-preserved c = rw (c.put-at.ensures.rows_after, c.put-at.ensures.value) (fill_more c.loop-i.invariant (room (goal.at.loop-i-preserved c).After-mark) c.loop-i-test.true (made (goal.at.loop-i-preserved c).After-marks_of-made))

pub shape_of-rows : goal.shape_of-rows
shape_of-rows c = c.loop-i.invariant.long ∙ length-set c.args.rows.now 0 c.mark.result

pub returns : goal.returns
returns c = fill_end c.mark.result c.args.rows.now c.loop-i.invariant c.loop-i-test.false

pub marks_of-made-requires : goal.marks_of-made-requires
marks_of-made-requires c = record { p_lt_page_values = omega (arith, c.loop-i-test.true, c.requires.pages_lt_page_values); data_le_most_data = c.requires.data_bound }
