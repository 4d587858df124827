use Prim.Native.Nat.{◌+◌}
use mathlib.Core.Bool.{false}
use mathlib.Core.Path.{◌≡◌, sym, ap, ◌∙◌}
use native.Mathlib.Omega.{arith}
use lib.ListN.{length}
use Rattle.page.specs.Records.{is_data, record_at}
use Rattle.page.specs.Tags.{names_at}
use Rattle.page.proofs.Sound.{else_data}
use Rattle.chunk.specs.Records.{is_of}
use Rattle.chunk.specs.Takes.{seen_by}
use Rattle.chunk.specs.Sizes.{size_of}
use Rattle.chunk.proofs.Records.{seen_unnamed}
use Rattle.chunk.proofs.Gathering.{end_none, end_other, end_skip, end_step}
use Rattle.why.specs.Marks.{marks_to}
use Rattle.why.proofs.Putting.{count_none, count_more, marks_same, marks_few}
use Rattle.why.proofs.marks.measure.Goals as goal
use Rattle.why.proofs.marks.measure.Goals.{After-count-marks, in-Data, in_default}

pub loop-i-init : goal.loop-i-init
loop-i-init c =
    let a = c.args in
    let says = seen_by a.t (record_at a.g a.dump.now) in
    (sym (count_none says a.g.layout.«data» a.o.0 a.h.0), rw end_none)

pub loop-i-preserved-then-not-names_object : goal.loop-i-preserved-then-not-names_object
loop-i-preserved-then-not-names_object c =
    let q = c.loop-i in
    let a = c.args in
    let says = seen_by a.t (record_at a.g a.dump.now) in
    let u : names_at a.g a.dump.now q.i a.o.0 ≡ false = rw (← c.names_object.ensures) c.if-not-names_object.true in
    let t : is_of a.o.0 (says q.i) ≡ false = seen_unnamed a.g a.dump.now q.i a.o.0 u a.t in (
      q.invariant.0 ∙ ap length (sym (marks_same says a.g.layout.«data» a.o.0 a.h.0 q.i t)),
      q.invariant.1 ∙ sym (end_other says a.g.layout.«data» a.o.0 c.order_of-age.result q.i t),
    )

pub marks_of-requires : goal.marks_of-requires
marks_of-requires c = record { p_lt_page_values = omega (arith, c.loop-i-test.true, c.requires.pages_lt_page_values); data_le_most_data = c.requires.data_bound }

-- with those of the page they are one page more's
counted : (c : After-count-marks) → c.loop-i.marks + c.count-marks.result ≡ length (let a = c.args in marks_to (seen_by c.args.t (record_at c.args.g c.args.dump.now)) a.g.layout.«data» a.o.0 a.h.0 (c.loop-i.i + 1))
counted c =
    let a = c.args in
    rw (c.loop-i.invariant.0, c.count-marks.ensures, c.marks_of.ensures, c.seen_at-r.ensures)
    (sym (count_more (seen_by c.args.t (record_at c.args.g c.args.dump.now)) a.g.layout.«data» a.o.0 a.h.0 c.loop-i.i))

pub overflow_add-marks : goal.overflow_add-marks
overflow_add-marks c =
    let a = c.args in
    let few = marks_few (seen_by c.args.t (record_at c.args.g c.args.dump.now)) a.g.layout.«data» a.o.0 a.h.0 (c.loop-i.i + 1) in
    record { fits = omega (arith, counted c, few, c.loop-i-test.true, c.requires.pages_lt_page_values) }

pub loop-i-preserved : goal.loop-i-preserved
loop-i-preserved c =
    let q = c.loop-i in
    let a = c.args in
    let says = seen_by a.t (record_at a.g a.dump.now) in (
      counted (goal.at.loop-i-preserved c).After-count-marks,
      elim c.match-r.branch [
        | in-Data w ↦
            w.end-is
            ∙ w.end_with-end.ensures
            ∙ rw (q.invariant.1, ← w.in-Data.is, c.seen_at-r.ensures) (sym (end_step says a.g.layout.«data» a.o.0 c.order_of-age.result q.i))
        | in_default w ↦
            let t : is_data (says q.i) ≡ false = rw (← c.seen_at-r.ensures) (else_data c.seen_at-r.result w.in_default.not-Data) in
            w.end-is ∙ q.invariant.1 ∙ sym (end_skip says a.g.layout.«data» a.o.0 c.order_of-age.result q.i t)
      ],
    )

pub returns : goal.returns
unfolding size_of
returns c =
    let q = c.loop-i in
    let e : q.i ≡ c.args.pages = omega arith in record { marks_value = rw e at q.invariant.0; size_value = rw (← c.seen_at-newest.ensures, ← c.sequence_of.ensures, ← c.order_of-age.ensures, ← e, ← q.invariant.1, ← c.file_size.ensures, ← c.from.ensures) c.max.ensures }
