use mathlib.Core.Bool.{false}
use mathlib.Core.Path.{◌≡◌, sym, ◌∙◌}
use native.Mathlib.Omega.{arith}
use Rattle.page.specs.Records.{is_header, record_at}
use Rattle.page.specs.Tags.{names_at}
use Rattle.page.proofs.Sound.{else_header}
use Rattle.chunk.specs.Takes.{seen_by}
use Rattle.chunk.specs.Records.{is_of}
use Rattle.chunk.proofs.Records.{seen_unnamed}
use Rattle.chunk.proofs.Gathering.{cut_none, cut_skip, cut_other, cut_step}
use Rattle.chunk.proofs.scan.lowest_cut.Goals as goal

pub loop-i-init : goal.loop-i-init
loop-i-init c = rw cut_none

pub loop-i-preserved-then-not-names_object : goal.loop-i-preserved-then-not-names_object
loop-i-preserved-then-not-names_object c =
    let q = c.loop-i in
    let a = c.args in
    let says = seen_by a.t (record_at a.g a.dump.now) in
    let u : names_at a.g a.dump.now q.i a.o.0 ≡ false = rw (← c.names_object.ensures) c.if-not-names_object.true in
    let t : is_of a.o.0 (says q.i) ≡ false = seen_unnamed a.g a.dump.now q.i a.o.0 u a.t in
    (q.invariant ∙ sym (cut_other says a.o.0 a.h.0 a.age q.i t))

pub loop-i-preserved-in_default : goal.loop-i-preserved-in_default
loop-i-preserved-in_default c =
    let q = c.loop-i in
    let a = c.args in
    let says = seen_by a.t (record_at a.g a.dump.now) in
    let t : is_header (says q.i) ≡ false = rw (← c.seen_at.ensures) (else_header c.seen_at.result c.in_default.not-Header) in
    (q.invariant ∙ sym (cut_skip says a.o.0 a.h.0 a.age q.i t))

pub loop-i-preserved : goal.loop-i-preserved
loop-i-preserved c =
    let q = c.loop-i in
    let a = c.args in
    let says = seen_by a.t (record_at a.g a.dump.now) in
    (c.cut_with-cut.ensures ∙ rw (q.invariant, ← c.in-Header.is, c.seen_at.ensures) (sym (cut_step says a.o.0 a.h.0 a.age q.i)))

pub returns : goal.returns
returns c =
    let e : c.loop-i.i ≡ c.args.pages = omega arith in
    rw e at c.loop-i.invariant
