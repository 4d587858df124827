use mathlib.Core.Bool.{true, false}
use mathlib.Core.Path.{◌≡◌, sym, ap, ◌∙◌}
use native.Mathlib.Omega.{arith}
use Rattle.page.specs.Records.{is_header, record_at}
use Rattle.page.proofs.Sound.{else_header}
use Rattle.chunk.specs.Records.{object_of}
use Rattle.chunk.specs.Live.{object_at, live_page, live_ids, live_count}
use Rattle.chunk.proofs.Living.{live_other, live_header}
use Rattle.chunk.proofs.Sorting.{listed_none, listed_skip, listed_room, listed_more, listed_sorted}
use Rattle.chunk.proofs.list.write_live.Goals as goal
use Rattle.chunk.proofs.list.write_live.Goals.{then-is_live, else-is_live}

pub loop-i-init : goal.loop-i-init
loop-i-init c = listed_none _ _ _

pub loop-i-preserved-in_default : goal.loop-i-preserved-in_default
loop-i-preserved-in_default c =
    let q = c.loop-i in
    let a = c.args in
    let says = record_at a.g a.dump.now in
    let h : is_header (says q.i) ≡ false = rw (← c.record_at.ensures) (else_header c.record_at.result c.in_default.not-Header) in
    let t = live_other says a.pages q.i h in
    listed_skip q.invariant t

pub loop-i-preserved : goal.loop-i-preserved
unfolding live_count
loop-i-preserved c =
    let q = c.loop-i in
    let a = c.args in
    let says = record_at a.g a.dump.now in
    let test = live_page says a.pages in
    let called : test q.i ≡ c.is_live.result = live_header says a.pages q.i _ (sym c.record_at.ensures ∙ c.in-Header.is) ∙ sym c.is_live.ensures in
    elim c.if-is_live.branch [
      | then-is_live w ↦
          let t : test q.i ≡ true = called ∙ w.if-is_live.true in
          let o : object_at says q.i ≡ c.in-Header.h.object.0 = ap object_of (sym c.record_at.ensures ∙ c.in-Header.is) in
          let room = listed_room q.invariant a.pages c.loop-i-test.true t c.requires in
          rw (w.words-is, w.count-is) (listed_more q.invariant _ t room (rw o w.put_id.ensures))
      | else-is_live w ↦ rw (w.words-is, w.count-is) (listed_skip q.invariant (called ∙ w.if-is_live.false))
    ]

pub returns : goal.returns
unfolding live_ids
returns c =
    let q = c.loop-i in
    let a = c.args in
    let says = record_at a.g a.dump.now in
    let e : q.i ≡ a.pages = omega arith in
    c.sort.ensures
    ∙ (rw e at (listed_sorted q.invariant))
