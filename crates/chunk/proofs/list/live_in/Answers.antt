use mathlib.Core.Bool.{false}
use mathlib.Core.Path.{◌≡◌, sym, ◌∙◌}
use native.Mathlib.Omega.{arith}
use borrow.Author.Rules.{rules}
use Rattle.page.specs.Records.{is_header, record_at}
use Rattle.page.proofs.Searching.{count_none}
use Rattle.page.proofs.Sound.{else_header}
use Rattle.chunk.specs.Live.{live_page, live_count}
use Rattle.chunk.proofs.Living.{count_skip, count_take, live_other, live_header}
use Rattle.chunk.proofs.list.live_in.Goals as goal
use Rattle.chunk.proofs.list.live_in.Goals.{then-is_live, else-is_live}

pub loop-i-init : goal.loop-i-init
loop-i-init c = (search rules, rw count_none)

pub loop-i-preserved-in_default : goal.loop-i-preserved-in_default
loop-i-preserved-in_default c =
    let q = c.loop-i in
    let a = c.args in
    let says = record_at a.g a.dump.now in
    let h : is_header (says q.i) ≡ false = rw (← c.record_at.ensures) (else_header c.record_at.result c.in_default.not-Header) in
    (search rules, q.invariant.1 ∙ sym (count_skip _ q.i (live_other says a.pages q.i h)))

pub loop-i-preserved : goal.loop-i-preserved
loop-i-preserved c =
    let q = c.loop-i in
    let a = c.args in
    let says = record_at a.g a.dump.now in
    let called : live_page says a.pages q.i ≡ c.is_live.result = live_header says a.pages q.i _ (sym c.record_at.ensures ∙ c.in-Header.is) ∙ sym c.is_live.ensures in
    elim c.if-is_live.branch [
      | then-is_live w ↦ (omega arith, rw (w.count-is, q.invariant.1) (sym (count_take _ q.i (called ∙ w.if-is_live.true))))
      | else-is_live w ↦ (omega arith, rw w.count-is (q.invariant.1 ∙ sym (count_skip _ q.i (called ∙ w.if-is_live.false))))
    ]

pub returns : goal.returns
unfolding live_count
returns c =
    let e : c.loop-i.i ≡ c.args.pages = omega arith in
    rw e at c.loop-i.invariant.1
