use Prim.Native.Nat.{◌+◌}
use mathlib.Core.Bool.{true, false}
use mathlib.Core.Path.{◌≡◌, sym, ◌∙◌}
use native.Mathlib.Nat.{add-sub_cancel_left}
use borrow.Author.Rules.{rules}
use Rattle.page.specs.Tags.{claim_at}
use Rattle.page.specs.Find.{is_good}
use Rattle.page.proofs.Blocks.{not_good, sequence_here, sequence_next, sequence_end}
use Rattle.page.proofs.find.first_sequence.Goals as goal

pub loop-i-init : goal.loop-i-init
loop-i-init c = (search rules, rw (add-sub_cancel_left c.args.block c.args.g.block))

pub loop-i-preserved : goal.loop-i-preserved
loop-i-preserved c =
    let q = c.loop-i in
    let a = c.args in
    let said = claim_at a.g a.dump.now in
    let g : is_good (said q.i) ≡ false = rw (← c.claim_at-claim.ensures) (not_good c.claim_at-claim.result c.in_default.not-Header c.in_default.not-Data) in
    (search rules, q.invariant.1 ∙ sequence_next said q.i (a.block + a.g.block) c.if-end-i.false g)

pub returns-then-end-i : goal.returns-then-end-i
returns-then-end-i c =
    let q = c.loop-i in
    let a = c.args in
    sym (q.invariant.1 ∙ sequence_end (claim_at a.g a.dump.now) q.i (a.block + a.g.block) c.if-end-i.true)

pub returns-in-Header : goal.returns-in-Header
returns-in-Header c =
    let q = c.loop-i in
    let a = c.args in
    let said = claim_at a.g a.dump.now in
    let g : is_good (said q.i) ≡ true = rw (← c.claim_at-claim.ensures, c.in-Header.is) in
    sym (q.invariant.1 ∙ sequence_here said q.i (a.block + a.g.block) c.if-end-i.false g ∙ rw (← c.claim_at-claim.ensures, c.in-Header.is))

pub returns-in-Data : goal.returns-in-Data
returns-in-Data c =
    let q = c.loop-i in
    let a = c.args in
    let said = claim_at a.g a.dump.now in
    let g : is_good (said q.i) ≡ true = rw (← c.claim_at-claim.ensures, c.in-Data.is) in
    sym (q.invariant.1 ∙ sequence_here said q.i (a.block + a.g.block) c.if-end-i.false g ∙ rw (← c.claim_at-claim.ensures, c.in-Data.is))
