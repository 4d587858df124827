use mathlib.Core.Bool.{true, false}
use mathlib.Core.Path.{◌≡◌, sym, ap, ◌∙◌}
use native.Mathlib.Omega.{arith}
use Rattle.page.specs.Records.{is_header}
use Rattle.page.specs.declared.record.Record.TheVariants.{Header}
use Rattle.page.proofs.Sound.{else_header}
use Rattle.chunk.proofs.Living.{passed_none, passed_skip, passed_take, passed_length}
use Rattle.text.proofs.Putting.{nothing, also}
use Rattle.tree.specs.Heads.{is_head, head_row}
use Rattle.tree.specs.Objects.{says_by}
use Rattle.tree.proofs.Fronts.{put_filled}
use Rattle.tree.proofs.heads.gather_heads.Goals as goal

pub loop-i-preserved-in_default : goal.loop-i-preserved-in_default
loop-i-preserved-in_default c =
    let q = c.loop-i in
    let a = c.args in
    let says = says_by a.g a.dump.now a.t in
    let h : is_head says q.i ≡ false = rw (← c.seen_at.ensures) (else_header c.seen_at.result c.in_default.not-Header) in
    rw (passed_skip (is_head says) (head_row says) q.i h) q.invariant

pub loop-i-preserved : goal.loop-i-preserved
loop-i-preserved c =
    let q = c.loop-i in
    let a = c.args in
    let says = says_by a.g a.dump.now a.t in
    let e : says q.i ≡ Header c.in-Header.h = rw (← c.seen_at.ensures) c.in-Header.is in
    let h : is_head says q.i ≡ true = ap is_header e in
    let r : c.pack.result ≡ head_row says q.i = rw e c.pack.ensures in
    rw (passed_take (is_head says) (head_row says) q.i h, ← r) (also q.invariant c.put_row-at.ensures)

pub returns : goal.returns
returns c =
    let q = c.loop-i in
    let a = c.args in
    let says = says_by a.g a.dump.now a.t in
    let e : q.i ≡ a.pages = omega arith in
    put_filled (rw e at q.invariant) (passed_length (is_head says) (head_row says) a.pages ∙ sym c.requires)

pub loop-i-init : goal.loop-i-init
loop-i-init c = rw passed_none (nothing _ _ (omega arith) (omega arith))
