use mathlib.Core.Path.{◌≡◌, sym, ◌∙◌}
use native.Mathlib.Omega.{arith}
use borrow.Author.Rules.{rules}
use Rattle.page.proofs.Searching.{count_none}
use Rattle.chunk.proofs.Living.{count_skip, count_take}
use Rattle.tree.specs.Heads.{is_head}
use Rattle.tree.specs.Objects.{says_by}
use Rattle.tree.proofs.heads.count_heads.Goals as goal
use Rattle.tree.proofs.heads.count_heads.Goals.{then-is_header, else-is_header}

pub loop-i-init : goal.loop-i-init
loop-i-init c = (search rules, rw count_none)

pub loop-i-preserved : goal.loop-i-preserved
loop-i-preserved c =
    let q = c.loop-i in
    let a = c.args in
    let h : is_head (says_by a.g a.dump.now a.t) q.i ≡ c.is_header.result = rw (← c.seen_at.ensures) (sym c.is_header.ensures) in
    elim c.if-is_header.branch [
      | then-is_header w ↦ (omega arith, rw (w.count-is, q.invariant.1) (sym (count_take _ q.i (h ∙ w.if-is_header.true))))
      | else-is_header w ↦ (omega arith, rw w.count-is (q.invariant.1 ∙ sym (count_skip _ q.i (h ∙ w.if-is_header.false))))
    ]
