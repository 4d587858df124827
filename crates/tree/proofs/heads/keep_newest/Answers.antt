use mathlib.Core.Path.{sym, ◌∙◌}
use native.Mathlib.Omega.{arith}
use Rattle.tree.proofs.NewestEach.{kept_same, kept_other, kept_end}
use Rattle.tree.proofs.heads.keep_newest.Goals as goal

pub loop-i-preserved-then-key_of : goal.loop-i-preserved-then-key_of
loop-i-preserved-then-key_of c =
    let e = sym c.key_of.ensures ∙ c.if-key_of.true ∙ c.key_of-in-loop-i.ensures in
    rw c.newer_row-best.ensures (kept_same _ _ _ _ _ _ c.loop-i.invariant c.loop-i-test.true e)

pub loop-i-preserved : goal.loop-i-preserved
loop-i-preserved c =
    let q = c.loop-i in
    kept_other _ _ _ _ _ _ q.invariant c.loop-i-test.true
    (λ e. c.if-key_of.false (c.key_of.ensures ∙ e ∙ sym c.key_of-in-loop-i.ensures))

pub returns : goal.returns
returns c =
    let q = c.loop-i in
    record { upper_bound = omega (arith, q.invariant.order, q.invariant.inside); rows_after = kept_end _ _ _ _ _ _ q.invariant c.loop-i-test.false }
