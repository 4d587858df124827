use mathlib.Core.Bool.{true, false}
use mathlib.Core.Path.{◌≡◌, sym, ◌∙◌}
use native.Mathlib.Omega.{arith}
use borrow.Author.Rules.{rules}
use Rattle.page.specs.Layouts.{layout_at, has_sizes}
use Rattle.page.proofs.Searching.{first_here, first_next, first_end}
use Rattle.page.proofs.layout.Layout.number_of.Goals as goal

pub returns-then-is : goal.returns-then-is
returns-then-is c =
    let a = c.args in
    let t : has_sizes a.«data» a.spare a.tag (layout_at c.loop-n.n) ≡ true = rw (← c.row.ensures, ← c.is.ensures) c.if-is.true in
    sym (c.loop-n.invariant ∙ first_here _ _ 13 (search rules) t)

pub loop-n-preserved : goal.loop-n-preserved
loop-n-preserved c =
    let a = c.args in
    let t : has_sizes a.«data» a.spare a.tag (layout_at c.loop-n.n) ≡ false = rw (← c.row.ensures, ← c.is.ensures) c.if-is.false in
    c.loop-n.invariant ∙ first_next _ _ 13 (search rules) t

pub returns : goal.returns
returns c =
    let e : c.loop-n.n ≡ 13 = omega arith in
    rw e at (sym (c.loop-n.invariant ∙ first_end _ _ 13 (search rules)))
