-- The sequence word of a page settles whether it bears the sequence, or leaves it to the other tests.
use mathlib.Core.Bool.{true}
use mathlib.Core.Path.{◌≡◌, sym, ◌∙◌, ap}
use lib.ListN.{length}
use borrow.Author.Tests.{ne_eqb}
use Rattle.page.specs.Lengths.{page_in}
use Rattle.page.specs.Tags.{claim_on, claim_at}
use Rattle.page.specs.Find.{is_good}
use Rattle.page.proofs.Blocks.{bears_other, bears_same}
use Rattle.page.proofs.find.bears.Goals as goal
use Rattle.page.proofs.find.bears.Goals.{Else-not-holds}

lies : (c : Else-not-holds) → page_in c.args.g (length c.args.dump.now) c.args.n.0 ≡ true
lies c = rw (← c.holds.ensures) c.if-not-holds.false

pub returns-else-t-sequence : goal.returns-else-t-sequence
unfolding claim_at claim_on
returns-else-t-sequence c =
    let a = c.args in
    rw (lies (goal.at.returns-else-t-sequence c).Else-not-holds, ← c.tags_at-t.ensures, ne_eqb _ _ c.if-t-sequence.false) (sym (bears_other c.tags_at-t.result a.g.layout.«data» a.sequence c.if-t-sequence.false))

pub returns-then-t-sequence : goal.returns-then-t-sequence
unfolding claim_at claim_on
returns-then-t-sequence c =
    let a = c.args in
    rw (lies (goal.at.returns-then-t-sequence c).Else-not-holds, ← c.tags_at-t.ensures)
    (c.is_good.ensures ∙ ap is_good c.claim.ensures ∙ sym (bears_same c.tags_at-t.result a.g.layout.«data» a.sequence c.if-t-sequence.true))
