use Prim.Native.Nat.{◌+◌, ◌<◌}
use mathlib.Core.Path.{sym, ap, ◌∙◌}
use native.Mathlib.Omega.{arith}
use Rattle.page.specs.Tags.{claim_at}
use Rattle.page.specs.Leaving.{at_least}
use Rattle.page.proofs.Blocks.{Through, through_none, through_on}
use Rattle.page.proofs.Leaving.{through_lost, through_won, through_fits, at_least_lem, not_least}
use Rattle.page.proofs.find.score_in.Goals as goal
use Rattle.page.proofs.find.score_in.Goals.{Else-next-pages, After-struct_known-1}

pub loop-g-init : goal.loop-g-init
loop-g-init c = through_none (claim_at c.args.g c.args.dump.now) c.args.g.block c.args.pages c.requires.block_nonzero c.requires.pages_bound c.requires.block_value

pub is_lost-requires : goal.is_lost-requires
is_lost-requires c = (through_fits c.loop-g.invariant).0

pub returns-then-is_lost : goal.returns-then-is_lost
returns-then-is_lost c =
    let q = c.loop-g in
    let a = c.args in
    sym (not_least a.need _ (through_lost q.invariant a.need (sym c.is_lost.ensures ∙ c.if-is_lost.true)))

pub returns-then-next-pages : goal.returns-then-next-pages
returns-then-next-pages c =
    let q = c.loop-g in
    let a = c.args in
    let w = through_won q.invariant a.need c.if-next-pages.true (sym c.is_lost.ensures ∙ c.if-is_lost.false) in
    sym (ap (at_least a.need) w.1 ∙ at_least_lem a.need q.score w.0)

-- blocks are left
more : (c : Else-next-pages) → c.loop-g.next < c.args.pages
more c = omega (arith, c.loop-g.invariant.within, c.if-next-pages.false)

-- one block on
on : (c : After-struct_known-1) → let a = c.args in
    Through (claim_at a.g a.dump.now) a.g.block a.pages (c.loop-g.next + a.g.block) (c.loop-g.score + c.gain_in-gain.result.score) (c.loop-g.marked + c.gain_in-gain.result.marked)
on c =
    let more : c.loop-g.next < c.args.pages = omega (arith, c.loop-g.invariant.within, c.if-next-pages.false) in
    through_on c.loop-g.invariant c.gain_in-gain.result.score c.gain_in-gain.result.marked more
    c.gain_in-gain.ensures.scored c.gain_in-gain.ensures.counted

pub overflow_add-score : goal.overflow_add-score
overflow_add-score c = omega (arith, (through_fits (on (goal.at.overflow_add-score c).After-struct_known-1)).1)

pub overflow_add-marked : goal.overflow_add-marked
overflow_add-marked c = omega (arith, (through_fits (on (goal.at.overflow_add-marked c).After-struct_known-1)).2)

pub loop-g-preserved : goal.loop-g-preserved
loop-g-preserved c = on (goal.at.loop-g-preserved c).After-struct_known-1
