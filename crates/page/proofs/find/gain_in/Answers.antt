use mathlib.Core.Path.{◌≡◌, sym, ◌∙◌}
use native.Mathlib.Omega.{arith}
use borrow.Author.Rules.{rules}
use Rattle.page.specs.Tags.{claim_at}
use Rattle.page.specs.Find.{is_scored, marked_at}
use Rattle.page.proofs.Blocks.{tally_yes, tally_no, tally_le, scored_in_block}
use Rattle.page.proofs.find.gain_in.Goals as goal
use Rattle.page.proofs.find.gain_in.Goals.{then-bears, else-bears, then-is_marked, else-is_marked}

pub overflow_add-marked : goal.overflow_add-marked
overflow_add-marked c =
    let a = c.args in
    omega (arith, tally_le (marked_at (claim_at a.g a.dump.now)) a.block c.loop-i.i c.loop-i.marked c.loop-i.invariant.3)

pub overflow_add-score : goal.overflow_add-score
overflow_add-score c =
    let a = c.args in
    omega (arith, tally_le (is_scored (claim_at a.g a.dump.now) a.g.block) a.block c.loop-i.i c.loop-i.score c.loop-i.invariant.2)

pub loop-i-preserved : goal.loop-i-preserved
loop-i-preserved c =
    let a = c.args in
    let said = claim_at a.g a.dump.now in
    let score = is_scored said a.g.block in
    let marked = marked_at said in
    let t : score c.loop-i.i ≡ c.bears.result =
    scored_in_block said a.g.block a.block c.loop-i.i c.requires.block_value c.loop-i.invariant.0 (omega arith)
    ∙ rw (← c.first_sequence-sequence.ensures) (sym c.bears.ensures)
    in
    let m : marked c.loop-i.i ≡ c.is_marked.result = rw (← c.claim_at.ensures) (sym c.is_marked.ensures) in (
      search rules,
      search rules,
      elim c.if-bears.branch [
        | then-bears w ↦ rw w.score-is (tally_yes score a.block c.loop-i.i c.loop-i.score c.loop-i.invariant.2 (t ∙ w.if-bears.true))
        | else-bears w ↦ rw w.score-is (tally_no score a.block c.loop-i.i c.loop-i.score c.loop-i.invariant.2 (t ∙ w.if-bears.false))
      ],
      elim c.if-is_marked.branch [
        | then-is_marked w ↦ rw w.marked-is (tally_yes marked a.block c.loop-i.i c.loop-i.marked c.loop-i.invariant.3 (m ∙ w.if-is_marked.true))
        | else-is_marked w ↦ rw w.marked-is (tally_no marked a.block c.loop-i.i c.loop-i.marked c.loop-i.invariant.3 (m ∙ w.if-is_marked.false))
      ],
    )
