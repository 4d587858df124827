use mathlib.Core.Bool.{true}
use mathlib.Core.Path.{◌≡◌, sym, ◌∙◌}
use native.Mathlib.Omega.{arith}
use Rattle.page.specs.Records.{record_at}
use Rattle.index.specs.Runs.{taken_by}
use Rattle.index.proofs.Demand.Runs.{run_none, run_skip, run_more, run_stop}
use Rattle.index.proofs.runs.run_pages.Goals as goal
use Rattle.index.proofs.runs.run_pages.Goals.{Else-not-is_taken}

taken-here : (c : Else-not-is_taken) → taken_by c.args.takes (record_at c.args.g c.args.dump.now) c.loop-i.i ≡ true
taken-here c = sym c.is_taken.ensures ∙ c.if-not-is_taken.false

pub loop-i-preserved-then-not-is_taken : goal.loop-i-preserved-then-not-is_taken
loop-i-preserved-then-not-is_taken c =
    let q = c.loop-i in
    (q.invariant.0, q.invariant.1 ∙ run_skip _ _ _ _ _ _ _ c.loop-i-test.true (sym c.is_taken.ensures ∙ c.if-not-is_taken.true))

pub returns-in-Err : goal.returns-in-Err
returns-in-Err c =
    let taken = taken-here (goal.at.returns-in-Err c).Else-not-is_taken in
    sym (c.loop-i.invariant.1 ∙ run_stop _ _ _ _ _ _ _ c.loop-i-test.true taken _ _ (rw c.in-Err.is at c.add_page.ensures))

pub loop-i-preserved : goal.loop-i-preserved
loop-i-preserved c =
    let taken = taken-here (goal.at.loop-i-preserved c).Else-not-is_taken in (
      c.add_page.auto.cells ∙ c.loop-i.invariant.0,
      c.loop-i.invariant.1 ∙ run_more _ _ _ _ _ _ _ c.loop-i-test.true taken _ (rw c.in_default.is at c.add_page.ensures),
    )

pub returns : goal.returns
returns c = let q = c.loop-i in sym (q.invariant.1 ∙ run_none _ _ _ _ _ _ _ (omega arith))
