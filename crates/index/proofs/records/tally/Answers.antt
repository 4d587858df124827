use mathlib.Core.Path.{refl, sym, ◌∙◌}
use native.Mathlib.Omega.{arith}
use Rattle.page.specs.Records.{record_at}
use Rattle.chunk.specs.Records.{age_of}
use Rattle.index.specs.Chains.{objects, top}
use Rattle.index.specs.declared.chains.Step.TheVariants.{End, Damaged, Record}
use Rattle.index.proofs.Chain.Links.{stepped}
use Rattle.index.proofs.Chain.Turns.{count_on, few}
use Rattle.index.proofs.Walk.Recorded.{tally_all, tally_end, tally_broken, tally_on}
use Rattle.index.proofs.records.tally.Goals as goal

pub loop-q-init : goal.loop-q-init
loop-q-init c =
    let a = c.args in
    let says = record_at a.g a.dump.now in
    (omega (arith, few a.pages (objects says) (age_of says) a.cells.now a.o.0 top a.first), sym (tally_all _))

pub returns-in-End : goal.returns-in-End
returns-in-End c =
    let q = c.loop-q in
    let k = stepped _ _ _ _ _ _ End c.in-End.ensures in
    sym (q.invariant.1 ∙ tally_end _ _ k)

pub returns-in-Damaged : goal.returns-in-Damaged
returns-in-Damaged c =
    let q = c.loop-q in
    let k = stepped _ _ _ _ _ _ Damaged c.in-Damaged.ensures in
    sym (q.invariant.1 ∙ tally_broken _ _ k)

pub overflow_add-count : goal.overflow_add-count
overflow_add-count c =
    let k = stepped _ _ _ c.args.cells.now _ _ (Record _ _ _) c.in-Record.ensures in
    omega (arith, c.loop-q.invariant.0, count_on _ _ _ (k.onward _ refl))

pub loop-q-smaller : goal.loop-q-smaller
loop-q-smaller c = (stepped _ _ _ c.args.cells.now _ _ (Record _ _ _) c.in-Record.ensures).older

pub loop-q-preserved : goal.loop-q-preserved
loop-q-preserved c =
    let k = stepped _ _ _ c.args.cells.now _ _ (Record _ _ _) c.in-Record.ensures in
    let e = k.onward _ c.link_of-link.ensures in
    (omega (arith, c.loop-q.invariant.0, count_on _ _ _ e), c.loop-q.invariant.1 ∙ tally_on _ _ _ _ e)
