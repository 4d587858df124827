use mathlib.Core.Path.{refl, sym, ◌∙◌}
use native.Mathlib.Omega.{arith}
use Rattle.page.specs.Records.{record_at}
use Rattle.chunk.specs.Records.{age_of}
use Rattle.index.specs.Chains.{objects, top}
use Rattle.index.specs.declared.chains.Step.TheVariants.{End, Damaged, Record}
use Rattle.index.proofs.Chain.Links.{stepped, role_data, role_header}
use Rattle.index.proofs.Chain.Turns.{reach_end, reach_broken, reach_here, reach_on, count_on, few}
use Rattle.index.proofs.walks.reach_header.Goals as goal

pub loop-q-init : goal.loop-q-init
loop-q-init c =
    let a = c.args in
    let says = record_at a.g a.dump.now in
    (omega (arith, few a.pages (objects says) (age_of says) a.cells.now a.o.0 top a.first), refl)

pub returns-in-End : goal.returns-in-End
returns-in-End c =
    let q = c.loop-q in
    let k = stepped _ _ _ _ _ _ End c.in-End.ensures in
    c.headless.ensures ∙ sym (q.invariant.1 ∙ reach_end _ _ _ _ _ _ _ k)

pub returns-in-Damaged : goal.returns-in-Damaged
returns-in-Damaged c =
    let q = c.loop-q in
    let k = stepped _ _ _ _ _ _ Damaged c.in-Damaged.ensures in
    rw c.into.ensures (sym (q.invariant.1 ∙ reach_broken _ _ _ _ _ _ _ k))

pub overflow_add-visits : goal.overflow_add-visits
overflow_add-visits c =
    let k = stepped _ _ _ c.args.cells.now _ _ (Record _ _ _) c.in-Record.ensures in
    omega (arith, c.loop-q.invariant.0, count_on _ _ _ (k.onward _ refl))

pub returns-in_default : goal.returns-in_default
returns-in_default c =
    let k = stepped _ _ _ c.args.cells.now _ _ (Record _ _ _) c.in-Record.ensures in
    let a = c.args in
    let says = record_at a.g a.dump.now in
    let e = role_header (says c.in-Record.q.0) k.leads.some (sym c.in_default.is ∙ k.is) in
    sym (c.loop-q.invariant.1 ∙ reach_here says _ _ _ _ _ _ _ _ (k.onward _ refl) e)

pub loop-q-smaller : goal.loop-q-smaller
loop-q-smaller c = (stepped _ _ _ c.args.cells.now _ _ (Record _ _ _) c.in-Record.ensures).older

pub loop-q-preserved : goal.loop-q-preserved
loop-q-preserved c =
    let k = stepped _ _ _ c.args.cells.now _ _ (Record _ _ _) c.in-Record.ensures in
    let q = c.loop-q in
    let a = c.args in
    let says = record_at a.g a.dump.now in
    let e = role_data (says c.in-Record.q.0) _ (sym c.in-Data.is ∙ k.is) in
    let on = k.onward _ c.link_of-link.ensures in (
      omega (arith, q.invariant.0, count_on _ _ _ on),
      q.invariant.1
          ∙ reach_on says _ _ _ _ _ _ _ _ on (rw e refl)
          ∙ rw (c.max-end.ensures, c.end_of.ensures, c.first_met-met.ensures, e),
    )
