use mathlib.Core.Path.{refl, sym, ◌∙◌}
use Rattle.page.specs.Records.{record_at}
use Rattle.index.specs.declared.chains.Step.TheVariants.{End, Damaged, Record}
use Rattle.index.proofs.Chain.Links.{stepped, role_data, role_header}
use Rattle.index.proofs.Walk.Standing.{stands_end, stands_broken, stands_here, stands_on}
use Rattle.index.proofs.list.standing_from.Goals as goal

pub returns-in-End : goal.returns-in-End
returns-in-End c =
    let q = c.loop-q in
    let k = stepped _ _ _ _ _ _ End c.in-End.ensures in
    c.headless_standing.ensures ∙ sym (q.invariant ∙ stands_end _ _ _ _ k)

pub returns-in-Damaged : goal.returns-in-Damaged
returns-in-Damaged c =
    let q = c.loop-q in
    let k = stepped _ _ _ _ _ _ Damaged c.in-Damaged.ensures in
    sym (q.invariant ∙ stands_broken _ _ _ _ k)

pub returns-in_default : goal.returns-in_default
returns-in_default c =
    let k = stepped _ _ _ c.args.cells.now _ _ (Record _ _ _) c.in-Record.ensures in
    let a = c.args in
    let says = record_at a.g a.dump.now in
    let e = role_header (says c.in-Record.q.0) k.leads.some (sym c.in_default.is ∙ k.is) in
    c.headed_standing.ensures ∙ sym (c.loop-q.invariant ∙ stands_here _ says _ _ _ _ (k.onward _ refl) e)

pub loop-q-smaller : goal.loop-q-smaller
loop-q-smaller c = (stepped _ _ _ c.args.cells.now _ _ (Record _ _ _) c.in-Record.ensures).older

pub loop-q-preserved : goal.loop-q-preserved
loop-q-preserved c =
    let k = stepped _ _ _ c.args.cells.now _ _ (Record _ _ _) c.in-Record.ensures in
    let a = c.args in
    let says = record_at a.g a.dump.now in
    let e = role_data (says c.in-Record.q.0) _ (sym c.in-Data.is ∙ k.is) in
    c.loop-q.invariant ∙ stands_on _ says _ _ _ _ (k.onward _ c.link_of-link.ensures) (rw e refl)
