use mathlib.Core.Path.{◌≡◌, refl, sym, ap, ◌∙◌}
use native.Mathlib.Omega.{arith}
use borrow.Author.Tests.{ne_eqb}
use Rattle.page.specs.Records.{record_at}
use Rattle.page.proofs.Within.{data_within}
use Rattle.chunk.specs.Records.{age_of}
use Rattle.index.specs.Cells.{word}
use Rattle.index.specs.Chains.{objects, top}
use Rattle.index.specs.Walks.{size_reached, size_walk}
use Rattle.index.specs.declared.chains.Step.TheVariants.{End, Damaged, Record}
use Rattle.index.proofs.Chain.Links.{stepped, role_data, role_header}
use Rattle.index.proofs.Chain.Turns.{reach_end, reach_broken, reach_here, reach_on, count_on, few}
use Rattle.index.proofs.lookups.size_walk.Goals as goal

pub loop-q-init : goal.loop-q-init
unfolding size_walk
loop-q-init c =
    let a = c.args in
    let says = record_at a.g a.dump.now in
    (omega (arith, few a.pages (objects says) (age_of says) a.cells.now a.o.0 top a.first), refl)

pub returns-in-End : goal.returns-in-End
unfolding size_reached
returns-in-End c =
    let q = c.loop-q in
    let k = stepped _ _ _ _ _ _ End c.in-End.ensures in
    sym (q.invariant.1 ∙ ap (size_reached _) (reach_end _ _ _ _ _ _ _ k ∙ sym c.headless.ensures))

pub returns-in-Damaged : goal.returns-in-Damaged
unfolding size_reached
returns-in-Damaged c =
    let q = c.loop-q in
    let k = stepped _ _ _ _ _ _ Damaged c.in-Damaged.ensures in
    rw c.into.ensures (sym (q.invariant.1 ∙ ap (size_reached _) (reach_broken _ _ _ _ _ _ _ k)))

pub overflow_add-visits : goal.overflow_add-visits
overflow_add-visits c =
    let k = stepped _ _ _ c.args.cells.now _ _ (Record _ _ _) c.in-Record.ensures in
    omega (arith, c.loop-q.invariant.0, count_on _ _ _ (k.onward _ refl))

pub returns-in_default : goal.returns-in_default
unfolding size_reached
returns-in_default c =
    let k = stepped _ _ _ c.args.cells.now _ _ (Record _ _ _) c.in-Record.ensures in
    let a = c.args in
    let says = record_at a.g a.dump.now in
    let e = role_header (says c.in-Record.q.0) k.leads.some (sym c.in_default.is ∙ k.is) in
    c.size_file.ensures
    ∙ sym (c.loop-q.invariant.1 ∙ ap (size_reached _) (reach_here says _ _ _ _ _ _ _ _ (k.onward _ refl) e))

pub offset_bounds-cells-link_at : goal.offset_bounds-cells-link_at
offset_bounds-cells-link_at c =
    let k = stepped _ _ _ c.args.cells.now _ _ (Record _ _ _) c.in-Record.ensures in
    omega (arith, k.leads.inside, c.link_at.ensures)

pub bounds-cells-link_at : goal.bounds-cells-link_at
bounds-cells-link_at c =
    let k = stepped _ _ _ c.args.cells.now _ _ (Record _ _ _) c.in-Record.ensures in
    omega (arith, k.leads.inside, c.link_at.ensures, c.requires)

pub loop-q-smaller : goal.loop-q-smaller
loop-q-smaller c = (stepped _ _ _ c.args.cells.now _ _ (Record _ _ _) c.in-Record.ensures).older

-- no page of data has the chunk number 0: nothing is noted as its copy
pub loop-q-preserved : goal.loop-q-preserved
loop-q-preserved c =
    let k = stepped _ _ _ c.args.cells.now _ _ (Record _ _ _) c.in-Record.ensures in
    let q = c.loop-q in
    let a = c.args in
    let says = record_at a.g a.dump.now in
    let d = c.in-Data.d in
    let e = role_data (says c.in-Record.q.0) d (sym c.in-Data.is ∙ k.is) in
    let some : d.chunk.0 ≡ 0 → ⊥ = λ z. absurd (omega (arith, (data_within a.g a.dump.now c.in-Record.q.0 d e).chunk.least)) in
    let on = k.onward _ (ap (word a.cells.now) c.link_at.ensures) in (
      omega (arith, q.invariant.0, count_on _ _ _ on),
      q.invariant.1
          ∙ ap (size_reached says)
          (reach_on says _ _ _ _ _ _ _ _ on (rw e refl)
          ∙ rw (e, ne_eqb d.chunk.0 0 some, c.max-end.ensures, c.end_of.ensures)),
    )
