use mathlib.Core.Path.{refl, sym, ◌∙◌}
use native.Mathlib.Omega.{arith}
use borrow.Author.Rules.{rules}
use Rattle.index.specs.declared.chains.Step.TheVariants.{End, Damaged, Record}
use Rattle.index.proofs.Chain.Links.{stepped}
use Rattle.index.proofs.Chain.Place.{place_end, place_broken, place_itself, place_here, place_on}
use Rattle.index.proofs.places.place_from.Goals as goal

pub returns-in-End : goal.returns-in-End
returns-in-End c =
    let q = c.loop-q in
    let k = stepped _ _ _ _ _ _ End c.in-End.ensures in
    record { value = sym (q.invariant.1 ∙ place_end _ _ _ _ k); within = q.invariant.0 }

pub returns-in-Damaged : goal.returns-in-Damaged
returns-in-Damaged c =
    let q = c.loop-q in
    let k = stepped _ _ _ _ _ _ Damaged c.in-Damaged.ensures in
    record { value = sym (q.invariant.1 ∙ place_broken _ _ _ _ k); within = tt }

pub returns-then-eq : goal.returns-then-eq
returns-then-eq c =
    let q = c.loop-q in
    let k = stepped _ _ _ c.args.cells.now _ _ (Record _ _ _) c.in-Record.ensures in
    record { value = sym (q.invariant.1 ∙ place_itself _ _ _ _ _ _ (k.onward _ refl) (omega (arith, k.aged, c.if-a-age.true, c.requires.recorded.aged)) (search rules)); within = tt }

pub returns-then-a-age : goal.returns-then-a-age
returns-then-a-age c =
    let q = c.loop-q in
    let k = stepped _ _ _ c.args.cells.now _ _ (Record _ _ _) c.in-Record.ensures in
    record { value = sym (q.invariant.1 ∙ place_here _ _ _ _ _ _ (k.onward _ refl) (omega (arith, k.aged, c.if-a-age.true, c.requires.recorded.aged)) (search rules)); within = q.invariant.0 }

pub loop-q-smaller : goal.loop-q-smaller
loop-q-smaller c = (stepped _ _ _ c.args.cells.now _ _ (Record _ _ _) c.in-Record.ensures).older

pub loop-q-preserved : goal.loop-q-preserved
loop-q-preserved c =
    let q = c.loop-q in
    let k = stepped _ _ _ c.args.cells.now _ _ (Record _ _ _) c.in-Record.ensures in (
      omega (arith, k.leads.inside, c.link_at-at.ensures, c.requires.recorded.room),
      q.invariant.1 ∙ place_on _ _ _ _ _ _ (k.onward _ refl) (omega (arith, k.aged, c.if-a-age.false, c.requires.recorded.aged)) ∙ rw c.link_at-at.ensures refl,
    )
