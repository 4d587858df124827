use mathlib.Core.Bool.{true, false}
use mathlib.Core.Path.{◌≡◌, refl, sym, ◌∙◌}
use native.Mathlib.Omega.{arith}
use Rattle.page.specs.Records.{record_at}
use Rattle.chunk.specs.Lookups.{valid_of}
use Rattle.index.specs.Walks.{is_shown}
use Rattle.index.specs.declared.chains.Step.TheVariants.{End, Damaged, Record}
use Rattle.index.proofs.Chain.Links.{stepped, role_data, role_header}
use Rattle.index.proofs.Walk.Walks.{no_copy_lem}
use Rattle.index.proofs.Chain.Turns.{seek_end, seek_broken, seek_here, seek_on, count_on}
use Rattle.index.proofs.walks.seek_copy.Goals as goal

pub returns-in-End : goal.returns-in-End
returns-in-End c =
    let k = stepped _ _ _ _ _ _ End c.in-End.ensures in
    sym (c.loop-q.invariant.1 ∙ seek_end _ _ _ _ _ _ _ k)

pub returns-in-Damaged : goal.returns-in-Damaged
returns-in-Damaged c =
    let k = stepped _ _ _ _ _ _ Damaged c.in-Damaged.ensures in
    rw c.into.ensures (sym (c.loop-q.invariant.1 ∙ seek_broken _ _ _ _ _ _ _ k))

pub overflow_add-visits : goal.overflow_add-visits
overflow_add-visits c =
    let k = stepped _ _ _ c.args.cells.now _ _ (Record _ _ _) c.in-Record.ensures in
    omega (arith, c.loop-q.invariant.0, count_on _ _ _ (k.onward _ refl))

pub loop-q-smaller-in_default : goal.loop-q-smaller-in_default
loop-q-smaller-in_default c = (stepped _ _ _ c.args.cells.now _ _ (Record _ _ _) c.in-Record.ensures).older

-- a header is no copy, and cuts
pub loop-q-preserved-in_default : goal.loop-q-preserved-in_default
loop-q-preserved-in_default c =
    let k = stepped _ _ _ c.args.cells.now _ _ (Record _ _ _) c.in-Record.ensures in
    let q = c.loop-q in
    let a = c.args in
    let says = record_at a.g a.dump.now in
    let e = role_header (says c.in-Record.q.0) k.leads.some (sym c.in_default.is ∙ k.is) in
    let on = k.onward _ c.link_of-link.ensures in (
      omega (arith, q.invariant.0, count_on _ _ _ on),
      q.invariant.1 ∙ seek_on says _ _ _ _ _ _ _ _ on (rw (no_copy_lem a.c.0 (says c.in-Record.q.0) e) refl) ∙ rw c.cut_past-cut.ensures,
    )

pub returns-then-is_shown : goal.returns-then-is_shown
returns-then-is_shown c =
    let k = stepped _ _ _ c.args.cells.now _ _ (Record _ _ _) c.in-Record.ensures in
    let q = c.loop-q in
    let b = c.before.base_of-base in
    let a = c.args in
    let says = record_at a.g a.dump.now in
    let e = role_data (says c.in-Record.q.0) _ (sym c.in-Data.is ∙ k.is) in
    let shown : is_shown says a.g.layout.«data» a.c.0 q.cut c.in-Record.q.0 ≡ true =
    rw (e, ← b.ensures.value) (sym c.is_shown.ensures ∙ c.if-is_shown.true) in
    let valid : valid_of a.g.layout.«data» a.c.0 (says c.in-Record.q.0) a.shown q.cut ≡ c.valid_of-valid.result =
    rw (e, ← b.ensures.value) (sym c.valid_of-valid.ensures) in
    sym
    (q.invariant.1
    ∙ seek_here says _ _ _ _ _ _ _ _ (k.onward _ refl) shown
    ∙ rw valid)

pub loop-q-smaller : goal.loop-q-smaller
loop-q-smaller c = (stepped _ _ _ c.args.cells.now _ _ (Record _ _ _) c.in-Record.ensures).older

-- a copy that is hidden, or another page of data
pub loop-q-preserved : goal.loop-q-preserved
loop-q-preserved c =
    let k = stepped _ _ _ c.args.cells.now _ _ (Record _ _ _) c.in-Record.ensures in
    let q = c.loop-q in
    let b = c.before.base_of-base in
    let a = c.args in
    let says = record_at a.g a.dump.now in
    let e = role_data (says c.in-Record.q.0) _ (sym c.in-Data.is ∙ k.is) in
    let hidden : is_shown says a.g.layout.«data» a.c.0 q.cut c.in-Record.q.0 ≡ false =
    rw (e, ← b.ensures.value) (sym c.is_shown.ensures ∙ c.if-is_shown.false) in
    let on = k.onward _ c.link_of-link.ensures in (
      omega (arith, q.invariant.0, count_on _ _ _ on),
      q.invariant.1 ∙ seek_on says _ _ _ _ _ _ _ _ on hidden ∙ rw e,
    )
