use mathlib.Core.Path.{refl, sym, ◌∙◌}
use native.Mathlib.Omega.{arith}
use Rattle.page.specs.Records.{record_at}
use Rattle.chunk.specs.Records.{age_of}
use Rattle.index.specs.Chains.{top, objects}
use Rattle.index.specs.declared.chains.Step.TheVariants.{End, Damaged, Record}
use Rattle.index.proofs.Chain.Links.{Meets, stepped, role_data, role_header}
use Rattle.index.proofs.Chain.Turns.{count_on, few}
use Rattle.page.proofs.Lengths.{opened_pages}
use Rattle.file.proofs.Copying.{opened_data}
use Rattle.file.proofs.Meeting.{under_start, under_header, under_data, under_clean, under_broken}
use Rattle.file.proofs.copies.walk.Goals as goal
use Rattle.file.proofs.copies.walk.Goals.{In-Record}

pub loop-q-init : goal.loop-q-init
loop-q-init c =
    let a = c.args in
    let says = record_at a.g a.dump.now in
    under_start _ _ _ _ _ _ _ _ (few a.pages (objects says) (age_of says) a.cells.now a.o.0 top a.first)

pub returns-in-End : goal.returns-in-End
returns-in-End c =
    let q = c.loop-q in
    let e = stepped _ _ _ _ _ _ End (sym c.in-End.is ∙ c.follow.ensures) in
    let d = under_clean _ _ _ _ _ _ _ _ _ _ _ _ _ q.invariant e in
    record { copies_value = d.0; broken_value = d.2; copies_le_pages = omega (arith, q.invariant.few); rows_after = d.1 }

pub returns-in-Damaged : goal.returns-in-Damaged
returns-in-Damaged c =
    let q = c.loop-q in
    let e = stepped _ _ _ _ _ _ Damaged (sym c.in-Damaged.is ∙ c.follow.ensures) in
    let d = under_broken _ _ _ _ _ _ _ _ _ _ _ _ _ q.invariant e in
    record { copies_value = d.0; broken_value = d.2; copies_le_pages = omega (arith, q.invariant.few); rows_after = d.1 }

here : (c : In-Record) → (let q = c.loop-q in let a = c.args in Meets (record_at a.g a.dump.now) a.pages a.o.0 a.cells.now q.bound q.link c.in-Record.q c.in-Record.age c.in-Record.role)
here c = stepped _ _ _ _ _ _ (Record _ _ _) (sym c.in-Record.is ∙ c.follow.ensures)

-- a header is not met as a copy, and cuts
pub loop-q-preserved-in-Header : goal.loop-q-preserved-in-Header
loop-q-preserved-in-Header c =
    let q = c.loop-q in
    let a = c.args in
    let says = record_at a.g a.dump.now in
    let e = role_header (says c.in-Record.q.0) (here (goal.at.loop-q-preserved-in-Header c).In-Record).leads.some (sym c.in-Header.is ∙ (here (goal.at.loop-q-preserved-in-Header c).In-Record).is) in
    let on = (here (goal.at.loop-q-preserved-in-Header c).In-Record).onward _ c.link_of-link.ensures in
    rw c.cut_past-cut.ensures
    (under_header says _ _ _ _ _ _ _ _ _ _ _ _ q.invariant _ _ on e)

pub meet-copies-requires : goal.meet-copies-requires
meet-copies-requires c =
    let q = c.loop-q in
    let h = here (goal.at.meet-copies-requires c).In-Record in
    let pages = opened_pages _ _ _ c.requires in record {
      i_lt_page_values = omega (arith, q.invariant.few, count_on _ _ _ (h.onward _ refl));
      chunks_lt_chunk_values = omega arith;
      data_lt_valid_values = opened_data _ _ _ c.requires;
      q_lt_page_values = omega (arith, h.leads.inside);
    }

-- data is met, or not
pub loop-q-preserved : goal.loop-q-preserved
loop-q-preserved c =
    let q = c.loop-q in
    let a = c.args in
    let says = record_at a.g a.dump.now in
    let d = c.in-Data.d in
    let e = role_data (says c.in-Record.q.0) d (sym c.in-Data.is ∙ (here (goal.at.loop-q-preserved c).In-Record).is) in
    let on = (here (goal.at.loop-q-preserved c).In-Record).onward _ c.link_of-link.ensures in
    let m = c.chunks_in-chunks.ensures.value in
    under_data says _ _ _ _ _ _ _ _ _ _ _ _ q.invariant _ _ on d e _ _
    (rw (q.invariant.long, m) at c.meet-copies.ensures.rows_after) (rw m at c.meet-copies.ensures.value)

pub loop-q-smaller-in-Header : goal.loop-q-smaller-in-Header
loop-q-smaller-in-Header c = (here (goal.at.loop-q-smaller-in-Header c).In-Record).older

pub loop-q-smaller : goal.loop-q-smaller
loop-q-smaller c = (here (goal.at.loop-q-smaller c).In-Record).older
