use Prim.Native.Nat.{ℕ, ◌/◌}
use mathlib.Core.Path.{◌≡◌, refl, sym, ◌∙◌}
use native.Mathlib.Omega.{arith}
use lib.ListN.{length, length-replicate}
use Rattle.page.specs.Records.{record_at}
use Rattle.page.proofs.Lengths.{opened_most}
use Rattle.index.specs.declared.chains.Step.TheVariants.{End, Damaged, Record}
use Rattle.index.proofs.Chain.Links.{Meets, stepped, role_data, role_header}
use Rattle.index.proofs.Walk.Ahead.{ahead_end, ahead_broken}
use Rattle.file.specs.Table.{words_of, chunks_in}
use Rattle.file.proofs.Rows.{free, noted_length, header_row, noted_row, row_end_lem, row_broken, cleared, table_is}
use Rattle.file.proofs.table.fill.Goals as goal
use Rattle.file.proofs.table.fill.Goals.{At-loop-table, In-Record}

pub loop-table-init : goal.loop-table-init
loop-table-init c =
    let zeros = c.fill.ensures.after (λ y e. e) in
    (rw zeros (length-replicate {A = ℕ} _ _), λ x h i. free (cleared _ _ (zeros ∙ rw c.requires.table_length) x h i) refl)

room : (q : At-loop-table) → length q.loop-table.table ≡ words_of (chunks_in q.args.g.layout.«data» q.args.size)
room q = q.loop-table.invariant.0 ∙ q.requires.table_length

pub returns-in-End : goal.returns-in-End
returns-in-End c =
    let e = stepped _ _ _ _ _ _ End (sym c.in-End.is ∙ c.follow.ensures) in
    table_is _ _ _ (room (goal.at.returns-in-End c).At-loop-table) (λ x h i. row_end_lem _ x _ _ _ (c.loop-table.invariant.1 x h i) (ahead_end _ _ x _ _ _ _ e))

pub returns-in-Damaged : goal.returns-in-Damaged
returns-in-Damaged c =
    let e = stepped _ _ _ _ _ _ Damaged (sym c.in-Damaged.is ∙ c.follow.ensures) in
    let r = room (goal.at.returns-in-Damaged c).At-loop-table in
    let all : length c.loop-table.table / 2 ≡ chunks_in c.args.g.layout.«data» c.args.size = omega arith in
    let d = rw all at c.mark_damaged.ensures in
    table_is _ _ _ (d.long ∙ r) (λ x h i. row_broken _ x _ _ _ _ d h i (c.loop-table.invariant.1 x h i) (ahead_broken _ _ x _ _ _ _ e))

here : (c : In-Record) → (let q = c.loop-table in let a = c.args in Meets (record_at a.g a.dump.now) a.pages a.o.0 a.cells.now q.bound q.link c.in-Record.q c.in-Record.age c.in-Record.role)
here c = stepped _ _ _ _ _ _ (Record _ _ _) (sym c.in-Record.is ∙ c.follow.ensures)

-- a header writes no row, and cuts
pub loop-table-preserved-in-Header : goal.loop-table-preserved-in-Header
loop-table-preserved-in-Header c =
    let q = c.loop-table in
    let says = record_at c.args.g c.args.dump.now in
    let h = here (goal.at.loop-table-preserved-in-Header c).In-Record in
    let e = role_header (says c.in-Record.q.0) h.leads.some (sym c.in-Header.is ∙ h.is) in
    let on = h.onward _ c.link_of-link.ensures in
    (q.invariant.0, λ x i j. rw c.cut_past-cut.ensures (header_row says _ _ 0 _ _ _ _ _ _ on x _ e (q.invariant.1 x i j)))

-- data is noted in its row
pub loop-table-preserved : goal.loop-table-preserved
loop-table-preserved c =
    let q = c.loop-table in
    let a = c.args in
    let says = record_at a.g a.dump.now in
    let h = here (goal.at.loop-table-preserved c).In-Record in
    let r = room (goal.at.loop-table-preserved c).At-loop-table in
    let d = c.in-Data.d in
    let e = role_data (says c.in-Record.q.0) d (sym c.in-Data.is ∙ h.is) in
    let on = h.onward _ c.link_of-link.ensures in
    rw (c.note.ensures, c.chunks_in-count.ensures.value) (
      noted_length q.table _ a.g.layout.«data» a.size q.cut c.in-Record.q.0 d.chunk.0 d.count ∙ q.invariant.0,
      λ x i j. noted_row says _ _ _ _ _ _ _ _ _ on x _ i j (omega arith) d e (q.invariant.1 x i j),
    )

pub loop-table-smaller-in-Header : goal.loop-table-smaller-in-Header
loop-table-smaller-in-Header c = (here (goal.at.loop-table-smaller-in-Header c).In-Record).older

pub loop-table-smaller : goal.loop-table-smaller
loop-table-smaller c = (here (goal.at.loop-table-smaller c).In-Record).older

pub note-requires : goal.note-requires
note-requires c =
    let h = here (goal.at.note-requires c).In-Record in record {
      count_in_bounds = omega (arith, room (goal.at.note-requires c).At-loop-table, c.chunks_in-count.ensures.value);
      q_bound = omega (arith, h.leads.inside, opened_most _ _ _ c.requires.dump_value);
    }
