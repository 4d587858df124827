use mathlib.Core.Path.{refl, sym, ◌∙◌}
use native.Mathlib.Omega.{arith}
use Rattle.page.specs.Records.{record_at}
use Rattle.index.proofs.Chain.Turns.{count_on}
use Rattle.file.proofs.Copying.{opened_data}
use Rattle.file.proofs.Listing.{data_few, from_on, from_end, from_count}
use Rattle.file.proofs.Meeting.{under_start, under_header, under_data, under_other, under_clean}
use Rattle.file.proofs.along.walk_along.Goals as goal
use Rattle.file.proofs.along.walk_along.Goals.{in-Other, in-Header, in-Data}

pub loop-word-init : goal.loop-word-init
loop-word-init c = under_start _ _ _ _ _ _ _ _ (omega (arith, from_count c.args.list.now))

pub meet-copies-requires : goal.meet-copies-requires
meet-copies-requires c =
    let q = c.loop-word in
    let a = c.args in record {
      i_lt_page_values = omega (arith, q.invariant.few, count_on _ _ _ (from_on a.list.now q.word-index c.loop-word-test.true), c.requires.list_len_bound);
      chunks_lt_chunk_values = omega arith;
      data_lt_valid_values = opened_data _ _ _ c.requires.dump_value;
      q_lt_page_values = data_few a.g a.dump.now a.pages _ c.in-Data.d c.requires.dump_value
          (sym c.record_at-r.ensures ∙ c.in-Data.is);
    }

-- a page that is no record is passed over; a header is not met as a copy, and cuts; data is met, or not
pub loop-word-preserved : goal.loop-word-preserved
loop-word-preserved c =
    let q = c.loop-word in
    let a = c.args in
    let says = record_at a.g a.dump.now in
    let u = q.invariant in
    let on = from_on a.list.now q.word-index c.loop-word-test.true in
    let m = c.chunks_in-chunks.ensures.value in
    elim c.match-r.branch [
      | in-Other w ↦ rw (w.rows-is, w.newest-is, w.cut-is, w.copies-is) (under_other says _ _ _ _ _ _ _ _ _ _ _ _ u _ _ on (rw c.value_of.ensures at (sym c.record_at-r.ensures ∙ w.in-Other.is)))
      | in-Header w ↦
          rw (w.rows-is, w.newest-is, w.cut-is, w.copies-is, w.lower_cut-cut.ensures, c.record_at-r.ensures, c.value_of.ensures)
          (under_header says _ _ _ _ _ _ _ _ _ _ _ _ u _ _ on (let e = rw c.value_of.ensures at (sym c.record_at-r.ensures ∙ w.in-Header.is) in rw e refl))
      | in-Data w ↦
          rw (w.rows-is, w.newest-is, w.cut-is, w.copies-is)
          (under_data says _ _ _ _ _ _ _ _ _ _ _ _ u _ _ on _ (rw c.value_of.ensures at (sym c.record_at-r.ensures ∙ w.in-Data.is)) _ _
          (rw (u.long, m) at w.meet-copies.ensures.rows_after ∙ rw c.value_of.ensures) (rw m at w.meet-copies.ensures.value ∙ rw c.value_of.ensures))
    ]

pub returns : goal.returns
returns c =
    let q = c.loop-word in
    let a = c.args in
    let d = under_clean _ _ _ _ _ _ _ _ _ _ _ _ _ q.invariant (from_end a.list.now q.word-index c.loop-word-test.false) in
    record { value = d.0; upper_bound = omega (arith, q.invariant.few); rows_after = d.1 }
