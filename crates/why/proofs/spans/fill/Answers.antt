-- The marks in front of the words are sorted and then swept.
use native.Mathlib.Omega.{arith}
use lib.ListN.{length}
use Rattle.page.specs.Records.{record_at}
use Rattle.chunk.specs.Takes.{seen_by}
use Rattle.why.proofs.Filling.{opened_sized, marks_swept, sweep_fills}
use Rattle.why.proofs.spans.fill.Goals as goal

pub fill_marks-requires : goal.fill_marks-requires
fill_marks-requires c =
    let z = opened_sized c.args.g (length c.args.dump.now) c.args.pages c.requires.dump_value in
    record { pages_lt_page_values = z.pages; data_bound = z.most; pages_in_bounds = omega (arith, c.requires.rows_len) }

pub sweep-requires : goal.sweep-requires
sweep-requires c =
    let a = c.args in
    let z = opened_sized a.g (length a.dump.now) a.pages c.requires.dump_value in
    record {
      data_nonzero = z.some;
      every = marks_swept (seen_by a.t (record_at a.g a.dump.now)) a.g.layout.«data» a.o.0 a.pages a.h.0 z a.rows.now c.requires.rows_len _ _ c.fill_marks.ensures (rw c.fill_marks.auto.rows at c.sort.ensures);
    }

pub returns : goal.returns
returns c =
    let a = c.args in
    let told =
    sweep_fills (seen_by a.t (record_at a.g a.dump.now)) a.g.layout.«data» a.o.0 a.pages a.h.0
    (opened_sized a.g (length a.dump.now) a.pages c.requires.dump_value) a.rows.now c.requires.rows_len
    _ _ c.fill_marks.ensures (rw c.fill_marks.auto.rows at c.sort.ensures) a.size c.requires.size_value _ _ c.sweep.ensures.value c.sweep.ensures.rows_after
    in
    record { value = told.0; rows_after = told.1 }
