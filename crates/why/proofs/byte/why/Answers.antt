-- What was found of the file tells the reason, and so does what refused it: a position behind the end has its setter; for another the words are filled
-- with the spans, and the span that it lies in tells the reason.
use Rattle.std.specs.Prelude.{Ok}
use mathlib.Core.List.{[]}
use mathlib.Core.Path.{sym, ◌∙◌}
use native.Mathlib.Omega.{arith}
use lib.ListN.{length}
use lib.Seq.{length-take-le}
use Rattle.page.proofs.Passing.{passed_on}
use Rattle.sort.specs.Room.{in_room}
use Rattle.why.specs.Answers.{says_at, room_for, why_on, why_left}
use Rattle.why.specs.Reasons.{reason_at, until_of, spans_of}
use Rattle.why.specs.Told as told
use Rattle.why.proofs.Filling.{opened_sized, rows_front, found_tells, past_tells}
use Rattle.why.proofs.Finding.{found_below}
use Rattle.why.proofs.Lending.{live, told_by, zeros_room}
use Rattle.why.proofs.byte.why.Goals as goal

pub slice_bounds-room-end : goal.slice_bounds-room-end
slice_bounds-room-end c =
    let a = c.args in
    (live a.g a.dump.now a.m a.o.0 _ c.in_ok-f.f (sym c.live_file.ensures ∙ c.in_ok-f.was)).fits

pub slice_bounds-room-end-2 : goal.slice_bounds-room-end-2
slice_bounds-room-end-2 c =
    let a = c.args in
    sym (length-take-le _ a.rows.now (live a.g a.dump.now a.m a.o.0 _ c.in_ok-f.f (sym c.live_file.ensures ∙ c.in_ok-f.was)).fits)

pub setter-requires : goal.setter-requires
setter-requires c =
    let a = c.args in
    let l = live a.g a.dump.now a.m a.o.0 _ c.in_ok-f.f (sym c.live_file.ensures ∙ c.in_ok-f.was) in
    rw l.takes l.size

pub fill-count-requires : goal.fill-count-requires
fill-count-requires c =
    let a = c.args in
    let l = live a.g a.dump.now a.m a.o.0 _ c.in_ok-f.f (sym c.live_file.ensures ∙ c.in_ok-f.was) in
    record {
      dump_value = l.opened;
      size_value = rw l.takes l.size;
      rows_len = length-take-le c.in_ok-f.f.marks a.rows.now l.fits ∙ rw l.takes l.marks;
    }

pub of-requires : goal.of-requires
of-requires c = rw c.find-found.ensures (found_below _ _ 0 _ (omega arith))

pub returns-then-f-x : goal.returns-then-f-x
unfolding why_on why_left
returns-then-f-x c =
    let a = c.args in
    let f = c.in_ok-f.f in
    let e = sym c.live_file.ensures ∙ c.in_ok-f.was in
    let l = live a.g a.dump.now a.m a.o.0 _ f e in
    let says = says_at a.g a.dump.now a.m a.o.0 in
    let P = a.g.layout.«data» in
    let told =
    told_by a.g a.dump.now a.m a.o.0 _ told.Refused (λ n h. told.Because (reason_at says P a.o.0 n h a.x) (until_of says P a.o.0 n h a.x)) (Ok f) e in
    let left = told_by a.g a.dump.now a.m a.o.0 _ (λ _ _. a.rows.now) (λ n h. in_room [] (room_for a.g a.dump.now a.m a.o.0 n h) a.rows.now) (Ok f) e in
    let p = past_tells says P a.o.0 f.pages f.header.0 a.x (rw l.size at c.if-f-x.true) in
    record {
      value = rw (told, ← p.0, ← p.1, ← l.takes, ← c.setter.ensures);
      rows_after = rw (c.fill.ensures.after (λ y e. e), length-take-le f.marks a.rows.now l.fits) (zeros_room f.marks a.rows.now ∙ rw l.marks (sym left));
    }

pub returns : goal.returns
unfolding why_on why_left
returns c =
    let a = c.args in
    let f = c.in_ok-f.f in
    let e = sym c.live_file.ensures ∙ c.in_ok-f.was in
    let l = live a.g a.dump.now a.m a.o.0 _ f e in
    let says = says_at a.g a.dump.now a.m a.o.0 in
    let P = a.g.layout.«data» in
    let told =
    told_by a.g a.dump.now a.m a.o.0 _ told.Refused (λ n h. told.Because (reason_at says P a.o.0 n h a.x) (until_of says P a.o.0 n h a.x)) (Ok f) e in
    let left = told_by a.g a.dump.now a.m a.o.0 _ (λ _ _. a.rows.now) (λ n h. in_room [] (room_for a.g a.dump.now a.m a.o.0 n h) a.rows.now) (Ok f) e in
    let rows = rw l.takes at c.fill-count.ensures in
    let front = rows_front (spans_of says P a.o.0 f.pages f.header.0) _ _ rows.rows_after c.fill-count.auto.rows in
    let found = c.find-found.ensures ∙ rw (rows.value, front, l.size) in
    let p = found_tells says P a.o.0 f.pages f.header.0 a.x (opened_sized a.g (length a.dump.now) f.pages l.opened) (rw l.size at c.if-f-x.false) c.find-found.result found in
    record {
      value = rw (told, ← p.0, ← p.1, c.of.ensures, c.byte_at.ensures);
      rows_after =
          rw (c.fill-2.ensures.after (λ y e. e), c.fill-count.auto.rows, length-take-le f.marks a.rows.now l.fits)
          (zeros_room f.marks a.rows.now ∙ rw l.marks (sym left));
    }

pub returns-in_err-f : goal.returns-in_err-f
unfolding why_on why_left
returns-in_err-f c =
    let a = c.args in
    let e = sym c.live_file.ensures ∙ c.in_err-f.was in
    let says = says_at a.g a.dump.now a.m a.o.0 in
    let P = a.g.layout.«data» in
    record {
      value =
          passed_on _ c.from_residual.ensures.1
          ∙ sym (told_by a.g a.dump.now a.m a.o.0 _ told.Refused (λ n h. told.Because (reason_at says P a.o.0 n h a.x) (until_of says P a.o.0 n h a.x)) _ e);
      rows_after = sym (told_by a.g a.dump.now a.m a.o.0 _ (λ _ _. a.rows.now) (λ n h. in_room [] (room_for a.g a.dump.now a.m a.o.0 n h) a.rows.now) _ e);
    }
