-- What was found of the file tells its spans, and so does what refused it.
use Rattle.std.specs.Prelude.{Ok}
use mathlib.Core.Path.{sym, ◌∙◌}
use lib.ListN.{length}
use lib.Seq.{length-take-le}
use Rattle.page.proofs.Passing.{passed_on}
use Rattle.sort.specs.Room.{in_room}
use Rattle.chunk.specs.Sizes.{size_of}
use Rattle.why.specs.Answers.{says_at, room_for, spans_on, spans_left}
use Rattle.why.specs.Reasons.{spans_of}
use Rattle.why.specs.Spanned as spanned
use Rattle.why.proofs.Lending.{live, told_by}
use Rattle.why.proofs.spans.spans.Goals as goal

pub slice_bounds-room-end : goal.slice_bounds-room-end
slice_bounds-room-end c =
    let a = c.args in
    (live a.g a.dump.now a.m a.o.0 _ c.in_ok-f.f (sym c.live_file.ensures ∙ c.in_ok-f.was)).fits

pub slice_bounds-room-end-2 : goal.slice_bounds-room-end-2
slice_bounds-room-end-2 c =
    let a = c.args in
    sym (length-take-le _ a.rows.now (live a.g a.dump.now a.m a.o.0 _ c.in_ok-f.f (sym c.live_file.ensures ∙ c.in_ok-f.was)).fits)

pub fill-count-requires : goal.fill-count-requires
fill-count-requires c =
    let a = c.args in
    let l = live a.g a.dump.now a.m a.o.0 _ c.in_ok-f.f (sym c.live_file.ensures ∙ c.in_ok-f.was) in
    record {
      dump_value = l.opened;
      size_value = rw l.takes l.size;
      rows_len = length-take-le c.in_ok-f.f.marks a.rows.now l.fits ∙ rw l.takes l.marks;
    }

pub returns : goal.returns
unfolding spans_on spans_left
returns c =
    let a = c.args in
    let f = c.in_ok-f.f in
    let e = sym c.live_file.ensures ∙ c.in_ok-f.was in
    let l = live a.g a.dump.now a.m a.o.0 _ f e in
    let says = says_at a.g a.dump.now a.m a.o.0 in
    let P = a.g.layout.«data» in
    let told =
    told_by a.g a.dump.now a.m a.o.0 _ spanned.Refused (λ n h. spanned.Rows (size_of says P a.o.0 h n) (length (spans_of says P a.o.0 n h))) (Ok f) e in
    let left =
    told_by a.g a.dump.now a.m a.o.0 _ (λ _ _. a.rows.now) (λ n h. in_room (spans_of says P a.o.0 n h) (room_for a.g a.dump.now a.m a.o.0 n h) a.rows.now) (Ok f) e in
    record {
      value = rw (c.fill-count.ensures.value, l.takes, l.size) (sym told);
      rows_after = rw (c.fill-count.ensures.rows_after, length-take-le f.marks a.rows.now l.fits, l.takes, l.marks) (sym left);
    }

pub returns-in_err-f : goal.returns-in_err-f
unfolding spans_on spans_left
returns-in_err-f c =
    let a = c.args in
    let e = sym c.live_file.ensures ∙ c.in_err-f.was in
    let says = says_at a.g a.dump.now a.m a.o.0 in
    let P = a.g.layout.«data» in
    record {
      value =
          passed_on _ c.from_residual.ensures.1
          ∙ sym (told_by a.g a.dump.now a.m a.o.0 _ spanned.Refused (λ n h. spanned.Rows (size_of says P a.o.0 h n) (length (spans_of says P a.o.0 n h))) _ e);
      rows_after =
          sym (told_by a.g a.dump.now a.m a.o.0 _ (λ _ _. a.rows.now) (λ n h. in_room (spans_of says P a.o.0 n h) (room_for a.g a.dump.now a.m a.o.0 n h) a.rows.now) _ e);
    }
