-- Refused if the dump lacks the moment's page, or a slice has fewer words than there are headers; else the lists are made in parts of the slices.
use Prim.Native.Nat.{ℕ, ◌≤◌}
use mathlib.Core.Bool.{false}
use mathlib.Core.Path.{◌≡◌, sym, ap, ◌∙◌}
use native.Mathlib.Omega.{arith}
use lib.ListN.{length, take, replicate}
use lib.Seq.{length-take-le}
use Rattle.page.proofs.Lengths.{opened_pages}
use Rattle.chunk.specs.Moments.{is_missing}
use Rattle.tree.specs.Answers.{says_at}
use Rattle.tree.specs.Heads.{head_count}
use Rattle.tree.proofs.Answering.{page_refused, room_refused, room_enough}
use Rattle.tree.proofs.whole.tree_in.Goals as goal
use Rattle.tree.proofs.whole.tree_in.Goals.{After-min-2, Else-min-room}

pub returns-then-is_missing : goal.returns-then-is_missing
returns-then-is_missing c =
    let a = c.args in
    let r =
    page_refused a.g a.dump.now a.m a.rows.now a.heads.now a.work.now a.pages c.requires
    (sym c.is_missing.ensures ∙ c.if-is_missing.true) in
    rw c.into.ensures (record { value = r.0; rows_after = r.1.0; heads_after = r.1.1.0; work_after = r.1.1.1 })

-- how many headers there are
needed : (l : After-min-2) → l.count_heads-need.result ≡ head_count (says_at l.args.g l.args.dump.now l.args.m) l.args.pages
needed l = rw (← l.takes-t.ensures) l.count_heads-need.ensures

-- the dump has the moment's page
there : (l : After-min-2) → is_missing l.args.pages l.args.m ≡ false
there l = sym l.is_missing.ensures ∙ l.if-is_missing.false

pub returns-then-min-room : goal.returns-then-min-room
returns-then-min-room c =
    let l = (goal.at.returns-then-min-room c).After-min-2 in
    let a = c.args in
    let r =
    room_refused a.g a.dump.now a.m a.rows.now a.heads.now a.work.now a.pages c.requires (there l)
    (omega (arith, needed l, c.min.ensures, c.min-2.ensures, c.if-min-room.true)) in
    rw (needed l) (record { value = r.0; rows_after = r.1.0; heads_after = r.1.1.0; work_after = r.1.1.1 })

-- once there is room, there is in each slice
in_rows : (c : Else-min-room) → c.count_heads-need.result ≤ length c.args.rows.now
in_rows c = omega (arith, c.if-min-room.false, c.min.ensures, c.min-2.ensures)

in-heads : (c : Else-min-room) → c.count_heads-need.result ≤ length c.args.heads.now
in-heads c = omega (arith, c.if-min-room.false, c.min.ensures, c.min-2.ensures)

in-work : (c : Else-min-room) → c.count_heads-need.result ≤ length c.args.work.now
in-work c = omega (arith, c.if-min-room.false, c.min.ensures, c.min-2.ensures)

-- the parts that are lent on have a word for each header
heads-part : (c : Else-min-room) → length (take c.count_heads-need.result c.args.heads.now) ≡ c.count_heads-need.result
heads-part c = length-take-le _ c.args.heads.now (in-heads c)

work-part : (c : Else-min-room) → length (take c.count_heads-need.result c.args.work.now) ≡ c.count_heads-need.result
work-part c = length-take-le _ c.args.work.now (in-work c)

pub both_lists-requires : goal.both_lists-requires
both_lists-requires c =
    let e = (goal.at.both_lists-requires c).Else-min-room in
    let a = c.args in
    let n = c.count_heads-need.ensures in
    record {
      pages_lt_page_values = opened_pages a.g (length a.dump.now) a.pages c.requires;
      pages_in_bounds = omega (arith, n, in_rows e);
      heads_len = heads-part e ∙ n;
      work_len = work-part e ∙ n;
    }

pub returns : goal.returns
returns c =
    let e = (goal.at.returns c).Else-min-room in
    let l = (goal.at.returns c).After-min-2 in
    let a = c.args in
    let f = c.both_lists.ensures in
    let r =
    room_enough a.g a.dump.now a.m a.rows.now a.heads.now a.work.now a.pages c.requires (there l)
    (omega (arith, needed l, in_rows e, in-heads e, in-work e)) _ c.takes-t.ensures c.count_heads-need.result (needed l) _ _ _ _
    f.value f.rows_after
    (f.heads_after ∙ ap (λ (j : ℕ). replicate {A = ℕ} j 0) (heads-part e))
    (f.work_after ∙ ap (λ (j : ℕ). replicate {A = ℕ} j 0) (work-part e)) in
    record { value = r.0; rows_after = r.1.0; heads_after = r.1.1.0; work_after = r.1.1.1 }
