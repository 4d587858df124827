-- The records are counted. Refused if a slice has too few words for them; else the fronts of the slices, as long as is needed, are filled, and what is
-- behind them stays.
use Prim.Native.Nat.{ℕ, ◌≤◌}
use mathlib.Core.Bool.{true}
use mathlib.Core.Path.{◌≡◌, sym, ap, ◌∙◌}
use native.Mathlib.Omega.{arith}
use lib.ListN.{length, take, replicate}
use lib.Seq.{length-take-le}
use Rattle.compare.specs.Prepared.{is_room}
use Rattle.compare.proofs.Preparing.{room_has, room_refused, room_enough}
use Rattle.compare.proofs.prepare.prepare_in.Goals as goal
use Rattle.compare.proofs.prepare.prepare_in.Goals.{After-work_for-room}

pub returns-then-not-is_room : goal.returns-then-not-is_room
returns-then-not-is_room c =
    let r = c.is_room in
    let a = c.args in
    let k = c.count_records-records in
    room_refused a.g a.dump.now a.order.now a.copies.now a.work.now a.pages c.requires k.result k.ensures
    (sym r.ensures ∙ c.if-not-is_room.true)

-- once there is room
enough : (w : After-work_for-room) → is_room w.count_records-records.result (length w.args.order.now) (length w.args.copies.now) (length w.args.work.now) ≡ true
enough w = sym w.is_room.ensures ∙ w.if-not-is_room.false

-- each slice has as many words
has : (w : After-work_for-room) →
    (w.count_records-records.result ≤ length w.args.order.now)
    × (w.count_records-records.result ≤ length w.args.copies.now)
    × (w.work_for-room.result ≤ length w.args.work.now)
has w = let r = room_has _ _ _ _ (enough w) in (r.0, r.1, omega (arith, w.work_for-room.ensures, r.2))

-- so that the fronts which are lent on are so long
order-front : (w : After-work_for-room) → length (take w.count_records-records.result w.args.order.now) ≡ w.count_records-records.result
order-front w = length-take-le _ w.args.order.now (has w).0

copies-front : (w : After-work_for-room) → length (take w.count_records-records.result w.args.copies.now) ≡ w.count_records-records.result
copies-front w = length-take-le _ w.args.copies.now (has w).1

work-front : (w : After-work_for-room) → length (take w.work_for-room.result w.args.work.now) ≡ w.work_for-room.result
work-front w = length-take-le _ w.args.work.now (has w).2

pub returns : goal.returns
returns c =
    let a = c.args in
    let e = c.fill.ensures in
    rw c.work_for-room.ensures
    (room_enough a.g a.dump.now a.order.now a.copies.now a.work.now a.pages c.requires c.count_records-records.result
    c.count_records-records.ensures (enough (goal.at.returns c).After-work_for-room) _ _ _
    e.order_after (c.fill.auto.order ∙ order-front (goal.at.returns c).After-work_for-room) e.copies_after (c.fill.auto.copies ∙ copies-front (goal.at.returns c).After-work_for-room)
    (e.work_after ∙ ap (λ (j : ℕ). replicate {A = ℕ} j 0) (work-front (goal.at.returns c).After-work_for-room ∙ c.work_for-room.ensures)))
