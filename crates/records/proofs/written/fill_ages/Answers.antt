use Prim.Native.Nat.{◌<◌}
use mathlib.Core.Bool.{true, false}
use mathlib.Core.Path.{◌≡◌}
use native.Mathlib.Omega.{arith}
use lib.ListN.{length}
use Rattle.page.specs.Records.{record_at}
use Rattle.page.specs.Tags.{names_at}
use Rattle.chunk.specs.Records.{age_of}
use Rattle.chunk.specs.Takes.{seen_by}
use Rattle.chunk.proofs.Records.{seen_unnamed}
use Rattle.chunk.proofs.Sorting.{listed_none, listed_skip, listed_room, listed_more}
use Rattle.records.specs.Written.{is_record}
use Rattle.records.proofs.Writing.{records_count}
use Rattle.records.proofs.written.fill_ages.Goals as goal
use Rattle.records.proofs.written.fill_ages.Goals.{After-order_of}

-- a page whose tags do not name the object is passed over, and so is another that is no record of it
pub loop-i-preserved-then-not-names_object : goal.loop-i-preserved-then-not-names_object
loop-i-preserved-then-not-names_object c =
    let q = c.loop-i in
    let a = c.args in
    let u : names_at a.g a.dump.now q.i a.o.0 ≡ false = rw (← c.names_object.ensures) c.if-not-names_object.true in
    listed_skip q.invariant (seen_unnamed a.g a.dump.now q.i a.o.0 u a.t)

pub loop-i-preserved-then-not-is_of : goal.loop-i-preserved-then-not-is_of
loop-i-preserved-then-not-is_of c =
    let q = c.loop-i in
    let t : is_record (seen_by c.args.t (record_at c.args.g c.args.dump.now)) c.args.o.0 q.i ≡ false =
    rw (← c.seen_at-r.ensures, ← c.is_of.ensures) c.if-not-is_of.true
    in
    listed_skip q.invariant t

-- a record has room
room : (c : After-order_of) → let q = c.loop-i in
    (is_record (seen_by c.args.t (record_at c.args.g c.args.dump.now)) c.args.o.0 q.i ≡ true) × (q.at < length c.args.words.now)
room c =
    let q = c.loop-i in
    let a = c.args in
    let t : is_record (seen_by c.args.t (record_at c.args.g c.args.dump.now)) a.o.0 q.i ≡ true =
    rw (← c.seen_at-r.ensures, ← c.is_of.ensures) c.if-not-is_of.false
    in
    (t, listed_room q.invariant a.pages c.loop-i-test.true t (omega (arith, records_count (seen_by c.args.t (record_at c.args.g c.args.dump.now)) a.o.0 a.pages, c.requires)))

pub loop-i-preserved : goal.loop-i-preserved
loop-i-preserved c =
    let q = c.loop-i in
    let r = room c in
    let x : age_of (seen_by c.args.t (record_at c.args.g c.args.dump.now)) q.i ≡ c.order_of.result = rw (c.order_of.ensures, c.sequence_of.ensures, c.seen_at-r.ensures) in
    listed_more q.invariant _ r.0 r.1 (rw x)

pub loop-i-init : goal.loop-i-init
loop-i-init c = listed_none _ _ _

pub bounds-words-at : goal.bounds-words-at
bounds-words-at c = rw c.loop-i.invariant.long (room c).1
