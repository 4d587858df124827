use Prim.Native.Nat.{◌≤◌, ◌<◌}
use mathlib.Core.Bool.{false}
use mathlib.Core.Path.{◌≡◌, sym, ◌∙◌}
use native.Mathlib.Omega.{arith}
use borrow.Author.Rules.{rules}
use Rattle.page.specs.Records.{record_at}
use Rattle.page.specs.Tags.{names_at}
use Rattle.chunk.specs.Takes.{seen_by}
use Rattle.chunk.specs.Records.{age_of, is_of}
use Rattle.chunk.proofs.Records.{seen_unnamed}
use Rattle.chunk.proofs.Gathering.{since_none, since_skip, since_old, since_one, and_true}
use Rattle.chunk.proofs.scan.records_since.Goals as goal
use Rattle.chunk.proofs.scan.records_since.Goals.{then-is_wanted+then-age-order_of, else-is_wanted, else-is_wanted-via-then-is_wanted+else-age-order_of, else-is_wanted-via-else-is_wanted}

pub loop-i-init : goal.loop-i-init
loop-i-init c = (search rules, rw since_none)

pub loop-i-preserved-then-not-names_object : goal.loop-i-preserved-then-not-names_object
loop-i-preserved-then-not-names_object c =
    let q = c.loop-i in
    let a = c.args in
    let says = seen_by a.t (record_at a.g a.dump.now) in
    let u : names_at a.g a.dump.now q.i a.o.0 ≡ false = rw (← c.names_object.ensures) c.if-not-names_object.true in
    let t : is_of a.o.0 (says q.i) ≡ false = seen_unnamed a.g a.dump.now q.i a.o.0 u a.t in
    (search rules, q.invariant.1 ∙ sym (since_skip says a.o.0 a.age q.i t))

pub loop-i-preserved : goal.loop-i-preserved
loop-i-preserved c =
    let q = c.loop-i in
    let a = c.args in
    let says = seen_by a.t (record_at a.g a.dump.now) in
    let tested : is_of a.o.0 (says q.i) ≡ c.is_wanted.result = rw (← c.seen_at-r.ensures) (sym (c.is_wanted.ensures ∙ and_true (is_of a.o.0 c.seen_at-r.result))) in
    elim c.if-is_wanted.branch [
      | then-is_wanted+then-age-order_of w ↦
          let g : a.age ≤ age_of says q.i = rw (← c.seen_at-r.ensures, ← w.sequence_of.ensures, ← w.order_of.ensures) w.if-age-order_of.true in
          (omega arith, rw (w.count-is, q.invariant.1) (sym (since_one says a.o.0 a.age q.i (tested ∙ w.if-is_wanted.true) g)))
      | else-is_wanted w ↦
          elim w.else-is_wanted.branch [
            | else-is_wanted-via-then-is_wanted+else-age-order_of u ↦
                let g : age_of says q.i < a.age = rw (← c.seen_at-r.ensures, ← u.sequence_of.ensures, ← u.order_of.ensures) u.if-age-order_of.false in
                (omega arith, rw w.count-is (q.invariant.1 ∙ sym (since_old says a.o.0 a.age q.i g)))
            | else-is_wanted-via-else-is_wanted u ↦ (omega arith, rw w.count-is (q.invariant.1 ∙ sym (since_skip says a.o.0 a.age q.i (tested ∙ u.if-is_wanted.false))))
          ]
    ]

pub returns : goal.returns
returns c =
    let e : c.loop-i.i ≡ c.args.pages = omega arith in
    rw e at c.loop-i.invariant.1
