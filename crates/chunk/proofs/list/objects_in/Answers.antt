use mathlib.Core.Bool.{true, false}
use mathlib.Core.Path.{◌≡◌, sym, ◌∙◌}
use native.Mathlib.Omega.{arith}
use borrow.Author.Rules.{rules}
use borrow.Author.Tests.{eq-eqb, ne_eqb}
use Rattle.page.specs.Records.{record_at}
use Rattle.page.proofs.Searching.{count_none}
use Rattle.chunk.specs.Live.{object_page, object_count}
use Rattle.chunk.proofs.Living.{count_skip, count_take}
use Rattle.chunk.proofs.list.objects_in.Goals as goal
use Rattle.chunk.proofs.list.objects_in.Goals.{then-id-ne0+then-records_since-eq0, else-id-ne0, else-id-ne0-via-then-id-ne0+else-records_since-eq0, else-id-ne0-via-else-id-ne0}

pub loop-i-init : goal.loop-i-init
loop-i-init c = (search rules, rw count_none)

pub loop-i-preserved : goal.loop-i-preserved
loop-i-preserved c =
    let q = c.loop-i in
    let a = c.args in
    let test = object_page (record_at a.g a.dump.now) in
    elim c.if-id-ne0.branch [
      | then-id-ne0+then-records_since-eq0 w ↦
          let t : test q.i ≡ true = rw (← c.record_at.ensures, ← c.object_of-id.ensures, ne_eqb _ _ w.if-id-ne0.true, ← w.pages_before.ensures, ← w.records_since.ensures, eq-eqb _ _ w.if-records_since-eq0.true) in
          (omega arith, rw (w.count-is, q.invariant.1) (sym (count_take _ q.i t)))
      | else-id-ne0 w ↦
          elim w.else-id-ne0.branch [
            | else-id-ne0-via-then-id-ne0+else-records_since-eq0 u ↦
                let t : test q.i ≡ false = rw (← c.record_at.ensures, ← c.object_of-id.ensures, ne_eqb _ _ u.if-id-ne0.true, ← u.pages_before.ensures, ← u.records_since.ensures, ne_eqb _ _ u.if-records_since-eq0.false) in
                (omega arith, rw w.count-is (q.invariant.1 ∙ sym (count_skip _ q.i t)))
            | else-id-ne0-via-else-id-ne0 u ↦
                let t : test q.i ≡ false = rw (← c.record_at.ensures, ← c.object_of-id.ensures, eq-eqb _ _ u.if-id-ne0.false) in
                (omega arith, rw w.count-is (q.invariant.1 ∙ sym (count_skip _ q.i t)))
          ]
    ]

pub returns : goal.returns
unfolding object_count
returns c =
    let e : c.loop-i.i ≡ c.args.pages = omega arith in
    rw e at c.loop-i.invariant.1
