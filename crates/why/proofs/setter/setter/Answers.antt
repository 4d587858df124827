use Prim.Native.Nat.{ℕ}
use mathlib.Core.Bool.{Bool, false, ◌||◌}
use mathlib.Core.Path.{◌≡◌, sym, ap, ◌∙◌}
use native.Mathlib.Omega.{arith}
use lib.Dec.{eqb}
use Rattle.page.specs.Records.{record_at}
use Rattle.page.specs.Tags.{names_at}
use Rattle.chunk.specs.Takes.{seen_by}
use Rattle.chunk.specs.Records.{age_of}
use Rattle.chunk.specs.Newest.{newest_where}
use Rattle.chunk.specs.Scans.{newest_in}
use Rattle.chunk.proofs.Gathering.{where_none, where_skip, where_take, later_in_lem}
use Rattle.why.proofs.Setting.{unnamed_sets, setter_none, setter_some}
use Rattle.why.proofs.setter.setter.Goals as goal
use Rattle.why.proofs.setter.setter.Goals.{After-order_of-age, then-sets_size, else-sets_size}
use Rattle.why.proofs.setter.setter.Invariants.{sets}

pub loop-i-init : goal.loop-i-init
loop-i-init c = rw where_none

pub loop-i-preserved-then-not-may_set : goal.loop-i-preserved-then-not-may_set
loop-i-preserved-then-not-may_set c =
    let q = c.loop-i in
    let age = c.order_of-age.result in
    let a = c.args in
    let says = seen_by a.t (record_at a.g a.dump.now) in
    let u : eqb q.i a.h.0 || names_at a.g a.dump.now q.i a.o.0 ≡ false = rw (← c.may_set.ensures) c.if-not-may_set.true in
    let t = unnamed_sets a.g a.dump.now a.t a.g.layout.«data» a.o.0 a.h.0 age a.size q.i u in
    (q.invariant ∙ ap (newest_in says) (sym (where_skip says (sets says a.g.layout.«data» a.o.0 a.h.0 age a.size) q.i t)))

pub loop-i-preserved : goal.loop-i-preserved
loop-i-preserved c =
    let q = c.loop-i in
    let age = c.order_of-age.result in
    let a = c.args in
    let says = seen_by a.t (record_at a.g a.dump.now) in
    let test : ℕ → Bool = sets says a.g.layout.«data» a.o.0 a.h.0 age a.size in
    let tested : test q.i ≡ c.sets_size.result = rw (← c.seen_at-r.ensures) (sym c.sets_size.ensures) in
    elim c.if-sets_size.branch [
      | then-sets_size w ↦
          let g : w.order_of.result ≡ age_of says q.i = rw (← c.seen_at-r.ensures, ← w.sequence_of-then-sets_size.ensures) w.order_of.ensures in
          w.best-is
          ∙ w.newer-best.ensures
          ∙ rw (q.invariant, g) (later_in_lem says q.i (newest_where says test q.i))
          ∙ ap (newest_in says) (sym (where_take says test q.i (tested ∙ w.if-sets_size.true)))
      | else-sets_size w ↦ w.best-is ∙ q.invariant ∙ ap (newest_in says) (sym (where_skip says test q.i (tested ∙ w.if-sets_size.false)))
    ]

-- the age that is searched above is that of the newest header
known : (c : After-order_of-age) → let a = c.args in
    c.order_of-age.result ≡ age_of (seen_by a.t (record_at a.g a.dump.now)) a.h.0
known c = rw (← c.seen_at.ensures, ← c.sequence_of.ensures) c.order_of-age.ensures

pub returns-in-None : goal.returns-in-None
returns-in-None c =
    let q = c.loop-i in
    let a = c.args in
    let says = seen_by a.t (record_at a.g a.dump.now) in
    let n : q.i ≡ a.pages = omega arith in
    setter_none says a.g.layout.«data» a.o.0 a.pages a.h.0 c.order_of-age.result a.size (known (goal.at.returns-in-None c).After-order_of-age) c.requires (rw n at (sym q.invariant ∙ c.in-None.is))

pub returns-in-Some : goal.returns-in-Some
returns-in-Some c =
    let q = c.loop-i in
    let a = c.args in
    let says = seen_by a.t (record_at a.g a.dump.now) in
    let n : q.i ≡ a.pages = omega arith in
    setter_some says a.g.layout.«data» a.o.0 a.pages a.h.0 c.order_of-age.result a.size (known (goal.at.returns-in-Some c).After-order_of-age) c.requires _ _ (rw n at (sym q.invariant ∙ c.in-Some.is))
