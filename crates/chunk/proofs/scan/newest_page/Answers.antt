use mathlib.Core.Bool.{false}
use mathlib.Core.Path.{◌≡◌, sym, ap, ◌∙◌}
use native.Mathlib.Omega.{arith}
use Rattle.page.specs.Records.{record_at}
use Rattle.page.specs.Tags.{names_at}
use Rattle.chunk.specs.Takes.{seen_by}
use Rattle.chunk.specs.Records.{is_of}
use Rattle.chunk.specs.Newest.{newest}
use Rattle.chunk.specs.Scans.{wanted, newest_in}
use Rattle.chunk.proofs.Records.{seen_unnamed}
use Rattle.chunk.proofs.Gathering.{where_none, where_skip, where_take, later_in_lem}
use Rattle.page.proofs.Searching.{by_test}
use Rattle.chunk.proofs.scan.newest_page.Goals as goal

pub loop-i-init : goal.loop-i-init
loop-i-init c = rw where_none

pub loop-i-preserved-then-not-names_object : goal.loop-i-preserved-then-not-names_object
loop-i-preserved-then-not-names_object c =
    let q = c.loop-i in
    let a = c.args in
    let says = seen_by a.t (record_at a.g a.dump.now) in
    let u : names_at a.g a.dump.now q.i a.o.0 ≡ false = rw (← c.names_object.ensures) c.if-not-names_object.true in
    let t : is_of a.o.0 (says q.i) ≡ false = seen_unnamed a.g a.dump.now q.i a.o.0 u a.t in
    (q.invariant ∙ ap (newest_in says) (sym (where_skip says (λ p. wanted a.o.0 a.w (says p)) q.i (rw t))))

pub loop-i-preserved : goal.loop-i-preserved
loop-i-preserved c =
    let q = c.loop-i in
    let a = c.args in
    let says = seen_by a.t (record_at a.g a.dump.now) in
    let test = wanted a.o.0 a.w in
    by_test (test (says q.i)) _
    (λ t. c.newer_wanted-best.ensures ∙ rw (t, q.invariant) (later_in_lem says q.i (newest says test q.i)) ∙ ap (newest_in says) (sym (where_take says (λ p. test (says p)) q.i t)))
    (λ t. c.newer_wanted-best.ensures ∙ rw t q.invariant ∙ ap (newest_in says) (sym (where_skip says (λ p. test (says p)) q.i t)))

pub returns : goal.returns
returns c =
    let e : c.loop-i.i ≡ c.args.pages = omega arith in
    rw e at c.loop-i.invariant
