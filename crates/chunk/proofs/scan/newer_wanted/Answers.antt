use mathlib.Core.Bool.{true, false}
use mathlib.Core.Path.{◌≡◌}
use Rattle.page.specs.Records.{record_at}
use Rattle.chunk.specs.Takes.{seen_by}
use Rattle.chunk.specs.Records.{age_of}
use Rattle.chunk.specs.Scans.{wanted}
use Rattle.chunk.proofs.scan.newer_wanted.Goals as goal

pub returns-then-not-is_wanted : goal.returns-then-not-is_wanted
returns-then-not-is_wanted c =
    let a = c.args in
    let says = seen_by a.t (record_at a.g a.dump.now) in
    let t : wanted a.o.0 a.w (says a.n.0) ≡ false = rw (← c.seen_at-r.ensures, ← c.is_wanted.ensures) c.if-not-is_wanted.true in
    rw t

pub returns : goal.returns
returns c =
    let a = c.args in
    let says = seen_by a.t (record_at a.g a.dump.now) in
    let t : wanted a.o.0 a.w (says a.n.0) ≡ true = rw (← c.seen_at-r.ensures, ← c.is_wanted.ensures) c.if-not-is_wanted.false in
    let g : c.order_of.result ≡ age_of says a.n.0 = rw (← c.seen_at-r.ensures, ← c.sequence_of.ensures) c.order_of.ensures in
    rw (t, ← g) c.newer.ensures
