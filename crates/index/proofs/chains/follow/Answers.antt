-- A header and data are records, of an object.
use Prim.Native.Nat.{◌-◌, ◌<◌}
use mathlib.Core.Path.{sym, ◌∙◌}
use Rattle.page.specs.Records.{record_at}
use Rattle.page.proofs.Within.{header_within, data_within}
use Rattle.chunk.specs.Records.{object_of}
use Rattle.index.proofs.Chain.Links.{step_to_lem}
use Rattle.index.proofs.chains.follow.Goals as goal

pub returns-in_default : goal.returns-in_default
returns-in_default c =
    let e = sym c.record_at-r.ensures ∙ c.in-Header.is in
    let a = c.args in
    let some : 0 < object_of (record_at a.g a.dump.now (a.link - 2)) = rw e (header_within _ _ _ _ e).object.least in
    rw (step_to_lem (record_at a.g a.dump.now) _ _ _ a.link c.if-link-lt-LINKS.false c.if-pages-q.false some, e)
    c.step_to.ensures

pub returns : goal.returns
returns c =
    let e = sym c.record_at-r.ensures ∙ c.in-Data.is in
    let a = c.args in
    let some : 0 < object_of (record_at a.g a.dump.now (a.link - 2)) = rw e (data_within _ _ _ _ e).object.least in
    rw (step_to_lem (record_at a.g a.dump.now) _ _ _ a.link c.if-link-lt-LINKS.false c.if-pages-q.false some, e)
    c.step_to-2.ensures
