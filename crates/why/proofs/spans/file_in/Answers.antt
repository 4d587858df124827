-- The tests come in the definition's order; then the newest header decides, and where there is none, whether there is a record.
use Rattle.std.specs.Prelude.{None}
use mathlib.Core.Path.{◌≡◌, sym, ap, ◌∙◌}
use Rattle.page.specs.Records.{record_at}
use Rattle.chunk.specs.Newest.{newest_header}
use Rattle.chunk.specs.Lookups.{file_at, file_of}
use Rattle.chunk.specs.Takes.{seen_by}
use Rattle.chunk.proofs.Gathering.{in_none, in_some}
use Rattle.why.specs.Answers.{filed_by, filed_in}
use Rattle.why.proofs.Filing.{filed_none, filed_headless, filed_at}
use Rattle.why.proofs.spans.file_in.Goals as goal
use Rattle.why.proofs.spans.file_in.Goals.{After-newest_page, After-file_at}

-- behind both tests the file of the object decides
behind : (w : After-newest_page) → let a = w.args in
    filed_by (file_of (seen_by a.t (record_at a.g a.dump.now)) a.o.0 a.pages) ≡ filed_in (seen_by a.t (record_at a.g a.dump.now)) a.pages a.m a.o.0
unfolding filed_in
behind w = rw (← w.is_missing.ensures, w.if-is_missing.false, ← w.is_bad.ensures, w.if-is_bad.false)

pub returns-in-None : goal.returns-in-None
returns-in-None c =
    let a = c.args in
    sym (filed_none (seen_by a.t (record_at a.g a.dump.now)) a.o.0 a.pages (sym c.records_since.ensures ∙ c.if-records_since-eq0.true))
    ∙ behind (goal.at.returns-in-None c).After-newest_page

pub returns-in-None-2 : goal.returns-in-None-2
returns-in-None-2 c =
    let a = c.args in
    let says = seen_by a.t (record_at a.g a.dump.now) in
    let n : newest_header says a.o.0 a.pages ≡ None = in_none says (newest_header says a.o.0 a.pages) (sym c.newest_page.ensures ∙ c.in-None.is) in
    sym (filed_headless says a.o.0 a.pages (λ z. c.if-records_since-eq0.false (c.records_since.ensures ∙ z)) n)
    ∙ behind (goal.at.returns-in-None-2 c).After-newest_page

-- the file of the newest header
by-header : (c : After-file_at) → let a = c.args in filed_by c.file_at.result ≡ filed_in (seen_by a.t (record_at a.g a.dump.now)) a.pages a.m a.o.0
unfolding filed_in
by-header c =
    let a = c.args in
    let says = seen_by a.t (record_at a.g a.dump.now) in
    let f = c.in-Some.field-0 in
    let n = in_some says (newest_header says a.o.0 a.pages) f.page f.age (sym c.newest_page.ensures ∙ c.in-Some.is) in
    let k : c.file_at.result ≡ file_at (says f.page.0) f.page.0 0 = rw (← c.seen_at.ensures) c.file_at.ensures in
    ap filed_by k ∙ sym (filed_at says a.o.0 a.pages f.page.0 n.0) ∙ rw (← c.is_missing.ensures, c.if-is_missing.false, ← c.is_bad.ensures, c.if-is_bad.false)

pub returns-in-Err : goal.returns-in-Err
returns-in-Err c = rw c.in-Err.is at (by-header (goal.at.returns-in-Err c).After-file_at)

pub returns-in-Ok : goal.returns-in-Ok
returns-in-Ok c = rw c.in-Ok.is at (by-header (goal.at.returns-in-Ok c).After-file_at)
