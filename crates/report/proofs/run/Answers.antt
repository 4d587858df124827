-- What was written is the report on what was read, and so the report on all.
use Rattle.std.proofs.Common.{◌≡◌, rules}
use Rattle.std.specs.Io.KnownBytes.{Appends}
use Rattle.std.specs.Prelude.{Result, Ok, Err, IfOk}
use Rattle.std.specs.Result.{MatchResult, IsErrAnd}
use Rattle.std.proofs.lemmas.Result.{IfOk-at_ok, on_ok_weaker}
use Rattle.report.proofs.Printed.{printed_known}
use Rattle.report.proofs.run.Goals as goal

-- what holds of a value holds of it where only the error is another
mapped : {T E D : Type 0} (P : T → Type 0) (Q : E → D → Type 0) (r : Result T E) (s : Result T D)
    → MatchResult r (λ x. s ≡ Ok x) (λ e. IsErrAnd s (Q e)) → IfOk r P → IfOk s P
mapped P Q (Ok x) s h p = rw h p
mapped P Q (Err e) (Ok x) h p = absurd h
mapped P Q (Err e) (Err d) h p = tt

pub returns-clause-printed : goal.returns-clause-printed
returns-clause-printed g c =
    let n = c.in_ok-n in
    let known = IfOk-at_ok _ n.was (mapped _ _ c.read_all.result c.map_err.result c.map_err.ensures.cases c.read_all.ensures.known) in
    let within = IfOk-at_ok _ n.was (mapped _ _ c.read_all.result c.map_err.result c.map_err.ensures.cases c.read_all.ensures.within) in
    let before = g.W.Write.contents c.args.writer.now in
    let after = g.W.Write.contents c.print_report.new.writer in
    mapped _ _ c.print_report.result c.map_err-2.result c.map_err-2.ensures.cases
    (on_ok_weaker c.print_report.result
    (printed_known _ _ c.read_all.new.buf n.n (Appends before after) known.0 known.1 within.0 (search rules))
    c.print_report.ensures)
