-- The report is measured on no bytes, and written if it fits; a report without a byte is written already.
use native.Mathlib.Omega.{arith}
use Rattle.text.proofs.Writing.{refused, accepted}
use Rattle.compare.proofs.Lining.{written_none}
use Rattle.compare.proofs.whole.write_reports.Goals as goal

pub returns-then-buf-need : goal.returns-then-buf-need
returns-then-buf-need c =
    let told = refused c.args.buf.now c.put_reports-need.ensures (omega arith) in
    record { value = told.0; buf_after = told.1 }

pub returns-then-need-eq0 : goal.returns-then-need-eq0
returns-then-need-eq0 c = written_none _ c.put_reports-need.ensures c.if-need-eq0.true

pub returns : goal.returns
returns c =
    let told = accepted c.args.buf.now c.put_reports-need.ensures (omega arith) c.put_reports.ensures in
    record { value = told.0; buf_after = told.1 }
