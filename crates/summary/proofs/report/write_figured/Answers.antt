-- The text is measured on no bytes, and written if it fits.
use native.Mathlib.Omega.{arith}
use Rattle.text.proofs.Writing.{refused, accepted}
use Rattle.summary.proofs.report.write_figured.Goals as goal

pub returns-then-buf-need : goal.returns-then-buf-need
returns-then-buf-need c =
    let told = refused c.args.buf.now c.put_report-need.ensures (omega arith) in
    record { value = told.0; buf_after = told.1 }

pub returns : goal.returns
returns c =
    let told = accepted c.args.buf.now c.put_report-need.ensures (omega arith) c.put_report.ensures in
    record { value = told.0; buf_after = told.1 }
