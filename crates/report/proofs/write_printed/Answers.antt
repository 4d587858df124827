-- A longer input is refused, and any other reported on.
use Rattle.std.proofs.Common.{rules, length, lt-ltb, le-ltb}
use Rattle.report.specs.Printed.{most_read, printed_of}
use Rattle.report.proofs.write_printed.Goals as goal

pub returns-then-input-gt-MOST : goal.returns-then-input-gt-MOST
unfolding printed_of
returns-then-input-gt-MOST c =
    let longer = lt-ltb most_read (length c.args.input.now) (search rules) in
    record { value = rw longer c.write_refusal.ensures.value; text_after = rw longer c.write_refusal.ensures.buf_after }

pub returns : goal.returns
unfolding printed_of
returns c =
    let no_longer = le-ltb most_read (length c.args.input.now) (search rules) in
    record { value = rw no_longer c.write_report.ensures.value; text_after = rw no_longer c.write_report.ensures.buf_after }
