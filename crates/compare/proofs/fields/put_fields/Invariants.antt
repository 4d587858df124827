-- Field by field. The loop's invariant: the lines of those that differ among the fields gone over were put.
use Rattle.text.specs.Put.{Put}
use Rattle.compare.specs.Differences.{field, field_differs}
use Rattle.compare.specs.Fields.{place_of}
use Rattle.compare.specs.Report.{lines_of}
use Rattle.compare.proofs.PassedLines.{lines_to}
use Rattle.compare.proofs.fields.put_fields.Given as goal

abbrev pub invariant-loop-place : goal.invariant-loop-place
invariant-loop-place l = Put (lines_to lines_of field (field_differs l.one l.other) place_of l.place-index) l.initial.buf l.at l.buf l.next
