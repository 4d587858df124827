-- As many ids are needed as the tally counts.
use mathlib.Core.Path.{sym}
use lib.ListN.{length}
use native.Mathlib.Omega.{arith}
use borrow.Author.Tests.{lt-ltb, le-ltb}
use Rattle.page.specs.Records.{record_at}
use Rattle.index.proofs.Answer.Listings.{Counted, list_counted}
use Rattle.index.proofs.list.list_in.Goals as goal
use Rattle.index.proofs.list.list_in.Goals.{In_ok-need}

-- what is known where the tally counted
counted : (c : In_ok-need) → let a = c.args in Counted (record_at a.g a.dump.now) a.g.layout.«data» a.cells.now a.pages (length a.words.now) c.in_ok-need.need
counted c = list_counted _ _ _ _ (omega (arith, c.if-cells-cells_for.false, c.cells_for.ensures)) _ _ (sym c.in_ok-need.ensures)

pub returns-then-words-need-clause-value : goal.returns-then-words-need-clause-value
returns-then-words-need-clause-value c = rw ((counted (goal.at.returns-then-words-need-clause-value c).In_ok-need).1, lt-ltb _ _ c.if-words-need.true)

pub write_ids-requires-clause-pages_in_bounds_2 : goal.write_ids-requires-clause-pages_in_bounds_2
write_ids-requires-clause-pages_in_bounds_2 c = omega (arith, (counted (goal.at.write_ids-requires-clause-pages_in_bounds_2 c).In_ok-need).0, c.if-words-need.false)

pub returns-clause-value : goal.returns-clause-value
returns-clause-value c = rw ((counted (goal.at.returns-clause-value c).In_ok-need).1, le-ltb _ _ c.if-words-need.false)
