-- What the report program prints for an input (document 01, "The shelf dump W").
use Rattle.std.specs.Prelude.{ℕ, List, ltb, length}
use Rattle.page.specs.Choice.{pick}
use Rattle.page.specs.declared.refusal.Refusal.TheVariants.{BadLength}
use Rattle.summary.specs.Report.{refusal_line, report_of}

-- the most bytes of dump that it reads, and the pages of a block
abbrev pub most_read : ℕ
most_read = 65536

abbrev pub block_pages : ℕ
block_pages = 4

-- a longer input is refused before anything else
unfoldable pub printed_of : List ℕ → List ℕ
printed_of input = pick (ltb most_read (length input)) (refusal_line BadLength) (report_of input block_pages)
