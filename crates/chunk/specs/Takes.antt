-- A dump as it stood before an age.
use Rattle.std.specs.Prelude.{ℕ, ltb}
use Rattle.page.specs.Choice.{pick}
use Rattle.page.specs.declared.record.Record.{Record}
use Rattle.page.specs.declared.record.Record.TheVariants.{Other}
use Rattle.chunk.specs.Records.{age_of}
use Rattle.chunk.specs.declared.takes.Takes.{Takes}
use Rattle.chunk.specs.declared.takes.Takes.TheVariants.{Every, Older}

-- what the pages say where only some are taken: all, or the records below an age, with the other pages read as blank
abbrev pub seen_by : Takes → (says : ℕ → Record) → ℕ → Record
seen_by Every says = says
seen_by (Older b) says = λ p. pick (ltb (age_of says p) b) (says p) Other
