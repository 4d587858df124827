-- The moment at which a dump is looked at, as C has it.
use Rattle.std.specs.Prelude.{ℕ, eqb}
use Rattle.page.specs.Choice.{pick}
use Rattle.chunk.specs.declared.moment.Moment.{Moment}
use Rattle.chunk.specs.declared.moment.Moment.TheVariants.{Now, Before}

-- the moment before a page; all ones, which no page is, for the dump as it stands
abbrev pub moment_at : ℕ → Moment
moment_at before = pick (eqb before 0xFFFFFFFF) Now (Before (record { 0 = before }))
