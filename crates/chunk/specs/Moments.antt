-- When a dump is looked at: as it stands, or as it stood before the record on a page was written.
use Rattle.std.specs.Prelude.{ℕ, Bool, false, leb}
use Rattle.page.specs.declared.record.Record.{Record}
use Rattle.chunk.specs.Records.{age_of}
use Rattle.chunk.specs.declared.takes.Takes.{Takes}
use Rattle.chunk.specs.declared.takes.Takes.TheVariants.{Every, Older}
use Rattle.chunk.specs.declared.moment.Moment.{Moment}
use Rattle.chunk.specs.declared.moment.Moment.TheVariants.{Now, Before}

-- whether a dump of n pages does not have the page
abbrev pub is_missing : (pages : ℕ) → Moment → Bool
is_missing n Now = false
is_missing n (Before p) = leb n p.0

-- which records are read: every one, or those that are older
abbrev pub takes_at : (says : ℕ → Record) → Moment → Takes
takes_at says Now = Every
takes_at says (Before p) = Older (age_of says p.0)
