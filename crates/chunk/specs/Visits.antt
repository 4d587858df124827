-- How many records a lookup visits, by how it ends (document 01, "Index", the table of visits).
use Rattle.std.specs.Prelude.{ℕ, min}
use Rattle.page.specs.declared.record.Record.{Record}
use Rattle.chunk.specs.Records.{age_of}
use Rattle.chunk.specs.Newest.{since, records}

-- how a lookup of an object ends: it found a copy q, where h is the newest header; it found a hole, or the object has no header; or it did not get
-- below the newest header h: a size, Deleted, NotAFile, PastEnd
pub data Ending : Type 0 where
  copy : (header page : ℕ) → Ending
  hole : Ending
  headless : Ending
  headed : (header : ℕ) → Ending

-- the records of object o that it visits, of n pages; a lookup that is refused in another way visits none
abbrev pub visits : (says : ℕ → Record) (object pages : ℕ) → Ending → ℕ
visits says o n (copy h q) = since says o (min (age_of says q) (age_of says h)) n
visits says o n hole = records says o n
visits says o n headless = records says o n
visits says o n (headed h) = since says o (age_of says h) n
