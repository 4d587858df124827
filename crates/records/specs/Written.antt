-- The records of an object in the order in which they were written.
use Rattle.std.specs.Prelude.{ℕ, Bool, List, get_or}
use Rattle.page.specs.declared.record.Record.{Record}
use Rattle.sort.specs.Packed.{value_of}
use Rattle.chunk.specs.Live.{ids_of}
use Rattle.chunk.specs.Records.{age_of, is_of}

-- the page of an age
abbrev pub page_of : (age : ℕ) → ℕ
page_of a = value_of a

-- what the page of an age says
abbrev pub said_at : (says : ℕ → Record) (age : ℕ) → Record
said_at says a = says (page_of a)

-- whether page p is a record of object o
abbrev pub is_record : (says : ℕ → Record) (object page : ℕ) → Bool
is_record says o p = is_of o (says p)

-- the ages of the records of object o among the first n pages, ascending: the oldest first
unfoldable pub written : (says : ℕ → Record) (object pages : ℕ) → List ℕ
written says o n = ids_of (is_record says o) (age_of says) n

-- the page of the record at a place among them
abbrev pub page_at : (says : ℕ → Record) (object pages place : ℕ) → ℕ
page_at says o n i = page_of (get_or (written says o n) i 0)
