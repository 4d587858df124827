-- The objects of a tree (document 02, item 13): what the newest header of each says of it, over what each page says.
use Rattle.std.specs.Prelude.{ℕ, Bool, true, false, List, eqb, Option, Some, None}
use Rattle.page.specs.Asked.{text_in}
use Rattle.page.specs.Choice.{pick}
use Rattle.page.specs.Records.{record_at}
use Rattle.page.specs.declared.fields.Text.TheVariants.{Name}
use Rattle.page.specs.declared.geometry.Geometry.{Geometry}
use Rattle.page.specs.declared.record.Record.{Record}
use Rattle.page.specs.declared.record.Record.TheVariants.{Other, Header, Data}
use Rattle.chunk.specs.Records.{is_gone}
use Rattle.chunk.specs.Newest.{newest_header}
use Rattle.chunk.specs.Takes.{seen_by}
use Rattle.chunk.specs.declared.takes.Takes.{Takes}

-- what each page of a dump says, if these of its records are taken, and the names on its header pages
abbrev pub says_by : Geometry → (dump : List ℕ) → Takes → (page : ℕ) → Record
says_by g dump t = seen_by t (record_at g dump)

abbrev pub names_of : Geometry → (dump : List ℕ) → (page : ℕ) → List ℕ
names_of g dump = text_in Name g dump

-- the root, which stands whatever its header says, or with none
abbrev pub root : ℕ
root = 1

-- type 3 is a directory
abbrev pub is_directory : Record → Bool
is_directory Other = false
is_directory (Header h) = eqb h.page_type 3
is_directory (Data d) = false

-- the parent that a header names; 0, which no object has, for another page
abbrev pub parent_in : Record → ℕ
parent_in Other = 0
parent_in (Header h) = h.parent.0
parent_in (Data d) = 0

-- how an object stands as a parent: it has no header, it is deleted, it is no directory, or a directory
pub data Stand : Type 0 where
  missing : Stand
  deleted : Stand
  non_directory : Stand
  directory : Stand

-- by its newest header
abbrev pub stand_by : Record → Stand
stand_by k = pick (is_gone k) deleted (pick (is_directory k) directory non_directory)

-- what a header page gives, if there is one
abbrev pub given : {A : Type 0} → A → (ℕ → A) → Option ℕ → A
given else by None = else
given else by (Some h) = by h

-- object o of a dump of n pages
module _ (says : ℕ → Record) (n : ℕ) where
  -- its newest header
  abbrev pub head_of : (object : ℕ) → Option ℕ
  head_of o = newest_header says o n

  -- the page of that; 0 where there is none
  abbrev pub page_of : (object : ℕ) → ℕ
  page_of o = given 0 (λ h. h) (head_of o)

  -- its parent
  unfoldable pub parent_of : (object : ℕ) → ℕ
  parent_of o = given 0 (λ h. parent_in (says h)) (head_of o)

  -- how it stands
  unfoldable pub stand_of : (object : ℕ) → Stand
  stand_of o = given missing (λ h. stand_by (says h)) (head_of o)

-- whether an object stands as a directory
abbrev pub is_standing : Stand → Bool
is_standing missing = false
is_standing deleted = false
is_standing non_directory = false
is_standing directory = true
