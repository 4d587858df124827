-- Records (document 01, "Page kinds" and "Newest, size and cuts"): a header or a data page, which the rules ask what it says, or another page,
-- which says nothing to them.
use Rattle.std.specs.Prelude.{ℕ, Bool, true, false, List}
use Rattle.page.specs.Kinds.{kind_at}
use Rattle.page.specs.declared.geometry.Geometry.{Geometry}
use Rattle.page.specs.declared.kind.Kind.{Kind}
use Rattle.page.specs.declared.kind.Kind.TheVariants as kind
use Rattle.page.specs.declared.record.Record.{Record}
use Rattle.page.specs.declared.record.Record.TheVariants.{Other, Header, Data}

-- the record that a page is, if it is one
abbrev pub record_of : Kind → Record
record_of kind.Blank = Other
record_of kind.Foreign = Other
record_of kind.Damaged = Other
record_of (kind.Header h) = Header h
record_of (kind.Data d) = Data d

-- the record that page i of a dump is
unfoldable pub record_at : Geometry → (dump : List ℕ) (page : ℕ) → Record
record_at g dump i = record_of (kind_at g dump i)

-- whether it is a header, or data
abbrev pub is_header : Record → Bool
is_header Other = false
is_header (Header h) = true
is_header (Data d) = false

abbrev pub is_data : Record → Bool
is_data Other = false
is_data (Header h) = false
is_data (Data d) = true
