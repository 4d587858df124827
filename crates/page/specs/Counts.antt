-- Counting the pages of a dump by their kinds, each kind by its own rule (document 01, "Page kinds").
use Rattle.std.specs.Prelude.{ℕ, ◌≤◌, Bool, true, false, List, length, Result, Ok, Err}
use Rattle.page.specs.declared.refusal.Refusal.{Refusal}
use Rattle.page.specs.Search.{count, more}
use Rattle.page.specs.Lengths.{opened_of}
use Rattle.page.specs.Kinds.{kind_at}
use Rattle.page.specs.declared.geometry.Geometry.{Geometry}
use Rattle.page.specs.declared.kind.Kind.{Kind}
use Rattle.page.specs.declared.kind.Kind.TheVariants.{Blank, Foreign, Damaged, Header, Data}
use Rattle.page.specs.declared.count.Counts.{Counts}

-- whether a page is of one kind
abbrev pub is_blank : Kind → Bool
is_blank Blank = true
is_blank Foreign = false
is_blank Damaged = false
is_blank (Header h) = false
is_blank (Data d) = false

abbrev pub is_foreign : Kind → Bool
is_foreign Blank = false
is_foreign Foreign = true
is_foreign Damaged = false
is_foreign (Header h) = false
is_foreign (Data d) = false

abbrev pub is_damaged : Kind → Bool
is_damaged Blank = false
is_damaged Foreign = false
is_damaged Damaged = true
is_damaged (Header h) = false
is_damaged (Data d) = false

abbrev pub is_header : Kind → Bool
is_header Blank = false
is_header Foreign = false
is_header Damaged = false
is_header (Header h) = true
is_header (Data d) = false

abbrev pub is_data : Kind → Bool
is_data Blank = false
is_data Foreign = false
is_data Damaged = false
is_data (Header h) = false
is_data (Data d) = true

-- how many of the first n pages are of one kind
abbrev pub kinds_below : (Kind → Bool) → Geometry → (dump : List ℕ) (pages : ℕ) → ℕ
kinds_below is g dump n = count (λ i. is (kind_at g dump i)) n

-- the five counts of the first n pages
unfoldable pub counts_below : Geometry → (dump : List ℕ) (pages : ℕ) → Counts
counts_below g dump n = record {
  blank = kinds_below is_blank g dump n;
  foreign = kinds_below is_foreign g dump n;
  damaged = kinds_below is_damaged g dump n;
  headers = kinds_below is_header g dump n;
  «data» = kinds_below is_data g dump n;
}

-- a page of kind k counted too
abbrev pub with_kind : Counts → Kind → Counts
with_kind c k = record {
  blank = more (is_blank k) c.blank;
  foreign = more (is_foreign k) c.foreign;
  damaged = more (is_damaged k) c.damaged;
  headers = more (is_header k) c.headers;
  «data» = more (is_data k) c.«data»;
}

-- no count is above n
pub record AtMost (n : ℕ) (c : Counts) : Type 0 where
  pub blanks : c.blank ≤ n
  pub foreigns : c.foreign ≤ n
  pub damageds : c.damaged ≤ n
  pub header : c.headers ≤ n
  pub datas : c.«data» ≤ n

unfoldable pub counted_in : Result ℕ Refusal → Geometry → List ℕ → Result Counts Refusal
counted_in (Err r) g dump = Err r
counted_in (Ok n) g dump = Ok (counts_below g dump n)

-- the five counts of a dump
unfoldable pub counted_of : Geometry → List ℕ → Result Counts Refusal
counted_of g dump = counted_in (opened_of g (length dump)) g dump
