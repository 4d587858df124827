-- The shelf dump W (document 01, "The shelf dump W") and its marked cases about pages.
-- What the paper leaves open is 0xFF; a header's tags have the top bit, its type and its parent, and byte count 0.
use Rattle.std.specs.Prelude.{ℕ, zero, suc, ◌+◌, ◌/◌, ◌%◌, Bool, true, false, List, [], ◌∷◌, ◌++◌, get_or, set, take, replicate}
use Rattle.page.specs.Layouts.{layout_of}
use Rattle.page.specs.Kinds.{kind_at}
use Rattle.page.specs.declared.geometry.Geometry.{Geometry}
use Rattle.page.specs.declared.layout.Layout.{Layout}
use Rattle.page.specs.declared.kind.Kind.{Kind}
use Rattle.page.specs.declared.kind.Kind.TheVariants.{Blank, Foreign, Damaged, Header, Data}

-- the layout of W, and how W is read
abbrev pub shelf_layout : Layout
shelf_layout = layout_of 512 16 0

abbrev pub shelf_geometry : Geometry
shelf_geometry = record { layout = shelf_layout; block = 4 }

-- the 4 bytes of a word, least first
unfoldable pub word_bytes : ℕ → List ℕ
word_bytes n = n % 256 ∷ n / 256 % 256 ∷ n / 65536 % 256 ∷ n / 16777216 % 256 ∷ []

-- the 16 bytes of tags: sequence, object word, chunk word, byte count
unfoldable pub tagged : (sequence object chunk count : ℕ) → List ℕ
tagged s o c n = word_bytes s ++ word_bytes o ++ word_bytes c ++ word_bytes n

-- n bytes that are left open, as an erased page has them
abbrev pub erased : ℕ → List ℕ
erased n = replicate n 0xFF

-- a header of object 257, type 1 and parent 1
unfoldable pub header_page : (sequence size shrink : ℕ) → List ℕ
header_page sequence size shrink =
    word_bytes 1 ++ word_bytes 1 ++ erased 0x11C ++ word_bytes size ++ erased 0xD4 ++ word_bytes shrink ++
    tagged sequence 0x10000101 0x80000001 0

-- a data page of object 257
unfoldable pub data_page : (sequence chunk count : ℕ) → List ℕ
data_page sequence chunk count = erased 512 ++ tagged sequence 257 chunk count

unfoldable pub blank_page : List ℕ
blank_page = erased 528

-- the pages of W
unfoldable pub shelf_pages : List (List ℕ)
shelf_pages =
    header_page 4097 0 0 ∷
    data_page 4097 1 512 ∷
    data_page 4097 2 100 ∷
    header_page 4097 612 0 ∷
    header_page 4098 300 1 ∷
    data_page 4098 1 300 ∷
    data_page 4098 3 10 ∷
    blank_page ∷
    []

-- the dump that has these pages
unfoldable pub dump_of : List (List ℕ) → List ℕ
dump_of [] = []
dump_of (page ∷ pages) = page ++ dump_of pages

-- W
unfoldable pub shelf : List ℕ
shelf = dump_of shelf_pages

-- page i with other tags
unfoldable pub retagged : (page : ℕ) (tags : List ℕ) → List (List ℕ) → List (List ℕ)
retagged i tags pages = set pages i (take 512 (get_or pages i []) ++ tags)

-- the kinds of n pages of a dump, from page i on
unfoldable pub kinds_from : Geometry → (dump : List ℕ) (from count : ℕ) → List Kind
kinds_from g dump i zero = []
kinds_from g dump i (suc n) = kind_at g dump i ∷ kinds_from g dump (i + 1) n

-- a header and a data page of object 257, as kinds
abbrev pub shelf_header : (sequence size : ℕ) (shrink : Bool) → Kind
shelf_header sequence size shrink = Header (record {
  sequence = sequence;
  object = record { 0 = 257 };
  page_type = 1;
  parent = record { 0 = 1 };
  size = size;
  shrink = shrink;
})

abbrev pub shelf_data : (sequence chunk count : ℕ) → Kind
shelf_data sequence chunk count = Data (record { sequence = sequence; object = record { 0 = 257 }; chunk = record { 0 = chunk }; count = count })

-- the kinds of W's pages
unfoldable pub shelf_kinds : List Kind
shelf_kinds =
    shelf_header 4097 0 false ∷
    shelf_data 4097 1 512 ∷
    shelf_data 4097 2 100 ∷
    shelf_header 4097 612 false ∷
    shelf_header 4098 300 true ∷
    shelf_data 4098 1 300 ∷
    shelf_data 4098 3 10 ∷
    Blank ∷
    []

-- a marked case about a page: what it is with these tags
pub record PageCase : Type 0 where
  pub page : ℕ
  pub tags : List ℕ
  pub kind : Kind

abbrev pub on_page : (page : ℕ) (tags : List ℕ) → Kind → PageCase
on_page i t k = record { page = i; tags = t; kind = k }

-- marked cases 8 to 11, the second line of a case being its other half
unfoldable pub page_cases : List PageCase
page_cases =
    on_page 0 (tagged 4097 0x10000101 0x80000001 0) (shelf_header 4097 0 false) ∷
    on_page 0 (tagged 4097 0x00000101 0 0) (shelf_header 4097 0 false) ∷
    on_page 1 (tagged 4097 257 1 512) (shelf_data 4097 1 512) ∷
    on_page 1 (tagged 4097 257 1 513) Damaged ∷
    on_page 1 (tagged 0xEFFFFF00 257 1 512) (shelf_data 0xEFFFFF00 1 512) ∷
    on_page 1 (tagged 0xEFFFFF01 257 1 512) Foreign ∷
    []

-- what the definitions say of a case
unfoldable pub kind_in : PageCase → Kind
kind_in c = kind_at shelf_geometry (dump_of (retagged c.page c.tags shelf_pages)) c.page
