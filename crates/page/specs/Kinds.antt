-- Page kinds, first match wins (document 01, "Page kinds"): what the tags and the page say.
use Rattle.std.specs.Prelude.{ℕ, Bool, not, ◌&&◌, ◌||◌, List, length, eqb, ltb, Result, Ok, Err}
use Rattle.page.specs.declared.refusal.Refusal.{Refusal}
use Rattle.page.specs.Choice.{pick}
use Rattle.page.specs.Words.{le32}
use Rattle.page.specs.Lengths.{page_in, placed_of}
use Rattle.page.specs.Pages.{page_at}
use Rattle.page.specs.Tags.{tags_of, tag_bytes, is_typed, type_in, claim_on}
use Rattle.page.specs.Headers.{at_type, at_parent, at_size, at_shrink}
use Rattle.page.specs.declared.geometry.Geometry.{Geometry}
use Rattle.page.specs.declared.layout.Layout.{Layout}
use Rattle.page.specs.declared.number.ObjectId.{ObjectId}
use Rattle.page.specs.declared.tags.Tags.{Tags}
use Rattle.page.specs.declared.tags.Claim.{Claim}
use Rattle.page.specs.declared.tags.Claim.TheVariants as claim
use Rattle.page.specs.declared.kind.Kind.{Kind}
use Rattle.page.specs.declared.kind.Kind.TheVariants.{Blank, Foreign, Damaged, Header, Data}

-- a page type that is not 1 to 5
unfoldable pub bad_type : ℕ → Bool
bad_type n = eqb n 0 || ltb 5 n

-- a tag type, which only tags with the top bit have, that differs from the page type
unfoldable pub type_differs : Tags → ℕ → Bool
type_differs t n = is_typed t && not (eqb (type_in t) n)

-- a header by its tags, Damaged instead if its page type is none or differs from its tag type
unfoldable pub header_of : (page : List ℕ) → Tags → (sequence : ℕ) → ObjectId → Kind
header_of page t sequence object =
    pick (bad_type (le32 page at_type)) Damaged
    (pick (type_differs t (le32 page at_type)) Damaged
    (Header (record {
      sequence = sequence;
      object = object;
      page_type = le32 page at_type;
      parent = record { 0 = le32 page at_parent };
      size = le32 page at_size;
      shrink = not (eqb (le32 page at_shrink) 0);
    })))

-- the kind of a page whose tags say this
unfoldable pub kind_by : List ℕ → Tags → Claim → Kind
kind_by page t claim.Blank = Blank
kind_by page t claim.Foreign = Foreign
kind_by page t claim.Damaged = Damaged
kind_by page t (claim.Header s o) = header_of page t s o
kind_by page t (claim.Data d) = Data d

-- the kind of a page of a layout
unfoldable pub kind_of : Layout → List ℕ → Kind
kind_of l page = kind_by page (tags_of (tag_bytes l page)) (claim_on l page)

-- the kind of page i; one that is not in the dump says nothing, as a blank one
unfoldable pub kind_at : Geometry → (dump : List ℕ) (page : ℕ) → Kind
kind_at g dump i = pick (page_in g (length dump) i) (kind_of g.layout (page_at g dump i)) Blank

-- the kind where the page is placed
unfoldable pub told_in : Result Unit Refusal → Kind → Result Kind Refusal
told_in (Err r) k = Err r
told_in (Ok tt) k = Ok k

-- the kind of page i of a dump
unfoldable pub told_of : Geometry → (dump : List ℕ) (page : ℕ) → Result Kind Refusal
told_of g dump i = told_in (placed_of g (length dump) i) (kind_at g dump i)
