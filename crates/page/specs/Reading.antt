-- Which bytes are read: of a page by its kind and its fields, and of a dump by the finding of its layout (document 02, items 2 and 3).
use Rattle.std.specs.Prelude.{ℕ, ◌+◌, ◌%◌, ◌<◌, Bool, true, ◌&&◌, ◌≡◌, List, [], ◌∷◌, ◌++◌, length, get_or, leb, ltb}
use Rattle.page.specs.Search.{count}
use Rattle.page.specs.Words.{le32}
use Rattle.page.specs.Headers.{at_type, at_parent, at_size, at_shrink}
use Rattle.page.specs.Layouts.{layouts, layout_at, tag_length, page_len, tag_place}
use Rattle.page.specs.Lengths.{block_fits, length_fits, whole_blocks, page_in}
use Rattle.page.specs.Pages.{page_at}
use Rattle.page.specs.Tags.{tag_bytes, claim_on, claim_at}
use Rattle.page.specs.Find.{candidate_at}
use Rattle.page.specs.Shelf.{tagged, erased}
use Rattle.page.specs.declared.geometry.Geometry.{Geometry}
use Rattle.page.specs.declared.layout.Layout.{Layout}
use Rattle.page.specs.declared.number.ObjectId.{ObjectId}
use Rattle.page.specs.declared.tags.Claim.TheVariants as claim

-- two pages with the same first n bytes
abbrev pub SameFirst : (count : ℕ) (p q : List ℕ) → Type 0
SameFirst n p q = (i : ℕ) → i < n → get_or p i 0 ≡ get_or q i 0

-- two headers with the same type, parent, file size and shrink word
pub record SameWords (p q : List ℕ) : Type 0 where
  pub page_type_lem : le32 p at_type ≡ le32 q at_type
  pub parent : le32 p at_parent ≡ le32 q at_parent
  pub size : le32 p at_size ≡ le32 q at_size
  pub shrink : le32 p at_shrink ≡ le32 q at_shrink

-- two pages of a layout with the same tags, and with the same words if the tags are a header's
pub record SameSaid (l : Layout) (p q : List ℕ) : Type 0 where
  pub tags : tag_bytes l p ≡ tag_bytes l q
  pub words : (sequence : ℕ) (object : ObjectId) → claim_on l q ≡ claim.Header sequence object → SameWords p q

-- two dumps of one length, whose pages are so
pub record SamePages (g : Geometry) (a b : List ℕ) : Type 0 where
  pub long : length a ≡ length b
  pub said : (i : ℕ) → page_in g (length a) i ≡ true → SameSaid g.layout (page_at g a i) (page_at g b i)

-- whether byte `at` of a dump of this layout lies in the spare of its page
unfoldable pub in_spare : Layout → ℕ → Bool
in_spare l at = leb l.«data» (at % page_len l)

-- whether it is one of the 16 tag bytes there
unfoldable pub in_tags : Layout → ℕ → Bool
in_tags l at = leb (tag_place l) (at % page_len l) && ltb (at % page_len l) (tag_place l + tag_length)

-- whether candidate c divides n bytes into whole blocks of k pages, and byte `at` is one of its tag bytes
abbrev pub tags_of_candidate : (k length at candidate : ℕ) → Bool
tags_of_candidate k n at c = whole_blocks (candidate_at k c) n && in_tags (layout_at c) at

-- whether byte `at` of n bytes in blocks of k pages is read: neither K nor the length is refused, and it is a tag byte of some candidate that
-- divides them
unfoldable pub is_read : (k length at : ℕ) → Bool
is_read k n at = block_fits k && length_fits n && leb 1 (count (tags_of_candidate k n at) layouts)

-- two dumps of one length that agree on every byte that is read
pub record SameRead (a b : List ℕ) (k : ℕ) : Type 0 where
  pub long : length a ≡ length b
  pub bytes : (at : ℕ) → at < length a → is_read k (length a) at ≡ true → get_or a at 0 ≡ get_or b at 0

-- two dumps of one length whose tags say the same under every candidate that divides them
pub record SameClaims (a b : List ℕ) (k : ℕ) : Type 0 where
  pub long : length a ≡ length b
  pub claims :
      block_fits k ≡ true → length_fits (length a) ≡ true → (c i : ℕ) → c < layouts → whole_blocks (candidate_at k c) (length a) ≡ true → page_in (candidate_at k c) (length a) i ≡ true →
      claim_at (candidate_at k c) a i ≡ claim_at (candidate_at k c) b i

-- a dump of one page of 512/16 with these tags, and another value for one of their bytes
pub record TagCase : Type 0 where
  pub byte : ℕ
  pub tags : List ℕ
  pub value : ℕ

abbrev pub on_byte : (byte : ℕ) (tags : List ℕ) (value : ℕ) → TagCase
on_byte j t v = record { byte = j; tags = t; value = v }

abbrev pub tag_dump : TagCase → List ℕ
tag_dump c = erased 512 ++ c.tags

-- each of the 16 tag bytes, on a dump whose layout is found, beside a value of it with which none is
unfoldable pub tag_cases : List TagCase
tag_cases =
    on_byte 0 (tagged 0xEFFFFF00 1 1 1) 1 ∷
    on_byte 1 (tagged 0x1000 1 1 1) 0 ∷
    on_byte 2 (tagged 0x10000 1 1 1) 0 ∷
    on_byte 3 (tagged 0x1000000 1 1 1) 0 ∷
    on_byte 4 (tagged 0x1000 1 1 1) 0 ∷
    on_byte 5 (tagged 0x1000 0x100 1 1) 0 ∷
    on_byte 6 (tagged 0x1000 0x10000 1 1) 0 ∷
    on_byte 7 (tagged 0x1000 0x1000000 1 1) 0 ∷
    on_byte 8 (tagged 0x1000 1 0 0) 1 ∷
    on_byte 9 (tagged 0x1000 1 0 0) 1 ∷
    on_byte 10 (tagged 0x1000 1 0 0) 1 ∷
    on_byte 11 (tagged 0x1000 1 0 0) 1 ∷
    on_byte 12 (tagged 0x1000 1 1 1) 0 ∷
    on_byte 13 (tagged 0x1000 1 1 0x100) 0 ∷
    on_byte 14 (tagged 0x1000 1 1 1) 1 ∷
    on_byte 15 (tagged 0x1000 1 1 1) 1 ∷
    []
