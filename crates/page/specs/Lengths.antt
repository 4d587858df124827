-- What a dump measures (document 01, "Layouts"): its length, its blocks and its pages.
use Rattle.std.specs.Prelude.{ℕ, ◌+◌, ◌*◌, ◌/◌, ◌%◌, Bool, not, ◌&&◌, eqb, leb, Result, Ok, Err}
use Rattle.page.specs.declared.refusal.Refusal.{Refusal}
use Rattle.page.specs.Choice.{pick}
use Rattle.page.specs.Layouts.{layouts, most_bytes, page_len, roomy, number_of}
use Rattle.page.specs.declared.geometry.Geometry.{Geometry}
use Rattle.page.specs.declared.layout.Layout.{Layout}
use Rattle.page.specs.declared.refusal.Refusal.TheVariants.{BadLayout, BadLength, BadPage}

-- the most pages of a block
abbrev pub most_pages : ℕ
most_pages = 256

-- a block has at least one page, and not too many
unfoldable pub block_fits : ℕ → Bool
block_fits k = not (eqb k 0) && leb k most_pages

-- a dump is not empty, and not too long
unfoldable pub length_fits : ℕ → Bool
length_fits n = not (eqb n 0) && leb n most_bytes

-- a layout in blocks of k pages, and the same layout in other blocks
abbrev pub geometry_of : Layout → ℕ → Geometry
geometry_of l k = record { layout = l; block = k }

abbrev pub in_blocks : Geometry → ℕ → Geometry
in_blocks g k = geometry_of g.layout k

module _ (g : Geometry) (n : ℕ) where
  -- whether n bytes are whole blocks
  unfoldable pub whole_blocks : Bool
  whole_blocks = eqb (n % (g.block * page_len g.layout)) 0

  -- how many pages n bytes are
  abbrev pub page_count : ℕ
  page_count = n / page_len g.layout

  -- a dump of n bytes
  unfoldable pub opened_of : Result ℕ Refusal
  opened_of =
      pick (leb layouts (number_of g.layout)) (Err BadLayout)
      (pick (not (block_fits g.block)) (Err BadLayout)
      (pick (not (length_fits n)) (Err BadLength)
      (pick (not whole_blocks) (Err BadLength)
      (Ok page_count))))

-- page i where the dump has so many pages: 0 to count - 1
unfoldable pub placed_in : Result ℕ Refusal → ℕ → Result Unit Refusal
placed_in (Err r) i = Err r
placed_in (Ok count) i = pick (leb count i) (Err BadPage) (Ok tt)

-- page i of such a dump
unfoldable pub placed_of : Geometry → (length page : ℕ) → Result Unit Refusal
placed_of g n i = placed_in (opened_of g n) i

-- whether page i lies in a dump of n bytes, with room for a header and for tags
unfoldable pub page_in : Geometry → (length page : ℕ) → Bool
page_in g n i = roomy g.layout && leb (i * page_len g.layout + page_len g.layout) n
