-- Layouts (document 01, "Layouts"): the table of data size P, spare size S and tag offset T.
use Rattle.std.specs.Prelude.{ℕ, ◌+◌, Bool, ◌&&◌, List, [], ◌∷◌, get_or, eqb, leb, Result, Ok, Err}
use Rattle.page.specs.declared.refusal.Refusal.{Refusal}
use Rattle.page.specs.Choice.{pick}
use Rattle.page.specs.Search.{first_from}
use Rattle.page.specs.Headers.{at_shrink}
use Rattle.page.specs.declared.layout.Layout.{Layout}
use Rattle.page.specs.declared.refusal.Refusal.TheVariants.{BadLayout}

-- the layout with data size p, spare size s and tag offset t
abbrev pub layout_of : (size spare tag : ℕ) → Layout
layout_of p s t = record { «data» = p; spare = s; tag = t }

-- how many layouts the table has
abbrev pub layouts : ℕ
layouts = 13

-- how many bytes the tags of a page are, and those of a header, whose last field is the shrink word
abbrev pub tag_length : ℕ
tag_length = 16

abbrev pub header_bytes : ℕ
header_bytes = at_shrink + 4

-- the most bytes of a dump
abbrev pub most_bytes : ℕ
most_bytes = 1073741824

-- the columns of the table
unfoldable pub data_sizes : List ℕ
data_sizes = 2048 ∷ 2048 ∷ 2048 ∷ 4096 ∷ 4096 ∷ 4096 ∷ 512 ∷ 8192 ∷ 8192 ∷ 8192 ∷ 16384 ∷ 16384 ∷ 16384 ∷ []

unfoldable pub spare_sizes : List ℕ
spare_sizes = 64 ∷ 64 ∷ 64 ∷ 128 ∷ 128 ∷ 128 ∷ 16 ∷ 224 ∷ 224 ∷ 224 ∷ 448 ∷ 448 ∷ 448 ∷ []

unfoldable pub tag_offsets : List ℕ
tag_offsets = 0 ∷ 2 ∷ 30 ∷ 0 ∷ 2 ∷ 30 ∷ 0 ∷ 0 ∷ 2 ∷ 30 ∷ 0 ∷ 2 ∷ 30 ∷ []

-- the layout with the number n in the table
unfoldable pub layout_at : ℕ → Layout
layout_at n = layout_of (get_or data_sizes n 0) (get_or spare_sizes n 0) (get_or tag_offsets n 0)

-- a layout named by its number: 13 and above are not in the table
unfoldable pub by_number : ℕ → Result Layout Refusal
by_number n = pick (leb layouts n) (Err BadLayout) (Ok (layout_at n))

-- whether a layout has these sizes and this tag offset
unfoldable pub has_sizes : (size spare tag : ℕ) → Layout → Bool
has_sizes p s t l = eqb l.«data» p && eqb l.spare s && eqb l.tag t

-- the first number in the table of a layout of these sizes and this tag offset; 13 where there is none
unfoldable pub number_of_sizes : (size spare tag : ℕ) → ℕ
number_of_sizes p s t = first_from (λ n. has_sizes p s t (layout_at n)) 0 layouts

-- a layout named by its sizes and its tag offset
unfoldable pub by_sizes : (size spare tag : ℕ) → Result Layout Refusal
by_sizes p s t = by_number (number_of_sizes p s t)

-- the number of a layout in the table; 13 where it is not there
abbrev pub number_of : Layout → ℕ
number_of l = number_of_sizes l.«data» l.spare l.tag

-- the length of a page: P data bytes and then S spare bytes
abbrev pub page_len : Layout → ℕ
page_len l = l.«data» + l.spare

-- where the tags of a page begin
abbrev pub tag_place : Layout → ℕ
tag_place l = l.«data» + l.tag

-- the one condition on sizes: a header has room in the data, the 16 tag bytes at T in the spare, and a page is no longer than a dump may be
unfoldable pub roomy : Layout → Bool
roomy l = leb header_bytes l.«data» && leb (l.tag + tag_length) l.spare && leb (page_len l) most_bytes
