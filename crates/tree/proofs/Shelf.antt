-- The tree of W, computed from the definitions: object 257 is a file under the root, and its name the 256 bytes that the paper leaves open, which are
-- 0xFF here. What W's pages are is known from the crate of pages; of its names, that of page 4, the newest header, is read.
use Prim.Native.Nat.{ℕ}
use mathlib.Core.List.{List, ◌++◌}
use mathlib.Core.Path.{◌≡◌, refl, ap, ◌∙◌}
use lib.ListN.{get_or}
use Rattle.page.specs.Asked.{text_in}
use Rattle.page.specs.Headers.{text_of}
use Rattle.page.specs.Kinds.{bad_type, type_differs, header_of, kind_by, kind_of, kind_at}
use Rattle.page.specs.Layouts.{roomy}
use Rattle.page.specs.Lengths.{page_in}
use Rattle.page.specs.Numbers.{bad_object}
use Rattle.page.specs.Pages.{page_at}
use Rattle.page.specs.Records.{record_of, record_at}
use Rattle.page.specs.Shelf.{shelf_geometry, word_bytes, tagged, erased, header_page, data_page, blank_page, shelf_pages, dump_of, shelf, shelf_kinds}
use Rattle.page.specs.Tags.{tags_of, tag_bytes, object_in, header_claim, data_claim, claim_of, claim_on}
use Rattle.page.specs.Words.{le32}
use Rattle.page.specs.declared.fields.Text.TheVariants.{Name}
use Rattle.page.specs.declared.kind.Kind.TheVariants.{Blank}
use Rattle.page.specs.declared.record.Record.{Record}
use Rattle.page.proofs.Marked as pages
use Rattle.sort.specs.Arranged.{ascend, arranged}
use Rattle.sort.specs.Lists.{keep, joined}
use Rattle.chunk.specs.Gather.{gather}
use Rattle.chunk.specs.Live.{passed, ids_of, live_ids}
use Rattle.chunk.specs.Newest.{newest_where}
use Rattle.text.specs.Decimal.{digits, decimal}
use Rattle.text.specs.Lines.{field_of, line_of}
use Rattle.text.specs.Quoted.{bytes_of}
use Rattle.tree.specs.Objects.{parent_of, stand_of}
use Rattle.tree.specs.Paths.{up_to_zero, children_of, step_to, entry_of, under, listed}
use Rattle.tree.specs.Tree.{path_lines, is_in, others, tree_text}

-- the name on page 4
name : text_in Name shelf_geometry shelf 4 ≡ erased 256
unfolding shelf shelf_pages dump_of header_page data_page blank_page tagged word_bytes text_in text_of kind_at page_in roomy page_at
    kind_of kind_by header_of bad_type type_differs claim_on claim_of header_claim data_claim object_in bad_object tags_of tag_bytes le32
name = refl

-- the text of the tree
abbrev pub expected : List ℕ
expected = bytes_of "object=257\npath=/" ++ erased 256 ++ bytes_of "\n"

-- it is so whatever the other names are
computed : (names : ℕ → List ℕ) → names 4 ≡ erased 256 → tree_text (λ i. record_of (get_or shelf_kinds i Blank)) names 8 ≡ expected
unfolding tree_text path_lines is_in others listed under entry_of step_to children_of joined keep up_to_zero parent_of stand_of live_ids ids_of passed arranged
    ascend gather newest_where line_of field_of decimal digits shelf_kinds
computed names e = rw e

-- and so on W
pub shelf_tree : tree_text (record_at shelf_geometry shelf) (text_in Name shelf_geometry shelf) 8 ≡ expected
shelf_tree =
    ap (λ (s : ℕ → Record). tree_text s (text_in Name shelf_geometry shelf) 8) pages.shelf_says ∙ computed (text_in Name shelf_geometry shelf) name
