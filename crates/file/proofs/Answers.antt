-- The answers of tables and copies, computed from the definitions: of a file of which two copies are met and a lookup is refused, and of a list of records.
use Prim.Native.Nat.{ℕ, ◌≤◌}
use mathlib.Core.Bool.{true, false}
use mathlib.Core.List.{List, [], ◌∷◌}
use mathlib.Core.Path.{◌≡◌, refl}
use lib.Dec.{eqb}
use lib.ListN.{length}
use borrow.Author.Tests.{le-leb}
use Rattle.page.specs.Choice.{pick}
use Rattle.page.specs.Numbers.{page_values}
use Rattle.page.specs.Shelf.{shelf_geometry, shelf}
use Rattle.page.specs.declared.refusal.Refusal.TheVariants.{BadPage, IndexDamaged, ShortBuffer}
use Rattle.page.proofs.Marked as pages
use Rattle.chunk.specs.Looked.{Looked}
use Rattle.chunk.specs.Looked as looked
use Rattle.chunk.specs.Sized as sized
use Rattle.file.specs.Along.{along_on}
use Rattle.file.specs.Copies.{copies_to, any_refused, copied_by}
use Rattle.file.specs.Table.{chunks_in, table_by}
use Rattle.file.specs.Laid as along
use Rattle.file.specs.Copied as copied
use Rattle.file.specs.Tabled as tabled

-- chunk 1 is on page 5, and the lookup of every other chunk meets a damaged link
abbrev look : (chunk : ℕ) → Looked
look c = pick (eqb c 1) (looked.Copy (record { 0 = 5 }) 300 512 3) (looked.Refused IndexDamaged 3 0)

-- a file of two chunks, of which two copies are met: one word too few, and enough; and one of a chunk
pub copies_answers :
    (copied_by look (λ z. 2) 512 3 (sized.Size 600 3) ≡ copied.Refused ShortBuffer 4)
    × (copied_by look (λ z. 2) 512 4 (sized.Size 600 3) ≡ copied.Rows 600 1 true)
    × (copied_by look (λ z. 2) 512 4 (sized.Size 512 3) ≡ copied.Rows 512 1 false)
unfolding copied_by copies_to any_refused chunks_in
copies_answers = (refl, refl, refl)

-- its table: one word too few, and enough
pub table_answers : (table_by 512 3 (sized.Size 600 3) ≡ tabled.Refused ShortBuffer 4) × (table_by 512 4 (sized.Size 600 3) ≡ tabled.Rows 600 2)
unfolding table_by chunks_in
table_answers = (refl, refl)

-- W by a list of more records than there are numbers of pages, and by one record in one word
pub long_list : (list : List ℕ) (size words : ℕ) → page_values ≤ length list → along_on shelf_geometry shelf list size words ≡ along.Refused BadPage 0
unfolding along_on
long_list list size words e = rw ((pages.marked).shelf_length, (pages.marked).shelf_opened, le-leb _ _ e)

pub short_list : along_on shelf_geometry shelf (5 ∷ []) 300 1 ≡ along.Refused ShortBuffer 2
unfolding along_on
short_list = rw ((pages.marked).shelf_length, (pages.marked).shelf_opened)
