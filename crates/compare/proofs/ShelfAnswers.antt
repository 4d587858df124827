-- The answers for W and for a report, computed from the definitions: the words that are asked for and the bytes that are needed.
use mathlib.Core.Path.{◌≡◌, refl}
use Rattle.page.specs.Search.{count}
use Rattle.page.specs.Shelf.{shelf_geometry, shelf, shelf_kinds}
use Rattle.page.specs.declared.refusal.Refusal.TheVariants.{ShortBuffer}
use Rattle.page.proofs.Marked as pages
use Rattle.text.specs.Written as written
use Rattle.compare.specs.Answers.{compared_by}
use Rattle.compare.specs.Prepared.{prepared_on}
use Rattle.compare.specs.Compared as compared
use Rattle.compare.specs.Preparing as prepared

-- W has 7 records: as many words of order and copies are enough, and twice as many to work in; one too few in each
pub shelf_room :
    (prepared_on shelf_geometry shelf 7 7 14 ≡ prepared.Records 7)
    × (prepared_on shelf_geometry shelf 6 7 14 ≡ prepared.Refused ShortBuffer 7)
    × (prepared_on shelf_geometry shelf 7 6 14 ≡ prepared.Refused ShortBuffer 7)
    × (prepared_on shelf_geometry shelf 7 7 13 ≡ prepared.Refused ShortBuffer 7)
unfolding prepared_on count shelf_kinds
shelf_room =
    let length = (pages.marked).shelf_length in
    let opened = (pages.marked).shelf_opened in
    (rw (length, opened, pages.shelf_says), rw (length, opened, pages.shelf_says), rw (length, opened, pages.shelf_says), rw (length, opened, pages.shelf_says))

-- a report that fits, and one that does not
pub report_answers : (compared_by (written.Bytes 90) ≡ compared.Written 90) × (compared_by (written.Short 90) ≡ compared.Refused ShortBuffer 90)
report_answers = (refl, refl)
