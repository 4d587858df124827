-- The answers for W's tree, computed from the definitions, and each reason as a number and in words.
use mathlib.Core.List.{List, [], ◌∷◌, map}
use mathlib.Core.Path.{◌≡◌, refl}
use Rattle.page.specs.Search.{count}
use Rattle.page.specs.Shelf.{shelf_geometry, shelf, shelf_kinds}
use Rattle.page.specs.declared.refusal.Refusal.TheVariants.{BadPage, ShortBuffer}
use Rattle.page.proofs.Marked as pages
use Rattle.chunk.specs.declared.moment.Moment.TheVariants.{Now, Before}
use Rattle.text.specs.Quoted.{bytes_of}
use Rattle.text.specs.Written as written
use Rattle.tree.specs.Answers.{tree_on}
use Rattle.tree.specs.Rows.{number_of, reason_at}
use Rattle.tree.specs.Texts.{texted_by}
use Rattle.tree.specs.Tree.{words_of}
use Rattle.tree.specs.declared.reason.Reason.{Reason}
use Rattle.tree.specs.declared.reason.Reason.TheVariants.{TooDeep, Loop, Missing, Deleted, NonDirectory}
use Rattle.tree.specs.Texted as texted
use Rattle.tree.specs.Grown as grown

-- the reasons by number
abbrev reasons : List Reason
reasons = TooDeep ∷ Loop ∷ Missing ∷ Deleted ∷ NonDirectory ∷ []

pub reason_numbers : (map number_of reasons ≡ 1 ∷ 2 ∷ 3 ∷ 4 ∷ 5 ∷ []) × (map reason_at (1 ∷ 2 ∷ 3 ∷ 4 ∷ 5 ∷ []) ≡ reasons)
unfolding reason_at
reason_numbers = (refl, refl)

pub reason_words :
    map words_of reasons ≡ bytes_of "too deep" ∷ bytes_of "loop" ∷ bytes_of "missing" ∷ bytes_of "deleted" ∷ bytes_of "non-directory" ∷ []
reason_words = refl

-- a page that W lacks; and of the 3 words that its headers need, one too few in each slice
pub shelf_refusals :
    (tree_on shelf_geometry shelf (Before (record { 0 = 8 })) 0 0 0 ≡ grown.Refused BadPage 0)
    × (tree_on shelf_geometry shelf Now 2 3 3 ≡ grown.Refused ShortBuffer 3)
    × (tree_on shelf_geometry shelf Now 3 2 3 ≡ grown.Refused ShortBuffer 3)
    × (tree_on shelf_geometry shelf Now 3 3 2 ≡ grown.Refused ShortBuffer 3)
unfolding tree_on count shelf_kinds
shelf_refusals =
    let length = (pages.marked).shelf_length in
    let opened = (pages.marked).shelf_opened in
    (rw (length, opened), rw (length, opened, pages.shelf_says), rw (length, opened, pages.shelf_says), rw (length, opened, pages.shelf_says))

-- a text that fits, and one that does not
pub text_answers : (texted_by (written.Bytes 27) ≡ texted.Written 27) × (texted_by (written.Short 27) ≡ texted.Refused ShortBuffer 27)
text_answers = (refl, refl)
