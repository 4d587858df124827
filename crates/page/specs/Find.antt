-- Finding the layout (document 01, "Finding the layout"), over what the tags of each page alone say.
use Rattle.std.specs.Prelude.{ℕ, zero, suc, ◌+◌, ◌*◌, ◌/◌, max, Bool, true, false, not, ◌&&◌, List, length, eqb, leb, Result, Ok, Err}
use Rattle.page.specs.declared.layout.Layout.{Layout}
use Rattle.page.specs.declared.refusal.Refusal.{Refusal}
use Rattle.page.specs.Choice.{pick}
use Rattle.page.specs.Search.{first_from, count}
use Rattle.page.specs.Layouts.{layouts, layout_at}
use Rattle.page.specs.Lengths.{geometry_of, block_fits, length_fits, whole_blocks, page_count, opened_of}
use Rattle.page.specs.Tags.{claim_at}
use Rattle.page.specs.declared.geometry.Geometry.{Geometry}
use Rattle.page.specs.declared.refusal.Refusal.TheVariants.{BadLayout, BadLength, NoLayout}
use Rattle.page.specs.declared.tags.Claim.{Claim}
use Rattle.page.specs.declared.tags.Claim.TheVariants.{Blank, Foreign, Damaged, Header, Data}

-- a page is good if it is neither Blank nor Foreign and no Damaged test that reads tags alone catches it
abbrev pub is_good : Claim → Bool
is_good Blank = false
is_good Foreign = false
is_good Damaged = false
is_good (Header s o) = true
is_good (Data d) = true

-- the sequence of a good page
abbrev pub sequence_of : Claim → ℕ
sequence_of Blank = 0
sequence_of Foreign = 0
sequence_of Damaged = 0
sequence_of (Header s o) = s
sequence_of (Data d) = d.sequence

-- a page that is not blank
abbrev pub is_marked : Claim → Bool
is_marked Blank = false
is_marked Foreign = true
is_marked Damaged = true
is_marked (Header s o) = true
is_marked (Data d) = true

-- a good page bearing this sequence
unfoldable pub bears_sequence : ℕ → Claim → Bool
bears_sequence sequence c = is_good c && eqb (sequence_of c) sequence

-- the sequence of the first good page of the n pages from i, where that search ends; 0 where none is good
unfoldable pub first_sequence : (said : ℕ → Claim) (from count : ℕ) → ℕ
first_sequence said i zero = 0
first_sequence said i (suc n) = pick (is_good (said i)) (sequence_of (said i)) (first_sequence said (i + 1) n)

-- the sequence of the block of k pages that page i lies in
unfoldable pub block_sequence : (said : ℕ → Claim) (k page : ℕ) → ℕ
block_sequence said k i = first_sequence said (i / k * k) k

-- whether page i is good and bears its block's sequence
unfoldable pub is_scored : (said : ℕ → Claim) (k page : ℕ) → Bool
is_scored said k i = bears_sequence (block_sequence said k i) (said i)

-- the score of n pages: the number of good pages bearing their block's sequence
abbrev pub score_of : (said : ℕ → Claim) (k pages : ℕ) → ℕ
score_of said k n = count (is_scored said k) n

-- whether page i is not blank
abbrev pub marked_at : (ℕ → Claim) → ℕ → Bool
marked_at said i = is_marked (said i)

-- the number of pages that are not blank
abbrev pub marked_of : (ℕ → Claim) → ℕ → ℕ
marked_of said n = count (marked_at said) n

-- a candidate fits if the score is at least 1 and twice the score is at least the number of pages that are not blank
unfoldable pub score_fits : (score marked : ℕ) → Bool
score_fits score marked = leb 1 score && leb marked (2 * score)

-- the score of a candidate's n pages where it fits; 0 where it does not
unfoldable pub fitting_score : (said : ℕ → Claim) (k pages : ℕ) → ℕ
fitting_score said k n = pick (score_fits (score_of said k n) (marked_of said n)) (score_of said k n) 0

-- the same for a dump of so many pages, or none
unfoldable pub score_in : Result ℕ Refusal → (ℕ → Claim) → ℕ → ℕ
score_in (Err r) said k = 0
score_in (Ok n) said k = fitting_score said k n

-- the score of a dump that is read so; 0 where it is refused
unfoldable pub score_under : List ℕ → Geometry → ℕ
score_under dump g = score_in (opened_of g (length dump)) (claim_at g dump) g.block

-- the candidate with the number c in the table, in blocks of k pages
abbrev pub candidate_at : (k candidate : ℕ) → Geometry
candidate_at k c = geometry_of (layout_at c) k

-- the same for the candidate with the number c in the table; 0 too where it does not divide the dump into whole blocks
unfoldable pub candidate_score : (dump : List ℕ) (k candidate : ℕ) → ℕ
candidate_score dump k c =
    pick (whole_blocks (candidate_at k c) (length dump))
    (fitting_score (claim_at (candidate_at k c) dump) k (page_count (candidate_at k c) (length dump)))
    0

-- the highest of the first n scores
unfoldable pub highest : (ℕ → ℕ) → ℕ → ℕ
highest score zero = 0
highest score (suc n) = max (highest score n) (score n)

-- the first number in the table whose score is the highest
unfoldable pub winner : (ℕ → ℕ) → ℕ
winner score = first_from (λ c. eqb (score c) (highest score layouts)) 0 layouts

-- the highest score wins, then table order; NoLayout where no candidate fits
unfoldable pub winner_of : (ℕ → ℕ) → Result Layout Refusal
winner_of score = pick (eqb (highest score layouts) 0) (Err NoLayout) (Ok (layout_at (winner score)))

-- the layout of a dump in blocks of k pages; a length that no candidate divides is NoLayout
unfoldable pub find_of : (dump : List ℕ) (k : ℕ) → Result Layout Refusal
find_of dump k =
    pick (not (block_fits k)) (Err BadLayout)
    (pick (not (length_fits (length dump))) (Err BadLength)
    (winner_of (candidate_score dump k)))
