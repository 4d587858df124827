-- How the finding of the layout reads less than every page under every candidate: in which order candidates are gone through, and when one is
-- left. No rule of the paper: the answer is that of Find, in whatever order and however early.
use Rattle.std.specs.Prelude.{ℕ, ◌+◌, ◌*◌, Bool, true, ◌≡◌, eqb, ltb, leb}
use Rattle.page.specs.Choice.{pick}
use Rattle.page.specs.Lengths.{whole_blocks, page_count}
use Rattle.page.specs.Find.{score_of, marked_of}
use Rattle.page.specs.declared.find.Gain.{Gain}
use Rattle.page.specs.declared.geometry.Geometry.{Geometry}
use Rattle.page.specs.declared.tags.Claim.{Claim}

-- the candidate of a turn, where the one that was guessed and the first of the table have changed places
unfoldable pub in_turn : (guess turn : ℕ) → ℕ
in_turn guess turn = pick (eqb turn 0) guess (pick (eqb turn guess) 0 turn)

-- the score that candidate n needs to lead before candidate `found`, which has the best so far: table order settles equal ones
unfoldable pub need_of : (candidate found best : ℕ) → ℕ
need_of n found best = pick (ltb n found) best (best + 1)

-- how many pages n bytes are in whole blocks; none where they are not whole blocks
unfoldable pub pages_under : Geometry → ℕ → ℕ
pages_under g n = pick (whole_blocks g n) (page_count g n) 0

-- what the block of k pages from `block` on adds to its candidate
pub record Gained (said : ℕ → Claim) (k block : ℕ) (g : Gain) : Type 0 where
  pub scored : score_of said k block + g.score ≡ score_of said k (block + k)
  pub counted : marked_of said block + g.marked ≡ marked_of said (block + k)

-- whether a candidate with so many pages left cannot reach the score that it needs any more, or cannot fit any more: each page that scores is
-- one more that is not blank
unfoldable pub is_lost : (score marked left need : ℕ) → Bool
is_lost score marked left need = pick (ltb (score + left) need) true (ltb (2 * score + left) marked)

-- a score of which at least so much is asked; 0 where it is less
unfoldable pub at_least : (need score : ℕ) → ℕ
at_least need score = pick (leb need score) score 0
