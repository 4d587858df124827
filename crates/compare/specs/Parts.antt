-- For the code alone: parts of a dump as they are compared, how many bytes differ, and what part shows the bytes of a stretch. What it means that a
-- stretch differs is in Differences.
use Rattle.std.specs.Prelude.{ℕ, ◌+◌, ◌≤◌, ◌<◌, ◌/◌, Bool, not, List, [], ◌∷◌, ◌≡◌, eqb, length}
use Rattle.page.specs.Choice.{pick}
use Rattle.page.specs.Search.{count}
use Rattle.compare.specs.Views.{byte_of}
use Rattle.compare.specs.Differences.{stretch, stretch_bytes}
use Rattle.compare.specs.Report.{lines_of}
use Rattle.compare.specs.Sides.{row_begin}

-- the bytes of a block, which are counted at a time
abbrev pub block : ℕ
block = 128

-- bytes that are all 0
abbrev pub zeros : (position : ℕ) → ℕ
zeros x = 0

-- how many of so many bytes from a position on differ
unfoldable pub differing : (one other : ℕ → ℕ) (from bytes : ℕ) → ℕ
differing a b from n = count (λ i. not (eqb (a (from + i)) (b (from + i)))) n

-- a part shows so many bytes from a position on, with zeros behind its end
pub record Shows (part : List ℕ) (bytes : ℕ → ℕ) (from count : ℕ) : Type 0 where
  pub short : length part ≤ count
  pub at : (i : ℕ) → i < count → byte_of part i ≡ bytes (from + i)

-- the stretch in which the first of these rows begins; the last where there is none
abbrev pub begins_in : (P last : ℕ) (rows : List ℕ) → ℕ
begins_in P last [] = last
begins_in P last (r ∷ rest) = row_begin P r / stretch_bytes

-- the line of stretch k, if it differs
abbrev pub line_if : (differs : Bool) (stretch : ℕ) → List ℕ
line_if b k = pick b (lines_of (stretch k)) []
