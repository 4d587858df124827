-- Words that ascend, and where a number stands among them.
use Rattle.std.specs.Prelude.{ℕ, ◌≤◌, ◌<◌, List, length, get_or}

-- no word is below one before it
pub record Sorted (L : List ℕ) : Type 0 where
  pub rise : (i j : ℕ) → i ≤ j → j < length L → get_or L i 0 ≤ get_or L j 0

-- the first r words are below x, and the others are not
pub record Parted (x : ℕ) (L : List ℕ) (r : ℕ) : Type 0 where
  pub inside : r ≤ length L
  pub low : (i : ℕ) → i < r → get_or L i 0 < x
  pub high : (i : ℕ) → r ≤ i → i < length L → x ≤ get_or L i 0
