-- A text that is put into lent bytes at a position: what they hold afterwards, and the position behind it.
use Rattle.std.specs.Prelude.{ℕ, ◌+◌, ◌<◌, min, List, ◌≡◌, length}
use Rattle.std.proofs.lemmas.List.Edits.{sets}

-- the largest position
abbrev pub most : ℕ
most = 18446744073709551615

-- a position, as far as positions count
unfoldable pub counted : ℕ → ℕ
counted n = min n most

-- bytes with a text from a position on; what would lie past their end is left out
unfoldable pub over : (bytes : List ℕ) (at : ℕ) (text : List ℕ) → List ℕ
over bytes at text = sets bytes at text

-- a text was put at a position; no lent bytes reach the largest position
pub record Put (text before : List ℕ) (at : ℕ) (after : List ℕ) (next : ℕ) : Type 0 where
  pub short : length before < most
  pub holds : after ≡ over before at text
  pub behind : next ≡ counted (at + length text)
