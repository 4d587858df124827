-- The row of a key among rows.
use Rattle.std.specs.Prelude.{ℕ, ◌<◌, List, ◌≡◌, length, get_or, Option, Some, None}
use Rattle.sort.specs.Packed.{key_of}

-- the place of a row with a key, or that no row has it
abbrev pub Finds : (key : ℕ) (rows : List ℕ) → Option ℕ → Type 0
Finds key L (Some i) = (i < length L) × (key_of (get_or L i 0) ≡ key)
Finds key L None = (i : ℕ) → i < length L → key_of (get_or L i 0) ≡ key → ⊥
