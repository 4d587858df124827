-- Which copies a file shows, at a place in a walk down its chain from the newest record on.
use Rattle.std.specs.Prelude.{ℕ, Bool, not, ◌||◌, eqb, ltb, Option}
use Rattle.chunk.specs.Records.{base_of}
use Rattle.chunk.specs.Cuts.{hides}

-- whether a copy of chunk c is met, of a file of so many chunks and with P data bytes to a page: the file has the chunk, and the lowest cut of newer
-- headers does not hide it
abbrev pub is_met : (P chunks : ℕ) → Option ℕ → (chunk : ℕ) → Bool
is_met P chunks cut c = not (eqb c 0 || ltb chunks c || hides cut (base_of P c))
