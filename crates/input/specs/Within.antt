-- What is known of an input that was read.
use Rattle.std.specs.Counts.{IsPrefixLen}
use Rattle.std.specs.Prelude.{ℕ, ◌<◌, List, Option, Result, IfOk, length, take}
use Rattle.std.specs.Io.KnownBytes.{Consumes, IsAtEnd}

-- it stands at the start of the bytes that were lent
abbrev pub Within : {E : Type 0} → (bytes : List ℕ) → Result ℕ E → Type 0
Within bytes result = IfOk result (λ n. IsPrefixLen n bytes)

-- the reader had it first and lost it, and had no more unless it fills the bytes that were lent; this says nothing where a reader's bytes are not known
abbrev pub TakesWhole : {E : Type 0} → (old new : Option (List ℕ)) (bytes : List ℕ) → Result ℕ E → Type 0
TakesWhole old new bytes result = IfOk result (λ n. Consumes old new (take n bytes) × (n < length bytes → IsAtEnd new))
