-- Texts as they are quoted, so that a definition can show what is printed.
use Rattle.std.specs.Prelude.{ℕ, List, [] as none, ◌∷◌ as ◌then◌}
use Prim.Native.Char.{code}
use Prim.Native.String.{String, [], ◌∷◌}

-- the bytes of a text in ASCII
abbrev pub bytes_of : String → List ℕ
bytes_of [] = none
bytes_of (c ∷ rest) = code c then bytes_of rest
