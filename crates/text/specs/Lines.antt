-- Lines of keys and numbers.
use Rattle.std.specs.Prelude.{ℕ, List, [], ◌∷◌, ◌++◌}
use Rattle.text.specs.Decimal.{decimal}

-- the byte that ends a line
abbrev pub newline : ℕ
newline = 10

-- a key and a number
unfoldable pub field_of : (key : List ℕ) (n : ℕ) → List ℕ
field_of key n = key ++ decimal n

-- a line of a key and a number
unfoldable pub line_of : (key : List ℕ) (n : ℕ) → List ℕ
line_of key n = field_of key n ++ (newline ∷ [])
