-- A text is written whole or not at all.
use Rattle.std.specs.Prelude.{ℕ, cond, List, ◌++◌, ltb, length, drop, Result, Ok, Err}
use Rattle.text.specs.Put.{counted}
use Rattle.text.specs.declared.written.Short.{Short}

-- what is answered for a text and so many lent bytes: its length, or that they are too few and how many it needs
unfoldable pub written_by : (room : ℕ) (text : List ℕ) → Result ℕ Short
written_by room text = cond (ltb room (length text)) (Err (record { needed = counted (length text) })) (Ok (length text))

-- what lent bytes hold then: the text in front and the rest as it was; where they are too few, what they held
unfoldable pub bytes_by : (text bytes : List ℕ) → List ℕ
bytes_by text bytes = cond (ltb (length bytes) (length text)) bytes (text ++ drop (length text) bytes)
