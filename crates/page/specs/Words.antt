-- Little-endian unsigned numbers in a list of bytes.
use Rattle.std.specs.Prelude.{ℕ, ◌+◌, ◌*◌, List, get_or}

-- the word whose bytes, least first, are a, b, c and d
abbrev pub word_of : (a b c d : ℕ) → ℕ
word_of a b c d = a + b * 256 + c * 65536 + d * 16777216

-- the word of the 4 bytes at `at`
unfoldable pub le32 : (bytes : List ℕ) (at : ℕ) → ℕ
le32 s at = word_of (get_or s at 0) (get_or s (at + 1) 0) (get_or s (at + 2) 0) (get_or s (at + 3) 0)

-- the 16-bit number of the 2 bytes at `at`
unfoldable pub le16 : (bytes : List ℕ) (at : ℕ) → ℕ
le16 s at = get_or s at 0 + get_or s (at + 1) 0 * 256

-- the 64-bit number of the 8 bytes at `at`
unfoldable pub le64 : (bytes : List ℕ) (at : ℕ) → ℕ
le64 s at = le32 s at + le32 s (at + 4) * 4294967296
