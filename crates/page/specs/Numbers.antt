-- Object ids and chunk numbers: the limits of document 01's page rules and refusal table; and what numbers count.
use Rattle.std.specs.Prelude.{ℕ, ◌-◌, Bool, ◌||◌, eqb, ltb}

-- the largest object id
abbrev pub most_object : ℕ
most_object = 0x0FFFFFFF

-- the largest chunk number
abbrev pub most_chunk : ℕ
most_chunk = 0xFFFFF

-- how many page numbers there are at most: no dump has so many pages
abbrev pub page_values : ℕ
page_values = 0x200000

-- an id that no object has: 0, or above the largest
unfoldable pub bad_object : ℕ → Bool
bad_object id = eqb id 0 || ltb most_object id

-- a number that no chunk has: 0, or above the largest
unfoldable pub bad_chunk : ℕ → Bool
bad_chunk n = eqb n 0 || ltb most_chunk n

-- how many chunks stand before chunk n: those from 1 to n - 1
abbrev pub chunks_before : (chunk : ℕ) → ℕ
chunks_before n = n - 1

-- how many pages stand before page p: those from 0 to p - 1
abbrev pub pages_before : (page : ℕ) → ℕ
pages_before p = p
