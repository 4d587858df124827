-- How one object of two dumps differs (document 02, item 1).
use Rattle.std.specs.Prelude.{ℕ, ◌+◌, ◌-◌, ◌*◌, ◌/◌, min, Bool, true, false, not, ◌&&◌, List, [], ◌∷◌, ◌++◌, map, eqb, ltb, Option, Some, None}
use Rattle.page.specs.Choice.{pick}
use Rattle.page.specs.Search.{count}
use Rattle.chunk.specs.Live.{passed}
use Rattle.compare.specs.Views.{View, byte_of}
use Rattle.compare.specs.Fields.{fields, place_of, length_of}

-- the first dump, or the second
pub data Side : Type 0 where
  first : Side
  second : Side

-- a difference: the object is only on one side; it is deleted, or has no header, on one side only; a field of the newest header differs, named by
-- its offset; the sizes differ; or a stretch of 512 bytes differs in shown bytes
pub data Difference : Type 0 where
  only : Side → Difference
  deleted : Side → Difference
  headless : Side → Difference
  field : (offset : ℕ) → Difference
  sizes : (one other : ℕ) → Difference
  stretch : (number : ℕ) → Difference

-- what is so on one side only
abbrev pub on_one : (Side → Difference) → (one other : Bool) → List Difference
on_one d true true = []
on_one d true false = d first ∷ []
on_one d false true = d second ∷ []
on_one d false false = []

abbrev pub lacks : {A : Type 0} → Option A → Bool
lacks None = true
lacks (Some x) = false

-- whether some of so many bytes from a position on differ
unfoldable pub differ_in : (one other : ℕ → ℕ) (from bytes : ℕ) → Bool
differ_in a b from n = ltb 0 (count (λ i. not (eqb (a (from + i)) (b (from + i)))) n)

-- the fields that differ, where both sides have a header
abbrev pub field_differs : (one other : List ℕ) (field : ℕ) → Bool
field_differs a b i = differ_in (byte_of a) (byte_of b) (place_of i) (length_of i)

unfoldable pub fields_of : Option (List ℕ) → Option (List ℕ) → List ℕ
fields_of (Some a) (Some b) = passed (field_differs a b) place_of fields
fields_of (Some a) None = []
fields_of None other = []

-- the sizes, where both sides are live files
abbrev pub sizes_of : Option ℕ → Option ℕ → List Difference
sizes_of (Some a) (Some b) = pick (eqb a b) [] (sizes a b ∷ [])
sizes_of (Some a) None = []
sizes_of None other = []

-- how many bytes a stretch has
abbrev pub stretch_bytes : ℕ
stretch_bytes = 512

-- how many stretches so many bytes have, the last cut off or not
abbrev pub stretches_in : (bytes : ℕ) → ℕ
stretches_in m = (m + (stretch_bytes - 1)) / stretch_bytes

-- whether stretch k, cut off at the size m, differs
abbrev pub stretch_differs : (one other : ℕ → ℕ) (size stretch : ℕ) → Bool
stretch_differs a b m k = differ_in a b (stretch_bytes * k) (min stretch_bytes (m - stretch_bytes * k))

-- the stretches that differ of bytes shown up to the smaller size, where both sides are live files
abbrev pub stretches_to : (one other : ℕ → ℕ) (size : ℕ) → List ℕ
stretches_to a b m = passed (stretch_differs a b m) (λ k. k) (stretches_in m)

unfoldable pub stretches_of : (one other : ℕ → ℕ) → Option ℕ → Option ℕ → List ℕ
stretches_of a b (Some y) (Some z) = stretches_to a b (min y z)
stretches_of a b (Some y) None = []
stretches_of a b None other = []

-- all that differs, in the order of the report; an object that only one side has does not differ in anything else
unfoldable pub differences_of : View → View → List Difference
differences_of v w =
    pick (v.has && w.has)
    (on_one deleted v.gone w.gone
    ++ on_one headless (lacks v.header) (lacks w.header)
    ++ map field (fields_of v.header w.header)
    ++ sizes_of v.size w.size
    ++ map stretch (stretches_of v.shows w.shows v.size w.size))
    (on_one only v.has w.has)
