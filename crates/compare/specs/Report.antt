-- The report of what differs between two dumps, as lines (document 02, item 1).
use Rattle.std.specs.Prelude.{ℕ, List, [], ◌∷◌, ◌++◌, eqb}
use Rattle.page.specs.Records.{record_at}
use Rattle.page.specs.declared.geometry.Geometry.{Geometry}
use Rattle.sort.specs.Arranged.{arranged, times_in}
use Rattle.sort.specs.Lists.{keep, joined}
use Rattle.chunk.specs.Live.{object_ids}
use Rattle.text.specs.Lines.{line_of}
use Rattle.text.specs.Quoted.{bytes_of}
use Rattle.compare.specs.Views.{View, view_of}
use Rattle.compare.specs.Differences.{Side, first, second, Difference, only, deleted, headless, field, sizes, stretch, differences_of}

-- the number of a side
abbrev pub side_number : Side → ℕ
side_number first = 1
side_number second = 2

-- the lines of a difference
unfoldable pub lines_of : Difference → List ℕ
lines_of (only s) = line_of (bytes_of "only=") (side_number s)
lines_of (deleted s) = line_of (bytes_of "deleted=") (side_number s)
lines_of (headless s) = line_of (bytes_of "noheader=") (side_number s)
lines_of (field at) = line_of (bytes_of "field=") at
lines_of (sizes a b) = line_of (bytes_of "size=") a ++ line_of (bytes_of "size=") b
lines_of (stretch k) = line_of (bytes_of "stretch=") k

-- the lines of object o: none where nothing differs
unfoldable pub object_lines : (object : ℕ) → List Difference → List ℕ
object_lines o [] = []
object_lines o (d ∷ rest) = line_of (bytes_of "object=") o ++ joined lines_of (d ∷ rest)

-- the report of object o, by how both dumps show it
abbrev pub report_of : (object : ℕ) → View → View → List ℕ
report_of o v w = object_lines o (differences_of v w)

-- the ids of a second list that a first does not have
unfoldable pub others : (ids more : List ℕ) → List ℕ
others ids more = keep (λ x. eqb (times_in x ids) 0) more

-- the ids in either of two lists, ascending
unfoldable pub in_either : (one other : List ℕ) → List ℕ
in_either one other = arranged (one ++ others one other)

-- two dumps, of so many pages each
module _ (g : Geometry) (dump : List ℕ) (n : ℕ) (g' : Geometry) (dump' : List ℕ) (n' : ℕ) where
  -- the ids in either
  unfoldable pub ids_in : List ℕ
  ids_in = in_either (object_ids (record_at g dump) n) (object_ids (record_at g' dump') n')

  -- the report of one of them
  unfoldable pub object_report : (object : ℕ) → List ℕ
  object_report o = report_of o (view_of g dump n o) (view_of g' dump' n' o)

  -- the whole report
  unfoldable pub whole_report : List ℕ
  whole_report = joined object_report ids_in
