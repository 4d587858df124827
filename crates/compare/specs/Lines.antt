-- For the code alone: the lines of what differs, piece by piece, as they are put. Those of document 02 are in Report.
use Rattle.std.specs.Prelude.{ℕ, Bool, true, false, List, [], ◌++◌, map, Option}
use Rattle.page.specs.Choice.{pick}
use Rattle.page.specs.Records.{record_at}
use Rattle.page.specs.declared.geometry.Geometry.{Geometry}
use Rattle.sort.specs.Lists.{joined}
use Rattle.text.specs.Lines.{line_of}
use Rattle.text.specs.Quoted.{bytes_of}
use Rattle.compare.specs.Differences.{lacks, differ_in, fields_of, sizes_of, stretches_of, field, stretch, first, second}
use Rattle.compare.specs.Report.{lines_of, side_number}
use Rattle.compare.specs.Views.{byte_of, bytes_on, is_deleted}

-- the line of a field that begins there and has so many bytes, if it differs
unfoldable pub field_lines : (one other : List ℕ) (place length : ℕ) → List ℕ
field_lines a b p n = pick (differ_in (byte_of a) (byte_of b) p n) (line_of (bytes_of "field=") p) []

-- the line of what is so on one side only
abbrev pub side_lines : (key : List ℕ) (one other : Bool) → List ℕ
side_lines key true true = []
side_lines key true false = line_of key (side_number first)
side_lines key false true = line_of key (side_number second)
side_lines key false false = []

-- what differs between the newest headers of two dumps, on these pages
module _ (g : Geometry) (dump : List ℕ) (g' : Geometry) (dump' : List ℕ) where
  unfoldable pub header_lines : (one other : Option ℕ) → List ℕ
  header_lines p q =
      side_lines (bytes_of "deleted=") (is_deleted (record_at g dump) p) (is_deleted (record_at g' dump') q)
      ++ (side_lines (bytes_of "noheader=") (lacks p) (lacks q)
      ++ joined lines_of (map field (fields_of (bytes_on g dump p) (bytes_on g' dump' q))))

-- what differs between two files that show these bytes, of these sizes
unfoldable pub content_lines : (one other : ℕ → ℕ) → Option ℕ → Option ℕ → List ℕ
content_lines a b y z = joined lines_of (sizes_of y z) ++ joined lines_of (map stretch (stretches_of a b y z))
