-- The rows of both lists, a word each (document 02, item 13): those of the first in its order and then those of the second. A row has the page of its
-- object's newest header, and as its key: in the first list the number of its directory's row, counted from 1, or 0 for an entry of the root; in the
-- second the number of its reason. So a text is made of rows alone, and each path without those before it.
use Rattle.std.specs.Prelude.{ℕ, zero, suc, ◌+◌, ◌-◌, min, List, [], ◌∷◌, ◌++◌, map, eqb, ltb, length, get_or}
use Rattle.page.specs.Choice.{pick}
use Rattle.page.specs.Records.{record_at}
use Rattle.page.specs.declared.geometry.Geometry.{Geometry}
use Rattle.page.specs.declared.record.Record.{Record}
use Rattle.sort.specs.Packed.{packed, key_of, value_of}
use Rattle.chunk.specs.Records.{object_of}
use Rattle.tree.specs.Objects.{root, page_of, stand_of, is_standing, names_of}
use Rattle.tree.specs.Paths.{most_depth, slash, up_to_zero, children_of}
use Rattle.tree.specs.Tree.{path_lines, reason_lines, others}
use Rattle.tree.specs.Ways.{reason_of}
use Rattle.tree.specs.declared.reason.Reason.{Reason}
use Rattle.tree.specs.declared.reason.Reason.TheVariants as reason

-- the largest key
abbrev pub most_key : ℕ
most_key = 0xFFFFFFFF

-- the key of the entries of a directory whose row stands at a position
abbrev pub key_behind : (at : ℕ) → ℕ
key_behind at = min (at + 1) most_key

-- the number of a reason, and the reason of a number
abbrev pub number_of : Reason → ℕ
number_of reason.TooDeep = 1
number_of reason.Loop = 2
number_of reason.Missing = 3
number_of reason.Deleted = 4
number_of reason.NonDirectory = 5

unfoldable pub reason_at : (number : ℕ) → Reason
reason_at n =
    pick (eqb n 1) reason.TooDeep
    (pick (eqb n 2) reason.Loop
    (pick (eqb n 3) reason.Missing
    (pick (eqb n 4) reason.Deleted
    reason.NonDirectory)))

-- what each of a list gives at the position where it comes to stand, one behind the other
unfoldable pub each_at : (f : (at x : ℕ) → List ℕ) (at : ℕ) → List ℕ → List ℕ
each_at f at [] = []
each_at f at (x ∷ rest) = let here = f at x in here ++ each_at f (at + length here) rest

-- a dump of n pages
module _ (says : ℕ → Record) (names : ℕ → List ℕ) (n : ℕ) where
  -- the row of an object at a position, and right after it, if it is a directory, the rows below
  unfoldable pub rows_at : (below : (key object at : ℕ) → List ℕ) (key at object : ℕ) → List ℕ
  rows_at below key at o = packed key (page_of says n o) ∷ pick (is_standing (stand_of says n o)) (below (key_behind at) o (at + 1)) []

  -- the rows of the entries of a directory from a position on, so many steps deep
  unfoldable pub rows_under : (depth key object at : ℕ) → List ℕ
  rows_under zero key d at = []
  rows_under (suc k) key d at = each_at (rows_at (rows_under k) key) at (children_of says names n d)

  -- those of an object at a position: its own, and what is below it so many steps deep
  abbrev pub entry_rows : (depth key at object : ℕ) → List ℕ
  entry_rows k = rows_at (rows_under k)

  -- those of the first list, those of the second, and all
  unfoldable pub listed_rows : List ℕ
  listed_rows = rows_under most_depth 0 root 0

  unfoldable pub other_rows : List ℕ
  other_rows = map (λ o. packed (number_of (reason_of says n o)) (page_of says n o)) (others says names n)

  unfoldable pub tree_rows : List ℕ
  tree_rows = listed_rows ++ other_rows

-- what any rows tell of a dump
module _ (g : Geometry) (dump : List ℕ) where
  -- the name on a page, up to its first zero byte; none where the page is no header
  unfoldable pub name_on : (page : ℕ) → List ℕ
  name_on p = up_to_zero (names_of g dump p)

  -- the object of a row's page; 0 where that is no record
  abbrev pub object_in : (row : ℕ) → ℕ
  object_in row = object_of (record_at g dump (value_of row))

  module _ (rows : List ℕ) where
    -- the path of row i, of at most so many steps: that of its directory's row, and its own name behind a slash
    unfoldable pub path_in : (steps row : ℕ) → List ℕ
    path_in zero i = []
    path_in (suc k) i =
        let row = get_or rows i 0 in
        let before = path_in k (key_of row - 1) in
        pick (eqb (key_of row) 0) [] before ++ (slash ∷ name_on (value_of row))

    -- the path of row i; no path where there is no such row
    unfoldable pub path_at : (row : ℕ) → List ℕ
    path_at i = pick (ltb i (length rows)) (path_in most_depth i) []

    -- the two lines of row i, of which so many are of the first list
    unfoldable pub row_lines : (listed row : ℕ) → List ℕ
    row_lines m i =
        let row = get_or rows i 0 in
        pick (ltb i m) (path_lines (object_in row) (path_in most_depth i)) (reason_lines (object_in row) (reason_at (key_of row)))

    -- those of the first k rows
    unfoldable pub lines_to : (listed rows : ℕ) → List ℕ
    lines_to m zero = []
    lines_to m (suc k) = lines_to m k ++ row_lines m k

    -- the text of all rows
    abbrev pub rows_text : (listed : ℕ) → List ℕ
    rows_text m = lines_to m (length rows)
