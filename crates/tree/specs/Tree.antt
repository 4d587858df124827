-- Both lists of the tree as a text (document 02, item 13).
use Rattle.std.specs.Prelude.{ℕ, Bool, not, ◌&&◌, ◌||◌, false, List, [], ◌∷◌, ◌++◌, eqb}
use Rattle.page.specs.declared.record.Record.{Record}
use Rattle.sort.specs.Lists.{keep, joined}
use Rattle.chunk.specs.Live.{live_ids}
use Rattle.text.specs.Quoted.{bytes_of}
use Rattle.text.specs.Lines.{line_of, newline}
use Rattle.tree.specs.Objects.{root}
use Rattle.tree.specs.Paths.{Entry, listed}
use Rattle.tree.specs.Ways.{reason_of}
use Rattle.tree.specs.declared.reason.Reason.{Reason}
use Rattle.tree.specs.declared.reason.Reason.TheVariants as reason

-- a reason in document 02's words
abbrev pub words_of : Reason → List ℕ
words_of reason.TooDeep = bytes_of "too deep"
words_of reason.Loop = bytes_of "loop"
words_of reason.Missing = bytes_of "missing"
words_of reason.Deleted = bytes_of "deleted"
words_of reason.NonDirectory = bytes_of "non-directory"

-- the two lines of an entry of the first list: its object and its path
unfoldable pub path_lines : (object : ℕ) (path : List ℕ) → List ℕ
path_lines o path = line_of (bytes_of "object=") o ++ bytes_of "path=" ++ path ++ (newline ∷ [])

-- the two lines of an object of the second list: its id and its reason
unfoldable pub reason_lines : (object : ℕ) → Reason → List ℕ
reason_lines o r = line_of (bytes_of "object=") o ++ bytes_of "reason=" ++ words_of r ++ (newline ∷ [])

-- whether an object is in a list of entries
unfoldable pub is_in : (object : ℕ) (entries : List Entry) → Bool
is_in o [] = false
is_in o (e ∷ rest) = eqb e.object o || is_in o rest

-- a dump of n pages, whose header pages have these names
module _ (says : ℕ → Record) (names : ℕ → List ℕ) (n : ℕ) where
  -- the second list: the live objects other than the root that are not in the first, ascending by id
  unfoldable pub others : List ℕ
  others = keep (λ o. not (eqb o root) && not (is_in o (listed says names n))) (live_ids says n)

  -- the text of both lists
  unfoldable pub tree_text : List ℕ
  tree_text = joined (λ e. path_lines e.object e.path) (listed says names n) ++ joined (λ o. reason_lines o (reason_of says n o)) others
