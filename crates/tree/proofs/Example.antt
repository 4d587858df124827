-- A small tree, computed from the definitions, letter by letter: nine pages with a directory, a file in it that has an older header under another
-- name, two directories that are each other's parent, and one file each under no object, under a deleted directory and under a file. And 33
-- directories, each in the one before: 32 are listed, and the last is too deep.
use Prim.Native.Nat.{ℕ, zero, suc, ◌+◌}
use mathlib.Core.Bool.{false}
use mathlib.Core.List.{List, [], ◌∷◌, ◌++◌}
use mathlib.Core.Path.{◌≡◌, refl}
use lib.ListN.{length, get_or}
use Rattle.page.specs.Search.{first_from}
use Rattle.page.specs.declared.record.Record.{Record}
use Rattle.page.specs.declared.record.Record.TheVariants.{Other, Header}
use Rattle.sort.specs.Arranged.{ascend, arranged}
use Rattle.sort.specs.Lists.{keep, joined}
use Rattle.chunk.specs.Gather.{gather}
use Rattle.chunk.specs.Live.{passed, ids_of, live_ids}
use Rattle.chunk.specs.Newest.{newest_where}
use Rattle.text.specs.Decimal.{digits, decimal}
use Rattle.text.specs.Lines.{field_of, line_of}
use Rattle.text.specs.Quoted.{bytes_of}
use Rattle.tree.specs.Objects.{parent_of, stand_of}
use Rattle.tree.specs.Paths.{up_to_zero, children_of, step_to, entry_of, under, listed}
use Rattle.tree.specs.Tree.{path_lines, reason_lines, is_in, others, tree_text}
use Rattle.tree.specs.Ways.{any_below, up, met_at, stops_at, stop_of, reason_of}
use Rattle.tree.specs.declared.reason.Reason.TheVariants as reason

-- a header of an object: type 1 is a file, 3 a directory
abbrev header_of : (sequence object type parent : ℕ) → Record
header_of sequence o type parent = Header (record {
  sequence = sequence;
  object = record { 0 = o };
  page_type = type;
  parent = record { 0 = parent };
  size = 0;
  shrink = false;
})

-- the pages
unfoldable pub example_pages : List Record
example_pages =
    header_of 4097 300 3 1 ∷
    header_of 4097 257 1 1 ∷
    header_of 4098 257 1 300 ∷
    header_of 4098 258 3 259 ∷
    header_of 4098 259 3 258 ∷
    header_of 4098 260 1 999 ∷
    header_of 4098 261 3 4 ∷
    header_of 4098 262 1 261 ∷
    header_of 4098 263 1 257 ∷
    []

-- the name fields of the first three, of which the third has bytes behind its first zero byte
unfoldable pub example_names : List (List ℕ)
example_names = bytes_of "photos" ∷ bytes_of "old.jpg" ∷ (bytes_of "a.jpg" ++ (0 ∷ 120 ∷ [])) ∷ []

-- what page p says, and its name
abbrev pub example_says : ℕ → Record
example_says p = get_or example_pages p Other

abbrev pub example_name : ℕ → List ℕ
example_name p = get_or example_names p []

-- its live ids
example_live : live_ids example_says 9 ≡ 257 ∷ 258 ∷ 259 ∷ 260 ∷ 262 ∷ 263 ∷ 300 ∷ []
unfolding example_pages live_ids ids_of passed gather arranged ascend newest_where
example_live = refl

-- its text
pub example_tree :
    tree_text example_says example_name 9
    ≡ bytes_of "object=300\npath=/photos\nobject=257\npath=/photos/a.jpg\n"
    ++ bytes_of "object=258\nreason=loop\nobject=259\nreason=loop\nobject=260\nreason=missing\n"
    ++ bytes_of "object=262\nreason=deleted\nobject=263\nreason=non-directory\n"
unfolding example_pages example_names tree_text path_lines reason_lines is_in others listed under entry_of step_to children_of joined keep up_to_zero parent_of
    stand_of reason_of stop_of stops_at met_at up any_below first_from gather newest_where line_of field_of decimal digits
example_tree = rw example_live

-- page p is the header of directory 257 + p, whose parent is the one before, or the root
unfoldable pub nested_says : ℕ → Record
nested_says zero = header_of 4097 257 3 1
nested_says (suc p) = header_of 4097 (258 + p) 3 (257 + p)

-- how many of 33 are listed, and the other with its reason
pub nested_directories :
    (length (listed nested_says (λ p. []) 33) ≡ 32) × (others nested_says (λ p. []) 33 ≡ 289 ∷ []) × (reason_of nested_says 33 289 ≡ reason.TooDeep)
unfolding nested_says live_ids ids_of passed arranged ascend is_in others listed under entry_of children_of joined keep parent_of stand_of reason_of stop_of
    stops_at met_at up any_below first_from gather newest_where
nested_directories = (refl, refl, refl)
