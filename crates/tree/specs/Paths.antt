-- The first list of the tree (document 02, item 13): the live objects as paths from the root, each directory's entries right after its own lines.
use Rattle.std.specs.Prelude.{ℕ, zero, suc, not, ◌&&◌, List, [], ◌∷◌, ◌++◌, eqb}
use Rattle.page.specs.Choice.{pick}
use Rattle.page.specs.declared.record.Record.{Record}
use Rattle.sort.specs.Lists.{keep, joined}
use Rattle.chunk.specs.Live.{live_ids}
use Rattle.tree.specs.Objects.{root, head_of, given, parent_of, stand_of, is_standing}

-- how many steps below the root the list goes
abbrev pub most_depth : ℕ
most_depth = 32

-- the byte before each name of a path
abbrev pub slash : ℕ
slash = 47

-- a name's bytes up to the first zero byte
unfoldable pub up_to_zero : List ℕ → List ℕ
up_to_zero [] = []
up_to_zero (x ∷ rest) = let more = up_to_zero rest in pick (eqb x 0) [] (x ∷ more)

-- an entry of the first list
pub record Entry : Type 0 where
  pub object : ℕ
  pub path : List ℕ

-- a dump of n pages, whose header pages have these names
module _ (says : ℕ → Record) (names : ℕ → List ℕ) (n : ℕ) where
  -- the live objects under a directory, ascending by id, never the root
  unfoldable pub children_of : (object : ℕ) → List ℕ
  children_of d = keep (λ o. not (eqb o root) && eqb (parent_of says n o) d) (live_ids says n)

  -- the step down to an object: a slash and the bytes of its name
  unfoldable pub step_to : (object : ℕ) → List ℕ
  step_to o = slash ∷ given [] (λ h. up_to_zero (names h)) (head_of says n o)

  -- an object in a directory of a path, and right after it, if it is a directory itself, what is below
  unfoldable pub entry_of : (below : (path : List ℕ) (object : ℕ) → List Entry) (path : List ℕ) (object : ℕ) → List Entry
  entry_of below path o =
      let here = path ++ step_to o in
      record { object = o; path = here } ∷ pick (is_standing (stand_of says n o)) (below here o) []

  -- the entries of a directory of a path, so many steps deep
  unfoldable pub under : (depth : ℕ) (path : List ℕ) (object : ℕ) → List Entry
  under zero path d = []
  under (suc k) path d = joined (entry_of (under k) path) (children_of d)

  -- the first list
  unfoldable pub listed : List Entry
  listed = under most_depth [] root
