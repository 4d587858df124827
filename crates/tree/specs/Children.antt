-- The live objects other than the root as rows in order of their parents: a parent's id as the key, and as the value the place of the object's row
-- among those of the newest headers. So the entries of a directory stand side by side, ascending by id.
use Rattle.std.specs.Prelude.{ℕ, Bool, not, ◌&&◌, List, eqb, length}
use Rattle.page.specs.Records.{is_header}
use Rattle.page.specs.declared.record.Record.{Record}
use Rattle.sort.specs.Packed.{packed}
use Rattle.chunk.specs.Live.{ids_of}
use Rattle.chunk.specs.Records.{is_gone}
use Rattle.tree.specs.Heads.{object_at, said_at}
use Rattle.tree.specs.Objects.{root, parent_in}

-- over what each page says, and the rows of the newest headers
module _ (says : ℕ → Record) (heads : List ℕ) where
  -- whether it is live, and not the root; its row among the children
  unfoldable pub is_child : (place : ℕ) → Bool
  is_child j = not (eqb (object_at heads j) root) && (is_header (said_at says heads j) && not (is_gone (said_at says heads j)))

  unfoldable pub child_row : (place : ℕ) → ℕ
  child_row j = packed (parent_in (said_at says heads j)) j

  -- all of them in order
  unfoldable pub child_rows : List ℕ
  child_rows = ids_of is_child child_row (length heads)
