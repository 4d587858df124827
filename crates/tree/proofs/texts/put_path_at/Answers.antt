-- A row past the end has no path.
use native.Mathlib.Omega.{arith}
use borrow.Author.Tests.{lt-ltb, le-ltb}
use Rattle.text.proofs.Putting.{nothing}
use Rattle.tree.specs.Rows.{path_at}
use Rattle.tree.proofs.texts.put_path_at.Goals as goal

pub returns-then-i-rows : goal.returns-then-i-rows
unfolding path_at
returns-then-i-rows c = rw (lt-ltb _ _ c.if-i-rows.true) c.put_path.ensures

pub returns : goal.returns
unfolding path_at
returns c = rw (le-ltb _ _ c.if-i-rows.false) (nothing _ _ (omega arith) (omega arith))
