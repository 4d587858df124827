-- The loop's invariant: the count is that of the headers among the first i pages. One page more adds one exactly if it is a header.
use Prim.Native.Nat.{◌≤◌}
use mathlib.Core.Path.{◌≡◌}
use Rattle.page.specs.Search.{count}
use Rattle.tree.specs.Heads.{is_head}
use Rattle.tree.specs.Objects.{says_by}
use Rattle.tree.proofs.heads.count_heads.Given as goal

abbrev pub invariant-loop-i : goal.invariant-loop-i
invariant-loop-i l = (l.count ≤ l.i) × (l.count ≡ count (is_head (says_by l.g l.dump l.t)) l.i)
