-- The root has its own code, and so has an object of which the search finds no row; where it finds one, the code is of its place and its header's
-- kind.
use Prim.Native.Nat.{◌<◌}
use mathlib.Core.Path.{◌≡◌}
use lib.ListN.{length, get_or}
use Rattle.sort.specs.Packed.{key_of}
use Rattle.tree.proofs.Climbing.{leads_none, leads_row}
use Rattle.tree.proofs.climb.code_of.Goals as goal
use Rattle.tree.proofs.climb.code_of.Goals.{In-Some}

found : (k : In-Some) → (k.in-Some.i < length k.args.heads.now) × (key_of (get_or k.args.heads.now k.in-Some.i 0) ≡ k.args.o)
found k = rw k.in-Some.is at k.find.ensures

pub returns-in-None : goal.returns-in-None
returns-in-None c n w = leads_none _ n _ w _ c.if-o-eq-ROOT.false (rw c.in-None.is at c.find.ensures)

pub returns-in-Some : goal.returns-in-Some
returns-in-Some c n w =
    rw (c.number.ensures, c.kind_of.ensures, c.seen_at.ensures, c.value_of.ensures)
    (leads_row _ n _ w.right _ _ c.if-o-eq-ROOT.false (found (goal.at.returns-in-Some c).In-Some).0 (found (goal.at.returns-in-Some c).In-Some).1)
