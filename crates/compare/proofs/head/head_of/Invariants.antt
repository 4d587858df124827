-- The loop's invariant: what is found from the first record on is what is found from record i on, with the largest end so far. The first header ends
-- the search; data before it adds its end.
use mathlib.Core.Path.{◌≡◌}
use mathlib.Core.List.{map}
use lib.ListN.{drop}
use Rattle.page.specs.Records.{record_at}
use Rattle.sort.specs.Packed.{value_of}
use Rattle.compare.specs.Heads.{head_from}
use Rattle.compare.proofs.head.head_of.Given as goal

abbrev pub invariant-loop-i : goal.invariant-loop-i
invariant-loop-i l =
    head_from (record_at l.g l.dump) l.g.layout.«data» 0 (map value_of l.order)
    ≡ head_from (record_at l.g l.dump) l.g.layout.«data» l.end (map value_of (drop l.i l.order))
