-- The loop's invariant: the whole run ends as the rest of it does from here on.
use Prim.Native.Nat.{◌-◌}
use mathlib.Core.Path.{◌≡◌}
use lib.ListN.{length}
use Rattle.page.specs.Records.{record_at}
use Rattle.chunk.specs.Records.{age_of}
use Rattle.index.specs.Chains.{objects}
use Rattle.index.specs.Runs.{taken_by, run_by}
use Rattle.index.proofs.runs.run_pages.Given as goal

abbrev pub invariant-loop-i : goal.invariant-loop-i
invariant-loop-i l =
    (length l.cells ≡ length l.initial.cells)
    × (run_by (taken_by l.takes (record_at l.g l.dump)) l.pages (objects (record_at l.g l.dump)) (age_of (record_at l.g l.dump)) (l.fn.to.0 - l.fn.from.0) l.fn.from.0 l.initial.cells
    ≡ run_by (taken_by l.takes (record_at l.g l.dump)) l.pages (objects (record_at l.g l.dump)) (age_of (record_at l.g l.dump)) (l.fn.to.0 - l.i) l.i l.cells)
