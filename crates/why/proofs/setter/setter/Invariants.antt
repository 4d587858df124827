-- The loop's invariant: the newest page of those passed that sets the size. One whose tags name another object sets it only as the newest header.
use Prim.Native.Nat.{ℕ}
use mathlib.Core.Bool.{Bool}
use mathlib.Core.Path.{◌≡◌}
use Rattle.page.specs.Records.{record_at}
use Rattle.page.specs.declared.record.Record.{Record}
use Rattle.chunk.specs.Takes.{seen_by}
use Rattle.chunk.specs.Newest.{newest_where}
use Rattle.chunk.specs.Scans.{newest_in}
use Rattle.why.specs.Reasons.{sets_by}
use Rattle.why.proofs.setter.setter.Given as goal

-- whether page p sets the size: what is searched
abbrev pub sets : (says : ℕ → Record) (P o h age size : ℕ) → ℕ → Bool
sets says P o h age size p = sets_by P o h age size p (says p)

abbrev pub invariant-loop-i : goal.invariant-loop-i
invariant-loop-i l =
    let says = seen_by l.t (record_at l.g l.dump) in
    l.best ≡ newest_in says (newest_where says (sets says l.g.layout.«data» l.o.0 l.h.0 l.age l.size) l.i)
