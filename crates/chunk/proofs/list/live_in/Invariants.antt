-- The loop's invariant: the count of the live pages passed.
use Prim.Native.Nat.{◌≤◌}
use mathlib.Core.Path.{◌≡◌}
use Rattle.page.specs.Search.{count}
use Rattle.page.specs.Records.{record_at}
use Rattle.chunk.specs.Live.{live_page}
use Rattle.chunk.proofs.list.live_in.Given as goal

abbrev pub invariant-loop-i : goal.invariant-loop-i
invariant-loop-i l = (l.count ≤ l.i) × (l.count ≡ count (live_page (record_at l.g l.dump) l.pages) l.i)
