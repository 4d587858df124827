-- The loop's invariant: the rows of the records passed are laid over the ages, and their second words over the lowest cuts, so that those from the next
-- record on are as they were. These are all that `standing_at` asks for.
use mathlib.Core.Path.{◌≡◌}
use lib.ListN.{length}
use Rattle.page.specs.Records.{record_at}
use Rattle.chunk.specs.Takes.{seen_by}
use Rattle.chunk.proofs.Laying.{laid}
use Rattle.records.specs.Lows.{lows_of}
use Rattle.records.specs.Rows.{standing_rows, standing_details}
use Rattle.records.specs.Written.{written}
use Rattle.records.proofs.stands.put_standings.Given as goal

abbrev pub invariant-loop-i : goal.invariant-loop-i
invariant-loop-i l =
    let says = seen_by l.t (record_at l.g l.dump) in
    let P = l.g.layout.«data» in
    let ages = written says l.o.0 l.pages in
    (l.rows ≡ laid (standing_rows says P l.o.0 l.pages) ages l.i) × (l.details ≡ laid (standing_details says P l.o.0 l.pages) (lows_of says ages) l.i)
    × (length l.rows ≡ length l.initial.rows) × (length l.details ≡ length l.initial.rows)
