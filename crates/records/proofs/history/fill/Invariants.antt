-- The loop's invariant: what following the records passed comes to, and their rows and sizes laid over the words. A turn reads the next age, which is as it
-- was, and follows its record.
use mathlib.Core.Path.{◌≡◌}
use Rattle.page.specs.Records.{record_at}
use Rattle.chunk.specs.Takes.{seen_by}
use Rattle.chunk.proofs.Laying.{laid}
use Rattle.records.specs.Rows.{history_rows, history_sizes}
use Rattle.records.specs.Steps.{followed}
use Rattle.records.specs.Written.{written}
use Rattle.records.proofs.history.fill.Given as goal

abbrev pub invariant-loop-i : goal.invariant-loop-i
invariant-loop-i l =
    let says = seen_by l.t (record_at l.g l.dump) in
    let P = l.g.layout.«data» in
    let ages = written says l.fn.o.0 l.pages in
    (l.after ≡ followed says P ages l.i) × (l.rows ≡ laid (history_rows says P l.fn.o.0 l.pages) ages l.i)
    × (l.sizes ≡ laid (history_sizes says P l.fn.o.0 l.pages) l.initial.sizes l.i)
