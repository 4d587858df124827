-- All copies are put and their keys sorted, and so the rows of the newest are gathered.
use Prim.Native.Nat.{◌<◌}
use Rattle.std.specs.Prelude.{None}
use mathlib.Core.Bool.{true}
use native.Mathlib.Omega.{arith}
use lib.ListN.{length}
use Rattle.page.specs.Records.{record_at}
use Rattle.page.proofs.Lengths.{opened_pages}
use Rattle.index.specs.Chains.{top}
use Rattle.index.specs.Walks.{under}
use Rattle.sort.specs.Packed.{word_values}
use Rattle.file.specs.Copies.{met_ahead}
use Rattle.file.specs.Table.{chunks_in}
use Rattle.file.proofs.Arranged.{put_below, put_gathered}
use Rattle.file.proofs.Shown.{met_shown, met_some}
use Rattle.file.proofs.copies.fill.Goals as goal
use Rattle.file.proofs.copies.fill.Goals.{After-walk}

few : (w : After-walk) → (let a = w.args in length (met_ahead (record_at a.g a.dump.now) a.g.layout.«data» a.size a.pages a.cells.now a.o.0 a.first) < word_values)
few w = omega (arith, w.walk.ensures.copies_value, w.walk.ensures.copies_le_pages, opened_pages _ _ _ w.requires.dump_value)

pub gather-requires : goal.gather-requires
gather-requires c = put_below _ _ c.requires.rows_length (few (goal.at.gather-requires c).After-walk) _ c.walk.ensures.rows_after

pub returns : goal.returns
returns c =
    let a = c.args in
    let says = record_at a.g a.dump.now in
    let t = under says a.pages a.cells.now a.o.0 top a.first in
    let P = a.g.layout.«data» in
    let f =
    put_gathered _ _ c.requires.rows_length (few (goal.at.returns c).After-walk) _ c.walk.ensures.rows_after (met_some says P (chunks_in P a.size) a.size t true None)
    _ _ c.gather.ensures.value c.gather.ensures.rows_after in
    rw (← met_shown says P (chunks_in P a.size) a.size t true None) (record { value = f.0; rows_after = f.1 })
