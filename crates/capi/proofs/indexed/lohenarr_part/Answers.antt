-- The part is at the place that the answer names.
use borrow.Author.Rules.{rules}
use Rattle.capi.proofs.Places.{chunk_here}
use Rattle.capi.proofs.indexed.lohenarr_part.Goals as goal

pub returns : goal.returns
returns c =
    let a = c.args in
    let e = c.geometry_at-g.ensures in
    rw (c.place_answer.ensures, c.chunk.ensures, e) record { value = search rules; dump_value = chunk_here _ a.dump.now _ }
