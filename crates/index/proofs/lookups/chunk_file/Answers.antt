-- The refusals come in the definition's order: the object's, then the end of the file.
use mathlib.Core.Path.{◌≡◌, sym, ◌∙◌}
use lib.Dec.{leb}
use borrow.Author.Tests.{le-leb, lt-leb}
use Rattle.page.specs.Choice.{pick}
use Rattle.page.specs.Records.{record_at}
use Rattle.page.specs.declared.refusal.Refusal.TheVariants.{PastEnd}
use Rattle.chunk.specs.Records.{base_of}
use Rattle.chunk.specs.Looked.{Refused}
use Rattle.chunk.specs.Lookups.{shown_of}
use Rattle.index.specs.Walks.{size_at, copy_from, chunk_reached, below}
use Rattle.index.specs.Reached.{Header}
use Rattle.index.proofs.Chain.Turns.{chunk_live}
use Rattle.index.proofs.lookups.chunk_file.Goals as goal
use Rattle.index.proofs.lookups.chunk_file.Goals.{After-max-size}

-- the file is live, and its size is known
live : (c : After-max-size) → let a = c.args in
    chunk_reached (record_at c.args.g c.args.dump.now) a.g.layout.«data» a.c.0 (below (record_at c.args.g c.args.dump.now) c.args.pages c.args.cells.now c.args.o.0 c.args.h.0) (Header a.h a.end a.met a.visits)
    ≡ pick (leb c.max-size.result (base_of a.g.layout.«data» a.c.0)) (Refused PastEnd a.visits 0)
    (copy_from (record_at c.args.g c.args.dump.now) a.g.layout.«data» a.c.0 a.h.0 (shown_of a.g.layout.«data» a.c.0 c.max-size.result) a.visits (below (record_at c.args.g c.args.dump.now) c.args.pages c.args.cells.now c.args.o.0 c.args.h.0) a.met)
unfolding chunk_reached
live c =
    let a = c.args in
    let size : c.max-size.result ≡ size_at (record_at c.args.g c.args.dump.now) a.h.0 a.end =
    rw (← c.record_at-r.ensures, ← c.file_size.ensures) c.max-size.ensures in
    rw size
    (chunk_live (record_at c.args.g c.args.dump.now) _ _ _ _ _ ((record_at c.args.g c.args.dump.now) a.h.0) _ _ _ _ (rw c.record_at-r.ensures at (sym c.in_ok-file_at.ensures)))

pub returns-then-size-base : goal.returns-then-size-base
returns-then-size-base c = rw c.into.ensures (sym (live (goal.at.returns-then-size-base c).After-max-size ∙ rw (← c.base_of-base.ensures.value, le-leb _ _ c.if-size-base.true)))

pub returns : goal.returns
returns c =
    c.copy_from.ensures
    ∙ sym (live (goal.at.returns c).After-max-size ∙ rw (← c.base_of-base.ensures.value, lt-leb _ _ c.if-size-base.false, c.shown_of-shown.ensures))
