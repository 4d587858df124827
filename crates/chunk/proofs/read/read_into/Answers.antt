-- A refusal writes nothing; a chunk lays its valid bytes, with zeros behind them.
use mathlib.Core.Path.{refl}
use borrow.Author.Tests.{lt-ltb, le-ltb}
use Rattle.page.proofs.Passing.{passed_on}
use Rattle.chunk.specs.Answers.{read_by, buffer_by}
use Rattle.chunk.proofs.read.read_into.Goals as goal

pub returns-in_err-chunk : goal.returns-in_err-chunk
unfolding read_by buffer_by
returns-in_err-chunk c =
    let e = passed_on _ c.from_residual.ensures.1 in
    record { value = rw (e, c.in_err-chunk.was); buffer_after = rw e }

pub returns-then-buffer-need : goal.returns-then-buffer-need
unfolding read_by buffer_by
returns-then-buffer-need c = record { value = rw (c.in_ok-chunk.was, ← c.shown-need.ensures, ← c.visits.ensures, lt-ltb _ _ c.if-buffer-need.true); buffer_after = refl }

pub returns : goal.returns
unfolding read_by buffer_by
returns c =
    record {
      value = rw (c.in_ok-chunk.was, ← c.shown-need.ensures, le-ltb _ _ c.if-buffer-need.false);
      buffer_after = rw (c.in_ok-chunk.was, ← c.shown-need.ensures, ← c.in_ok-chunk.was, ← c.part_of.ensures) c.overlay.ensures;
    }
