-- A copied front and zeros behind it.
use borrow.Author.Rules.{rules}
use Rattle.chunk.proofs.Laying.{zeros_over}
use Rattle.chunk.proofs.read.overlay.Goals as goal

pub returns : goal.returns
returns c =
    let front = c.copy.ensures.whole (search rules) in
    let zeros = c.fill.ensures.after (λ y e. e) in
    rw front (zeros_over c.args.part.now c.args.buffer.now _ c.args.shown c.min-count.result c.min-count.ensures c.requires (rw front at zeros))
