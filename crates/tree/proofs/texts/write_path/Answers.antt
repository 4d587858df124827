-- The path is measured on no bytes, and written if it fits.
use borrow.Author.Rules.{rules}
use Rattle.text.proofs.Writing.{refused, accepted}
use Rattle.tree.proofs.texts.write_path.Goals as goal

pub returns-then-buf-need : goal.returns-then-buf-need
returns-then-buf-need c =
    let r = refused _ c.put_path_at-need.ensures (search rules) in
    record { value = r.0; buf_after = r.1 }

pub returns : goal.returns
returns c =
    let r = accepted _ c.put_path_at-need.ensures (search rules) c.put_path_at.ensures in
    record { value = r.0; buf_after = r.1 }
