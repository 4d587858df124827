-- A byte within the lent bytes is stored, and one past their end changes nothing.
use Rattle.std.proofs.Common.{arith, [], ◌∷◌, ◌∙◌}
use Rattle.text.specs.Put.{over, counted}
use Rattle.text.proofs.Putting.{out_past}
use Rattle.text.proofs.put.put_byte.Goals as goal
use Rattle.text.proofs.put.put_byte.Goals.{then-at-buf, else-at-buf}

pub returns : goal.returns
unfolding over counted
returns c = record {
  short = omega arith;
  holds = elim c.if-at-buf.branch [ then-at-buf w ↦ w.buf-is | else-at-buf w ↦ w.buf-is ∙ out_past (c.args.x ∷ []) c.args.buf.now c.args.at w.if-at-buf.false ];
  behind = omega (arith, c.saturating_add.ensures);
}
