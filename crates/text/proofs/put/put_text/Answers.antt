-- Within the lent bytes as much is copied as there is room for, and past their end nothing changes.
use Rattle.std.proofs.Common.{arith, rules, ◌∙◌}
use Rattle.text.specs.Put.{counted}
use Rattle.text.proofs.Putting.{out_past, copied_part}
use Rattle.text.proofs.put.put_text.Goals as goal
use Rattle.text.proofs.put.put_text.Goals.{then-at-buf, else-at-buf}

pub returns : goal.returns
unfolding counted
returns c = record {
  short = omega arith;
  holds = elim c.if-at-buf.branch [ then-at-buf w ↦ w.buf-is ∙ copied_part c.args.text.now c.args.buf.now _ c.args.at w.min-fitting.result _ w.if-at-buf.true w.min-fitting.ensures (omega arith) (w.copy.ensures.whole (search rules)) | else-at-buf w ↦ w.buf-is ∙ out_past c.args.text.now c.args.buf.now c.args.at w.if-at-buf.false ];
  behind = omega (arith, c.saturating_add.ensures);
}
