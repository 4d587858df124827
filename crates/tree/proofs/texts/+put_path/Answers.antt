-- Where a row has a directory, the path of that comes first; then the row's own step.
use native.Mathlib.Omega.{arith}
use Rattle.text.proofs.Putting.{nothing, also}
use Rattle.tree.proofs.Texting.{path_none, path_first, path_next}
use Rattle.tree.proofs.texts.+put_path.Goals as goal

pub returns-then-steps-eq0 : goal.returns-then-steps-eq0
returns-then-steps-eq0 t c =
    let a = c.args in
    rw (path_none a.g a.dump.now a.rows.now a.steps a.i c.if-steps-eq0.true) (nothing _ _ (omega arith) (omega arith))

pub returns-then-key-eq0 : goal.returns-then-key-eq0
returns-then-key-eq0 t c =
    let a = c.args in
    rw (path_first a.g a.dump.now a.rows.now a.steps a.i c.if-steps-eq0.false c.row_at-row.ensures c.key_of-key.ensures c.if-key-eq0.true)
    c.put_step.ensures

pub returns : goal.returns
returns t c =
    let a = c.args in
    rw (path_next a.g a.dump.now a.rows.now a.steps a.i c.if-steps-eq0.false c.row_at-row.ensures c.key_of-key.ensures c.if-key-eq0.false)
    (also c.put_path-next.ensures c.put_step-2.ensures)
