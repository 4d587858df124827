-- A word times a word fits, and leaves room for a word more.
use Prim.Native.Nat.{◌*◌, ◌≤◌}
use native.Mathlib.Omega.{arith}
use Rattle.page.proofs.Layouts.{product_le}
use Rattle.chunk.proofs.record.base_of.Goals as goal
use Rattle.chunk.proofs.record.base_of.Goals.{After-chunks_before}

bounded : (c : After-chunks_before) → c.chunks_before.result * c.args.«data» ≤ 4294967295 * 4294967295
bounded c = product_le {m = 4294967295} {n = 4294967295} (omega arith) (omega arith)

pub overflow_mul-result : goal.overflow_mul-result
overflow_mul-result c = omega (arith, bounded c)

pub returns : goal.returns
returns c = record { value = rw c.chunks_before.ensures; result_bound = omega (arith, bounded c) }
