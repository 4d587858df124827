-- The page lies within the dump, so that its start and its end fit.
use Prim.Native.Nat.{◌+◌, ◌*◌, ◌≤◌}
use lib.ListN.{length}
use native.Mathlib.Omega.{arith}
use Rattle.page.proofs.Lengths.{page_within}
use Rattle.page.proofs.tags.page_at.Goals as goal
use Rattle.page.proofs.tags.page_at.Goals.{After-struct_known-1}

within : (c : After-struct_known-1) → c.args.n.0 * c.page_len-size.result + c.page_len-size.result ≤ length c.args.dump.now
within c = rw c.page_len-size.ensures.value (page_within c.args.g (length c.args.dump.now) c.args.n.0 c.requires).ends

pub overflow_mul-a : goal.overflow_mul-a
overflow_mul-a c = omega (arith, within c)

pub overflow_add-e : goal.overflow_add-e
overflow_add-e c = omega (arith, within c)

pub slice_bounds-result-end : goal.slice_bounds-result-end
slice_bounds-result-end c = omega (arith, within c)
