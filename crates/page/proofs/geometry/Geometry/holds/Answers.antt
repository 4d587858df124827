-- The place of a page is the product of a 32-bit number and a page's length, so it fits.
use Prim.Native.Nat.{◌*◌, ◌≤◌}
use native.Mathlib.Omega.{arith}
use Rattle.page.specs.Layouts.{most_bytes}
use Rattle.page.proofs.Layouts.{product_le, roomy_facts}
use Rattle.page.proofs.geometry.Geometry.holds.Goals as goal
use Rattle.page.proofs.geometry.Geometry.holds.Goals.{After-struct_known-1}

-- a page is no longer than a dump may be
place : (c : After-struct_known-1) → c.args.n.0 * c.page_len-size.result ≤ 4294967295 * most_bytes
place c =
    let room = roomy_facts c.args.self.layout (rw (← c.has_room.ensures) c.if-not-has_room.false) in
    product_le {m = 4294967295} {n = most_bytes} (omega arith) (rw c.page_len-size.ensures.value room.long)

pub overflow_mul-result : goal.overflow_mul-result
overflow_mul-result c = omega (arith, place c, c.page_len-size.ensures.upper_bound)

pub overflow_add-result : goal.overflow_add-result
overflow_add-result c = omega (arith, place c, c.page_len-size.ensures.upper_bound)
