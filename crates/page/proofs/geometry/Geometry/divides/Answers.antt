-- A block is not empty and its length fits, for any layout with room.
use Prim.Native.Nat.{◌*◌, ◌≤◌}
use native.Mathlib.Omega.{arith}
use Rattle.page.specs.Layouts.{most_bytes}
use Rattle.page.proofs.Layouts.{product_le, product_pos, Roomy, roomy_facts}
use Rattle.page.proofs.Lengths.{block_some, block_most}
use Rattle.page.proofs.geometry.Geometry.divides.Goals as goal
use Rattle.page.proofs.geometry.Geometry.divides.Goals.{After-page_len}

-- the layout's facts
room : (c : After-page_len) → Roomy c.args.self.layout
room c = roomy_facts c.args.self.layout c.requires.layout_value

pub overflow_mul-block : goal.overflow_mul-block
overflow_mul-block c =
    let h : c.args.self.block * c.page_len.result ≤ 256 * most_bytes =
    product_le {m = 256} {n = most_bytes} (block_most c.args.self.block c.requires.block_value) (rw c.page_len.ensures.value (room c).long) in
    omega arith

pub nonzero_rem-result : goal.nonzero_rem-result
nonzero_rem-result c = product_pos (block_some c.args.self.block c.requires.block_value) (omega (arith, room c, c.page_len.ensures.value))
