-- The page lies in the dump, so that its place fits.
use Prim.Native.Nat.{◌+◌, ◌*◌, ◌≤◌}
use native.Mathlib.Omega.{arith}
use borrow.Author.Tests.{le-leb}
use Rattle.page.proofs.Lengths.{page_within}
use Rattle.capi.proofs.answer.place_of.Goals as goal
use Rattle.capi.proofs.answer.place_of.Goals.{After-page_len}

-- the page ends within the dump
within : (c : After-page_len) → let a = c.args in a.p.0 * c.page_len.result + c.page_len.result ≤ a.len
within c =
    let a = c.args in
    rw c.page_len.ensures.value (page_within a.g a.len a.p.0 (rw (← c.holds.ensures) c.if-not-holds.false)).ends

pub overflow_mul-result : goal.overflow_mul-result
overflow_mul-result c = omega (arith, within c)

pub returns : goal.returns
returns c = rw (← c.holds.ensures, c.if-not-holds.false, le-leb _ _ c.if-g-valid.false, c.page_len.ensures.value)
