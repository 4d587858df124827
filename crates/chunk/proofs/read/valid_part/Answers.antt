-- The part lies in the page's data, and the page in the dump.
use Prim.Native.Nat.{◌+◌, ◌*◌, ◌≤◌}
use mathlib.Core.Bool.{true}
use mathlib.Core.Path.{◌≡◌}
use lib.ListN.{length}
use native.Mathlib.Omega.{arith}
use native.Mathlib.Nat.{add-sub_cancel_left}
use borrow.Author.Tests.{le-leb, lt-leb}
use Rattle.page.specs.Lengths.{page_in}
use Rattle.page.proofs.Lengths.{page_within}
use Rattle.page.proofs.Pages.{page_front}
use Rattle.chunk.specs.Answers.{valid_part}
use Rattle.chunk.proofs.read.valid_part.Goals as goal
use Rattle.chunk.proofs.read.valid_part.Goals.{After-page_len, then-not-holds-via-then-not-holds, then-not-holds-via-else-not-holds+then-g-valid}

-- the part ends within the dump
within : (c : After-page_len) → let a = c.args in
    a.p.0 * c.page_len.result + a.valid ≤ length a.dump.now
within c =
    let lies : let a = c.args in page_in a.g (length a.dump.now) a.p.0 ≡ true = rw (← c.holds.ensures) c.if-not-holds.false in
    let a = c.args in
    let w = rw (← c.page_len.ensures.value) at (page_within a.g (length a.dump.now) a.p.0 lies).ends in
    omega (arith, c.page_len.ensures.value, c.if-g-valid.false)

pub returns-then-not-holds : goal.returns-then-not-holds
unfolding valid_part
returns-then-not-holds c =
    elim c.then-not-holds.branch [
      | then-not-holds-via-then-not-holds w ↦ rw (← c.holds.ensures, w.if-not-holds.true)
      | then-not-holds-via-else-not-holds+then-g-valid w ↦ rw (← c.holds.ensures, w.if-not-holds.false, lt-leb _ _ w.if-g-valid.true)
    ]

pub overflow_mul-a : goal.overflow_mul-a
overflow_mul-a c = omega (arith, within c)

pub overflow_add-e : goal.overflow_add-e
overflow_add-e c = omega (arith, within c)

pub slice_bounds-result-end-2 : goal.slice_bounds-result-end-2
slice_bounds-result-end-2 c = omega (arith, within c)

pub returns : goal.returns
unfolding valid_part
returns c =
    let lies : let a = c.args in page_in a.g (length a.dump.now) a.p.0 ≡ true = rw (← c.holds.ensures) c.if-not-holds.false in
    let a = c.args in
    rw (
      add-sub_cancel_left,
      lies,
      le-leb _ _ c.if-g-valid.false,
      page_front a.g a.dump.now a.p.0 a.valid (omega (arith, c.if-g-valid.false)),
      c.page_len.ensures.value,
    )
