-- A byte that is shown lies in the dump, at the page's begin and as many bytes further.
use Prim.Native.Nat.{◌+◌, ◌*◌, ◌<◌}
use mathlib.Core.Bool.{true}
use mathlib.Core.Path.{◌≡◌, sym, ◌∙◌}
use native.Mathlib.Omega.{arith}
use borrow.Author.Tests.{lt-ltb}
use lib.ListN.{length}
use Rattle.page.specs.Lengths.{page_in}
use Rattle.why.proofs.Finding.{byte_inside, byte_there}
use Rattle.why.proofs.byte.shown.Goals as goal
use Rattle.why.proofs.byte.shown.Goals.{After-page_len}

-- behind both tests: the page lies in the dump, and so does the byte
there : (c : After-page_len) → page_in c.args.g (length c.args.dump.now) c.in-Held.p.0 ≡ true
there c = sym c.holds.ensures ∙ c.if-not-holds.false

inside : (c : After-page_len) → c.in-Held.p.0 * c.page_len.result + c.in-Held.at < length c.args.dump.now
inside c = rw c.page_len.ensures.value (byte_inside c.args.g c.args.dump.now c.in-Held.p.0 c.in-Held.at (there c) c.if-g-at.false)

pub returns-else-g-at : goal.returns-else-g-at
returns-else-g-at c =
    let there = there (goal.at.returns-else-g-at c).After-page_len in
    rw (c.in-Held.is, there, lt-ltb _ _ c.if-g-at.false, c.page_len.ensures.value) (sym (byte_there c.args.g c.args.dump.now c.in-Held.p.0 c.in-Held.at there c.if-g-at.false))

pub overflow_mul-i : goal.overflow_mul-i
overflow_mul-i c = omega (arith, inside c)

pub overflow_add-i : goal.overflow_add-i
overflow_add-i c = omega (arith, inside c)

pub bounds-dump-i : goal.bounds-dump-i
bounds-dump-i c = inside (goal.at.bounds-dump-i c).After-page_len
