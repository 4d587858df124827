use Prim.Native.Nat.{◌^◌}
use mathlib.Core.Path.{◌≡◌}
use native.Mathlib.Omega.{arith}
use borrow.Author.Rules.{rules}
use Rattle.page.specs.Search.{count}
use Rattle.page.specs.Counts.{counts_below}
use Rattle.page.proofs.Counting.{counts_next, counts_at_most}
use Rattle.page.proofs.count.count_pages.Goals as goal

pub with-c-requires : goal.with-c-requires
with-c-requires c =
    let a = c.args in
    let q = c.loop-i in
    counts_at_most a.g a.dump.now q.i (2 ^ 31) q.c q.invariant (omega arith)

pub loop-i-preserved : goal.loop-i-preserved
loop-i-preserved c =
    let a = c.args in
    let q = c.loop-i in
    cc (counts_next a.g a.dump.now q.i)

pub returns : goal.returns
returns c =
    let a = c.args in
    let e : c.loop-i.i ≡ a.pages = omega arith in
    cc

pub loop-i-init : goal.loop-i-init
unfolding counts_below count
loop-i-init c = search rules
