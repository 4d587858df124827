use Prim.Native.Nat.{ℕ, ◌*◌, ◌/◌, ◌^◌, ◌<◌, ◌≤◌}
use native.Mathlib.Nat.{div-mul-le_self, mul-le-mul_left, mul-mod_left, mul_right_comm}
use native.Mathlib.Omega.{arith}
use lib.ListN.{length}
use borrow.Author.Rules.{rules}
use Rattle.page.specs.Tags.{claim_at}
use Rattle.page.specs.Find.{is_scored}
use Rattle.page.proofs.Layouts.{row_roomy}
use Rattle.page.proofs.Lengths.{block_some, block_most}
use Rattle.page.proofs.Leaving.{pages_few, count_by}
use Rattle.page.proofs.find.glance.Goals as goal
use Rattle.page.proofs.find.glance.Goals.{Else-pages-eq0, After-struct_known-1}

-- the strides do not go past the pages
strides : (pages k i : ℕ) → i ≤ 8 → pages / 8 / k * k * i ≤ pages
strides pages k i h = omega (arith, mul-le-mul_left (pages / 8 / k * k) h, div-mul-le_self (pages / 8) k, div-mul-le_self pages 8)

pub pages_under-pages-requires : goal.pages_under-pages-requires
pages_under-pages-requires c = record { layout_value = rw c.row.ensures (row_roomy c.args.n c.requires.n_lt_layouts); block_value = c.requires.k_value; len_value = c.requires.dump_value }

-- its pages are few
few : (c : Else-pages-eq0) → c.pages_under-pages.result < 2 ^ 31
few c = rw c.pages_under-pages.ensures (pages_few (record { layout = c.row.result; block = c.args.k }) (length c.args.dump.now) c.requires.dump_value)

pub nonzero_div-stride-2 : goal.nonzero_div-stride-2
nonzero_div-stride-2 c = block_some c.args.k c.requires.k_value

pub gain_in-score-requires : goal.gain_in-score-requires
gain_in-score-requires c =
    let i = c.loop-i.i in
    let x = c.pages_under-pages.result / 8 / c.args.k in record { block_value = rw (mul_right_comm x c.args.k i) (mul-mod_left (x * i) c.args.k); block_bound = omega (arith, strides c.pages_under-pages.result c.args.k i (omega arith), few (goal.at.gain_in-score-requires c).Else-pages-eq0, block_most c.args.k c.requires.k_value) }

-- a block scores at most its pages
gains : (c : After-struct_known-1) → c.gain_in-score.result.score ≤ 256
gains c =
    let block = c.pages_under-pages.result / 8 / c.args.k * c.args.k * c.loop-i.i in
    omega (arith, c.gain_in-score.ensures.scored, count_by (is_scored (claim_at (record { layout = c.row.result; block = c.args.k }) c.args.dump.now) c.args.k) block c.args.k, block_most c.args.k c.requires.k_value)

pub overflow_add-score : goal.overflow_add-score
overflow_add-score c = omega (arith, gains c, c.loop-i.invariant.1, c.loop-i-test.true)

pub loop-i-preserved : goal.loop-i-preserved
loop-i-preserved c = (search rules, omega (arith, gains c, c.loop-i.invariant.1))
