use mathlib.Core.Path.{◌≡◌, sym, ap, ◌∙◌}
use native.Mathlib.Omega.{arith}
use borrow.Author.Rules.{rules}
use Rattle.chunk.proofs.Living.{count_skip, count_take}
use Rattle.index.specs.Cells.{slots_for}
use Rattle.index.specs.Listing.{is_asked, is_damaged}
use Rattle.index.proofs.Answer.Listings.{at_free, tally_damaged, tally_whole}
use Rattle.index.proofs.list.tally_in.Goals as goal

pub loop-s-preserved-then-o-eq0 : goal.loop-s-preserved-then-o-eq0
loop-s-preserved-then-o-eq0 c =
    let q = c.loop-s in
    let e = at_free _ _ _ _ _ q.s (sym c.key_of-o.ensures ∙ c.if-o-eq0.true) in
    (search rules, count_skip _ q.s (ap is_damaged e) ∙ q.invariant.1, q.invariant.2 ∙ sym (count_skip _ q.s (ap is_asked e)))

pub loop-s-preserved : goal.loop-s-preserved
loop-s-preserved c =
    let q = c.loop-s in
    let e = sym c.standing_at.ensures ∙ c.in-Asked.is in
    (search rules, count_skip _ q.s (ap is_damaged e) ∙ q.invariant.1, rw q.invariant.2 (sym (count_take _ q.s (ap is_asked e))))

pub returns-in-Damaged : goal.returns-in-Damaged
returns-in-Damaged c = sym (tally_damaged _ _ _ _ _ c.loop-s.s (rw c.slots_for-s-end.ensures at c.loop-s-test.true) (sym c.standing_at.ensures ∙ c.in-Damaged.is))

pub loop-s-preserved-in-Other : goal.loop-s-preserved-in-Other
loop-s-preserved-in-Other c =
    let q = c.loop-s in
    let e = sym c.standing_at.ensures ∙ c.in-Other.is in
    (search rules, count_skip _ q.s (ap is_damaged e) ∙ q.invariant.1, q.invariant.2 ∙ sym (count_skip _ q.s (ap is_asked e)))

pub returns : goal.returns
returns c =
    let q = c.loop-s in
    let e : q.s ≡ slots_for c.args.pages = omega (arith, c.loop-s-test.false, c.slots_for-s-end.ensures) in
    let d = rw e at q.invariant.1 in
    let n = rw e at q.invariant.2 in
    rw n (sym (tally_whole _ _ _ _ _ d))
