use mathlib.Core.Bool.{true}
use mathlib.Core.Path.{◌≡◌, sym, ap, ◌∙◌}
use native.Mathlib.Omega.{arith}
use Rattle.page.specs.Records.{record_at}
use Rattle.chunk.proofs.Sorting.{listed_none, listed_skip, listed_room, listed_more, listed_sorted}
use Rattle.index.specs.Cells.{slots_for}
use Rattle.index.specs.Listing.{is_asked, asked_slot, slot_ids}
use Rattle.index.specs.declared.list.Ask.TheVariants.{Live}
use Rattle.index.proofs.Answer.Listings.{at_free, else_asked}
use Rattle.index.proofs.list.write_ids.Goals as goal

pub loop-s-init : goal.loop-s-init
loop-s-init c = listed_none _ _ _

pub loop-s-preserved-then-o-eq0 : goal.loop-s-preserved-then-o-eq0
loop-s-preserved-then-o-eq0 c =
    let q = c.loop-s in
    let t = ap is_asked (at_free Live _ _ _ _ q.s (sym c.key_of-o.ensures ∙ c.if-o-eq0.true)) in
    listed_skip q.invariant t

pub loop-s-preserved-in_default : goal.loop-s-preserved-in_default
loop-s-preserved-in_default c =
    let q = c.loop-s in
    let t = ap is_asked (sym c.standing_at.ensures) ∙ else_asked c.standing_at.result c.in_default.not-Asked in
    listed_skip q.invariant t

pub loop-s-preserved : goal.loop-s-preserved
loop-s-preserved c =
    let q = c.loop-s in
    let says = record_at c.args.g c.args.dump.now in
    let test = asked_slot Live says c.args.g.layout.«data» c.args.cells.now c.args.pages in
    let t : test q.s ≡ true = ap is_asked (sym c.standing_at.ensures ∙ c.in-Asked.is) in
    let room = listed_room q.invariant (slots_for c.args.pages) (rw c.slots_for-s-end.ensures at c.loop-s-test.true) t c.requires.pages_in_bounds_2 in
    listed_more q.invariant _ t room (rw (← c.key_of-o.ensures) c.put_id.ensures)

pub returns : goal.returns
unfolding slot_ids
returns c =
    let q = c.loop-s in
    let b = c.args in
    let e : q.s ≡ slots_for b.pages = omega (arith, c.loop-s-test.false, c.slots_for-s-end.ensures) in
    c.sort.ensures
    ∙ (rw e at (listed_sorted q.invariant))
