-- The copy is hidden where its word, the lowest cut from it on, is not above the begin of its chunk; the words ascend, and the last record with such a
-- word is the newest header that hides it. Else it stands as the lookup of its chunk says.
use Prim.Native.Nat.{◌-◌}
use mathlib.Core.Path.{◌∙◌}
use native.Mathlib.Omega.{arith}
use lib.ListN.{length-drop}
use lib.Seq.{get_or-drop}
use Rattle.page.specs.Records.{record_at}
use Rattle.chunk.specs.Takes.{seen_by}
use Rattle.records.specs.Written.{written}
use Rattle.records.proofs.InSight.{newest_at, first_word, words_sorted, stands_held, Hidden, stands_cut}
use Rattle.records.proofs.stands.copy_standing.Goals as goal
use Rattle.records.proofs.stands.copy_standing.Goals.{After-first_from-k}

pub returns-then-base-lows : goal.returns-then-base-lows
returns-then-base-lows c =
    let a = c.args in
    let r = c.requires in
    let b = c.base_of-base.ensures in
    let says = seen_by a.t (record_at a.g a.dump.now) in
    c.held.ensures
    ∙ stands_held (newest_at a.g a.dump.now a.t a.o.0 a.pages a.i a.d r.dump_value r.i_in_bounds r.i_value r.pages_value b.value b.result_bound) r.after_value
    (first_word says (written says a.o.0 a.pages) a.i r.i_in_bounds a.lows.now r.lows_value) (omega (arith, b.value, c.if-base-lows.true))

-- where the copy is hidden
hidden : (f : After-first_from-k) → let a = f.args in Hidden (seen_by a.t (record_at a.g a.dump.now)) a.g.layout.«data» a.o.0 a.pages a.i a.d f.first_from-k.result
hidden f =
    let a = f.args in
    let r = f.requires in
    let b = f.base_of-base.ensures in
    let says = seen_by a.t (record_at a.g a.dump.now) in
    let ages = written says a.o.0 a.pages in
    let sorted = words_sorted says ages a.i r.i_in_bounds a.lows.now r.lows_value in
    let first = first_word says ages a.i r.i_in_bounds a.lows.now r.lows_value in
    stands_cut (newest_at a.g a.dump.now a.t a.o.0 a.pages a.i a.d r.dump_value r.i_in_bounds r.i_value r.pages_value b.value b.result_bound) f.first_from-k.result
    (rw (← b.value, ← r.lows_value) (f.first_from-k.ensures.parted sorted)) (omega (arith, b.value, f.if-base-lows.false, first))

pub returns : goal.returns
returns c =
    let a = c.args in
    let says = seen_by a.t (record_at a.g a.dump.now) in
    rw (c.value_of.ensures, c.requires.ages_value, get_or-drop a.i (written says a.o.0 a.pages) (c.first_from-k.result - 1) 0)
    (hidden (goal.at.returns c).After-first_from-k).is_cut

pub overflow_sub-k : goal.overflow_sub-k
overflow_sub-k c = (hidden c).some_words

pub bounds-ages-k : goal.bounds-ages-k
bounds-ages-k c =
    let a = c.args in
    let says = seen_by a.t (record_at a.g a.dump.now) in
    let h = hidden (goal.at.bounds-ages-k c).After-first_from-k in
    rw (c.requires.ages_value, length-drop a.i (written says a.o.0 a.pages)) (omega (arith, h.some_words, h.inside))
