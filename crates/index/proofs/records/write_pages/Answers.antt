use Prim.Native.Nat.{ℕ, ◌<◌}
use mathlib.Core.List.{List}
use mathlib.Core.Logic.{⊎_elim}
use mathlib.Core.Path.{◌≡◌, refl, sym, ap, ◌∙◌}
use native.Mathlib.Omega.{arith}
use lib.ListN.{length, set, take, length-set}
use Rattle.page.specs.Records.{record_at}
use Rattle.chunk.specs.Records.{age_of}
use Rattle.chunk.specs.Lists.{in_front}
use Rattle.chunk.proofs.Sorting.{put_front}
use Rattle.index.specs.Cells.{word, link_at}
use Rattle.index.specs.Chains.{objects, top}
use Rattle.index.specs.Walks.{under}
use Rattle.index.specs.Recorded.{pages_of}
use Rattle.index.specs.declared.chains.Step.TheVariants.{End, Damaged, Record}
use Rattle.index.proofs.Chain.Links.{stepped}
use Rattle.index.proofs.Chain.Turns.{few}
use Rattle.index.proofs.Walk.Recorded.{pages_length, pages_end, pages_broken, pages_on, Next, next_of, all_taken}
use Rattle.index.proofs.records.write_pages.Goals as goal
use Rattle.index.proofs.records.write_pages.Goals.{In-Record}

-- where the chain ends, or is damaged, all its pages have been written
pub returns-in-End : goal.returns-in-End
returns-in-End c =
    let q = c.loop-q in
    let none = ⊎_elim
    (λ e. pages_end _ (stepped _ _ _ _ _ _ End (sym e ∙ c.follow.ensures)))
    (λ e. pages_broken _ (stepped _ _ _ _ _ _ Damaged (sym e ∙ c.follow.ensures)))
    c.in-End.is
    in
    q.invariant.2 ∙ ap (λ (L : List ℕ). in_front L c.args.words.now) (all_taken (pages_of (under (record_at c.args.g c.args.dump.now) c.args.pages c.args.cells.now c.args.o.0 top c.args.first)) q.count (q.invariant.1 ∙ none))

next : (c : In-Record) → (link : ℕ) → link ≡ word c.args.cells.now (link_at c.in-Record.q.0) → Next (pages_of (under (record_at c.args.g c.args.dump.now) c.args.pages c.args.cells.now c.args.o.0 top c.args.first)) c.loop-q.count c.in-Record.q.0
    (pages_of (under (record_at c.args.g c.args.dump.now) c.args.pages c.args.cells.now c.args.o.0 c.in-Record.age link))
next c link e =
    let k = stepped _ _ _ c.args.cells.now _ _ (Record _ _ _) c.in-Record.ensures in
    next_of (pages_of (under (record_at c.args.g c.args.dump.now) c.args.pages c.args.cells.now c.args.o.0 top c.args.first)) _ _ _ (c.loop-q.invariant.1 ∙ pages_on _ _ _ (k.onward link e))

room : (c : In-Record) → (c.loop-q.count < length c.args.words.now) × (c.loop-q.count < c.args.pages)
room c =
    let says = record_at c.args.g c.args.dump.now in
    let inside = ((next c) _ refl).3 in (
      omega (arith, inside, pages_length (under (record_at c.args.g c.args.dump.now) c.args.pages c.args.cells.now c.args.o.0 top c.args.first), c.requires),
      omega (arith, inside, pages_length (under (record_at c.args.g c.args.dump.now) c.args.pages c.args.cells.now c.args.o.0 top c.args.first), few c.args.pages (objects says) (age_of says) c.args.cells.now c.args.o.0 top c.args.first),
    )

pub bounds-words-count : goal.bounds-words-count
bounds-words-count c = omega (arith, (room c).0, c.loop-q.invariant.0)

pub overflow_add-count : goal.overflow_add-count
overflow_add-count c = omega (arith, (room c).1)

pub loop-q-smaller : goal.loop-q-smaller
loop-q-smaller c = (stepped _ _ _ c.args.cells.now _ _ (Record _ _ _) c.in-Record.ensures).older

pub loop-q-preserved : goal.loop-q-preserved
loop-q-preserved c =
    let q = c.loop-q in
    let w = c.args.words.now in
    let ids = take q.count (pages_of (under (record_at c.args.g c.args.dump.now) c.args.pages c.args.cells.now c.args.o.0 top c.args.first)) in
    let p = c.in-Record.q.0 in
    let n = next (goal.at.loop-q-preserved c).In-Record _ c.link_of-link.ensures in (
      simp length-set q.invariant.0,
      n.1,
      ap (λ (W : List ℕ). set W q.count p) q.invariant.2
          ∙ ap (λ (k : ℕ). set (in_front ids w) k p) (sym n.2)
          ∙ put_front ids w p (omega (arith, n.2, (room (goal.at.loop-q-preserved c).In-Record).0))
          ∙ ap (λ (L : List ℕ). in_front L w) (sym n.0),
    )

pub offset_bounds-words-count : goal.offset_bounds-words-count
offset_bounds-words-count c = omega (arith, (room c).1)
