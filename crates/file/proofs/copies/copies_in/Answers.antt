-- The size lookup refuses, or gives the size that the chunks are counted by. A first walk counts the copies that are met and puts none; there is room
-- for them, or not.
use mathlib.Core.Bool.{Bool, ◌&&◌}
use mathlib.Core.List.{◌++◌}
use mathlib.Core.Path.{◌≡◌, refl, sym, ◌∙◌}
use native.Mathlib.Omega.{arith}
use lib.Dec.{ltb}
use lib.ListN.{length, drop}
use lib.Seq.{length-take-le}
use Rattle.std.specs.Prelude.{Ok}
use Rattle.page.specs.declared.refusal.Refusal.{Refusal}
use Rattle.index.specs.Walks.{size_from}
use Rattle.file.specs.Copied.{Rows}
use Rattle.file.specs.Copies.{copied_from, rows_from, rows_by}
use Rattle.file.specs.Table.{chunks_in}
use Rattle.file.proofs.Chunks.{ok_before}
use Rattle.file.proofs.Copying.{copies_short, copies_rows, copies_filled}
use Rattle.file.proofs.copies.copies_in.Goals as goal
use Rattle.file.proofs.copies.copies_in.Goals.{In_ok-size, After-fill-count}

sized : (w : In_ok-size) → (let a = w.args in size_from a.g a.dump.now a.cells.now a.o.0 ≡ Ok w.in_ok-size.field-0)
sized w = sym w.size.ensures ∙ ok_before Refusal _ _ w.in_ok-size.ensures.cases

pub returns-then-rows-room : goal.returns-then-rows-room
unfolding rows_from rows_by
returns-then-rows-room c = record {
  value = copies_short _ _ _ _ _ _ _ c.requires (sized (goal.at.returns-then-rows-room c).In_ok-size) _ _ c.first_link-first.ensures c.walk-w.ensures.copies_value _
      _ c.words_of-room.ensures c.if-rows-room.true;
  rows_after = refl;
}

pub fill-count-requires-clause-rows_length : goal.fill-count-requires-clause-rows_length
fill-count-requires-clause-rows_length c =
    omega (arith, length-take-le c.words_of-room.result c.args.rows.now c.if-rows-room.false, c.words_of-room.ensures, c.walk-w.ensures.copies_value)

-- all are put
filled :
    (w : After-fill-count) (damaged : Bool) → damaged ≡ w.walk-w.result.broken && ltb w.fill-count.result (chunks_in w.args.g.layout.«data» w.in_ok-size.field-0.answer) →
    (let a = w.args in let all = Rows w.in_ok-size.field-0.answer w.fill-count.result damaged in
    (all ≡ copied_from a.g a.dump.now a.cells.now a.o.0 (length a.rows.now))
    × (w.fill-count.new.rows ++ drop w.words_of-room.result a.rows.now ≡ rows_from a.g a.dump.now a.cells.now a.o.0 a.rows.now all))
filled w damaged d =
    let s = sym w.size.ensures ∙ ok_before Refusal _ _ w.in_ok-size.ensures.cases in
    let long = length-take-le w.words_of-room.result w.args.rows.now w.if-rows-room.false in (
      copies_rows _ _ _ _ _ _ _ w.requires s _ _ w.first_link-first.ensures w.walk-w.ensures.copies_value _ (omega arith) _ _ _ w.fill-count.ensures.value
          w.walk-w.ensures.broken_value d,
      copies_filled _ _ _ _ _ _ _ w.requires s _ _ w.first_link-first.ensures w.walk-w.ensures.copies_value _ _ _ _
          (rw (w.fill-count.ensures.rows_after, long, w.words_of-room.ensures)),
    )

pub returns-then-w : goal.returns-then-w
returns-then-w c = let f = filled (goal.at.returns-then-w c).After-fill-count _ (rw (c.if-w.true, c.chunks_in.ensures.value)) in record { value = f.0; rows_after = f.1 }

pub returns-else-w : goal.returns-else-w
returns-else-w c = let f = filled (goal.at.returns-else-w c).After-fill-count _ (rw c.if-w.false) in record { value = f.0; rows_after = f.1 }
