-- The words of a history, one turn at a time. Those of the records passed are laid over the ages, so that the next age is as it was; what the file is
-- after a record is what following the records up to it comes to (`Following`).
use Prim.Native.Nat.{ℕ, ◌+◌, ◌≤◌, ◌<◌}
use Rattle.std.specs.Prelude.{Result}
use Rattle.page.specs.declared.refusal.Refusal.{Refusal}
use mathlib.Core.Bool.{false}
use mathlib.Core.List.{List}
use mathlib.Core.Path.{◌≡◌, sym, ap, ◌∙◌}
use native.Mathlib.Numerals.{add-one}
use native.Mathlib.Omega.{arith}
use lib.ListN.{length, get_or, set, length-map}
use Rattle.page.specs.Numbers.{bad_object}
use Rattle.page.specs.declared.record.Record.{Record}
use Rattle.sort.specs.Packed.{packed}
use Rattle.sort.proofs.Making.{map_at}
use Rattle.chunk.proofs.Laying.{laid, laid_more, laid_next}
use Rattle.records.specs.Histories.{sized_after, refusal_in, size_in}
use Rattle.records.specs.Rows.{history_row, history_size, history_rows, history_sizes}
use Rattle.records.specs.Steps.{followed}
use Rattle.records.specs.Written.{page_of, written}
use Rattle.records.proofs.Following.{after_followed}

-- object o of a dump of n pages, with P data bytes to a page
module _ (says : ℕ → Record) (P o n : ℕ) where
  abbrev ages : List ℕ
  ages = written says o n

  -- one row, and one size, for each record
  pub rows_length : length (history_rows says P o n) ≡ length ages
  unfolding history_rows
  rows_length = length-map ages (history_row says P o n)

  pub sizes_length : length (history_sizes says P o n) ≡ length ages
  unfolding history_sizes
  sizes_length = length-map ages (history_size says P o n)

  -- the next age is as it was
  pub next_age : (i : ℕ) → i < length ages → get_or (laid (history_rows says P o n) ages i) i 0 ≡ get_or ages i 0
  next_age i h = laid_next (history_rows says P o n) ages i (omega (arith, rows_length)) h

  -- one record more
  module _ (few : n ≤ 4294967296) (good : bad_object o ≡ false) (i : ℕ) (h : i < length ages) (a : Result ℕ Refusal) (e : a ≡ followed says P ages (i + 1)) where
    -- what the file was after it
    after_is : sized_after says P o n (get_or ages i 0) ≡ a
    after_is = after_followed says P o n few good i h ∙ ap (followed says P ages) (sym (add-one i)) ∙ sym e

    -- its row, and its size
    pub row_laid : set (laid (history_rows says P o n) ages i) i (packed (page_of (get_or ages i 0)) (refusal_in a)) ≡ laid (history_rows says P o n) ages (i + 1)
    unfolding history_rows
    row_laid =
        let x : get_or (history_rows says P o n) i 0 ≡ packed (page_of (get_or ages i 0)) (refusal_in a) = map_at (history_row says P o n) i ages h ∙ rw after_is in
        rw (← x) (laid_more (history_rows says P o n) ages i h (omega (arith, rows_length)))

    pub size_laid : (sizes : List ℕ) → i < length sizes → set (laid (history_sizes says P o n) sizes i) i (size_in a) ≡ laid (history_sizes says P o n) sizes (i + 1)
    unfolding history_sizes
    size_laid sizes k =
        let x : get_or (history_sizes says P o n) i 0 ≡ size_in a = map_at (history_size says P o n) i ages h ∙ ap size_in after_is in
        rw (← x) (laid_more (history_sizes says P o n) sizes i k (omega (arith, sizes_length)))
