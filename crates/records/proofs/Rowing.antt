-- The rows of how records stand, put one after the other in place of the ages, and their second words in place of the lowest cuts: a record asks for
-- none but its own words and those of newer records, which are as they were.
use Prim.Native.Nat.{ℕ, ◌+◌, ◌-◌, ◌≤◌, ◌<◌}
use mathlib.Core.List.{List}
use mathlib.Core.Path.{◌≡◌, sym, ◌∙◌}
use native.Mathlib.Omega.{arith}
use lib.ListN.{length, take, drop, get_or, set, length-map}
use Rattle.page.specs.declared.record.Record.{Record}
use Rattle.page.proofs.Pages.{suffix}
use Rattle.sort.specs.Packed.{packed, value_of}
use Rattle.sort.proofs.Making.{map_at}
use Rattle.chunk.proofs.Laying.{laid, laid_more, laid_next, laid_rest}
use Rattle.records.specs.Rows.{kind_of, detail_of, standing_row, standing_detail, standing_rows, standing_details}
use Rattle.records.specs.Standings.{stands_of}
use Rattle.records.specs.Written.{written, page_at}
use Rattle.records.specs.declared.standing.Standing.{Standing}

-- the part of words from a place on, of which the first are laid, is as it was
pub part_rest : (t d words : List ℕ) (i : ℕ) → i ≤ length t → words ≡ laid t d i → take (length words - i) (drop i words) ≡ drop i d
part_rest t d words i h e = suffix words i ∙ rw e (laid_rest t d i h)

module _ (says : ℕ → Record) (P o n : ℕ) where
  abbrev ages : List ℕ
  ages = written says o n

  -- one row, and one second word, for each record
  pub rows_length : length (standing_rows says P o n) ≡ length ages
  unfolding standing_rows
  rows_length = length-map ages (standing_row says P o n)

  pub details_length : length (standing_details says P o n) ≡ length ages
  unfolding standing_details
  details_length = length-map ages (standing_detail says P o n)

  -- each by the age at its place
  pub row_at : (i : ℕ) → i < length ages → get_or (standing_rows says P o n) i 0 ≡ standing_row says P o n (get_or ages i 0)
  unfolding standing_rows
  row_at i h = map_at (standing_row says P o n) i ages h

  pub detail_at : (i : ℕ) → i < length ages → get_or (standing_details says P o n) i 0 ≡ standing_detail says P o n (get_or ages i 0)
  unfolding standing_details
  detail_at i h = map_at (standing_detail says P o n) i ages h

  -- one record more, which stands as s: its row, and its second word
  module _ (i : ℕ) (h : i < length ages) (s : Standing) (e : s ≡ stands_of says P o n (page_at says o n i)) where
    pub row_put :
        let rows = laid (standing_rows says P o n) ages i in
        set rows i (packed (value_of (get_or rows i 0)) (kind_of s)) ≡ laid (standing_rows says P o n) ages (i + 1)
    row_put =
        let x : packed (value_of (get_or ages i 0)) (kind_of s) ≡ get_or (standing_rows says P o n) i 0 = rw e (sym (row_at i h)) in
        rw (laid_next (standing_rows says P o n) ages i (omega (arith, rows_length)) h, x) (laid_more (standing_rows says P o n) ages i h (omega (arith, rows_length)))

    pub detail_put :
        (details : List ℕ) → i < length details →
        set (laid (standing_details says P o n) details i) i (detail_of s) ≡ laid (standing_details says P o n) details (i + 1)
    detail_put details k =
        let y : detail_of s ≡ get_or (standing_details says P o n) i 0 = rw e (sym (detail_at i h)) in
        rw y (laid_more (standing_details says P o n) details i k (omega (arith, details_length)))
