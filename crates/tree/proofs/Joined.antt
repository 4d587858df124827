-- Rows of two lists put one behind the other, with room for both: together they are no more than the headers, so that they are the front of the
-- words.
use Prim.Native.Nat.{ℕ, ◌+◌, ◌-◌, ◌≤◌}
use mathlib.Core.List.{List}
use mathlib.Core.Path.{◌≡◌, ◌∙◌}
use native.Mathlib.Omega.{arith}
use lib.ListN.{length, length-append}
use Rattle.page.specs.declared.record.Record.{Record}
use Rattle.page.proofs.Searching.{count_le}
use Rattle.chunk.specs.Lists.{in_front}
use Rattle.text.specs.Put.{Put}
use Rattle.text.proofs.Putting.{also, whole}
use Rattle.tree.specs.Heads.{is_head, head_count}
use Rattle.tree.specs.Rows.{listed_rows, other_rows, tree_rows}
use Rattle.tree.proofs.Fitting.{rows_fit}
use Rattle.tree.proofs.Fronts.{put_length}

module _ (says : ℕ → Record) (names : ℕ → List ℕ) (n : ℕ) where
  -- the rows of both lists of n pages are in front of words: how many the first list has, and both
  pub record Joined (rows after : List ℕ) (at r : ℕ) : Type 0 where
    pub first : at ≡ length (listed_rows says names n)
    pub both : r ≡ length (listed_rows says names n) + length (other_rows says names n)
    pub second : r - at ≡ length (other_rows says names n)
    pub front : after ≡ in_front (tree_rows says names n) rows
    pub few : r ≤ n

  -- they are when both were put
  pub joined :
      (rows mid after : List ℕ) (at r : ℕ) → Put (listed_rows says names n) rows 0 mid at → Put (other_rows says names n) mid at after r →
      head_count says n ≤ length rows → Joined rows after at r
  unfolding tree_rows
  joined rows mid after at r p q h =
      let fit : length (tree_rows says names n) ≤ head_count says n = rows_fit says names n in
      let long = length-append (listed_rows says names n) (other_rows says names n) in
      let one = put_length p (omega arith) in
      let all = put_length (also p q) (omega arith) in
      record {
        first = one;
        both = all ∙ long;
        second = omega (arith, one, all);
        front = whole (also p q) (omega arith);
        few = omega (arith, count_le (is_head says) n);
      }
