-- What is told of a dump's tree is so: the rows that an accepted call leaves make the text of both lists, letter by letter, and each path of the
-- first. An accepted call is one of a dump that is not refused, at a moment that it has, with room in each slice; of its rows the laws of
-- `RowsText` hold.
use Prim.Native.Nat.{ℕ, ◌+◌, ◌<◌}
use Rattle.std.specs.Prelude.{Result, Ok, Err}
use Rattle.page.specs.declared.refusal.Refusal.{Refusal}
use mathlib.Core.List.{List, ◌++◌}
use mathlib.Core.Path.{◌≡◌, refl, ap}
use native.Mathlib.Omega.{arith}
use lib.ListN.{length, take, get_or, length-append}
use lib.Seq.{take_at}
use Rattle.page.specs.Lengths.{opened_of}
use Rattle.page.specs.Records.{record_at}
use Rattle.page.specs.declared.geometry.Geometry.{Geometry}
use Rattle.page.specs.declared.record.Record.{Record}
use Rattle.page.proofs.Lengths.{opened_pages}
use Rattle.page.proofs.Searching.{by_test, clash}
use Rattle.chunk.specs.Moments.{is_missing, takes_at}
use Rattle.chunk.specs.declared.moment.Moment.{Moment}
use Rattle.tree.specs.Answers.{says_at, too_few, tree_on, rows_left}
use Rattle.tree.specs.Objects.{names_of}
use Rattle.tree.specs.Paths.{Entry, listed}
use Rattle.tree.specs.Rows.{listed_rows, other_rows, tree_rows, rows_text, path_at}
use Rattle.tree.specs.Tree.{others, tree_text}
use Rattle.tree.specs.Grown.{Grown, Rows, Refused}
use Rattle.tree.proofs.Fitting.{listed_rows_length, other_rows_length}
use Rattle.tree.proofs.RowsText.{rows_text_lem, path_at_lem}

-- how many rows each list has by an answer
abbrev listed_in : Grown → ℕ
listed_in (Ok x) = x.listed
listed_in (Err e) = 0

abbrev others_in : Grown → ℕ
others_in (Ok x) = x.others
others_in (Err e) = 0

module _ (g : Geometry) (dump : List ℕ) (m : Moment) where
  -- what the pages say then, and the names on them
  abbrev says : ℕ → Record
  says = says_at g dump m

  abbrev names : ℕ → List ℕ
  names = names_of g dump

  -- of rows of which the first a are of the first list, and the next b of the second
  pub record Told (a b : ℕ) (rows : List ℕ) : Type 0 where
    pub pages : ℕ
    pub accepted : opened_of g (length dump) ≡ Ok pages
    pub first : a ≡ length (listed says names pages)
    pub second : b ≡ length (others says names pages)
    pub text : rows_text g dump (take (a + b) rows) a ≡ tree_text says names pages
    pub paths : (i : ℕ) (none : Entry) → i < a → path_at g dump (take (a + b) rows) i ≡ (get_or (listed says names pages) i none).path

  -- by the number of pages
  told_by : (n : ℕ) → opened_of g (length dump) ≡ Ok n → (rows : List ℕ) →
      Told (length (listed_rows says names n)) (length (other_rows says names n)) (tree_rows says names n ++ rows)
  unfolding tree_rows
  told_by n o rows =
      let all = listed_rows says names n ++ other_rows says names n in
      let h = opened_pages g (length dump) n o in
      let e : take (length (listed_rows says names n) + length (other_rows says names n)) (all ++ rows) ≡ all =
      take_at all rows _ (length-append (listed_rows says names n) (other_rows says names n)) in
      record {
        pages = n;
        accepted = o;
        first = listed_rows_length says names n;
        second = other_rows_length says names n;
        text = rw e (rows_text_lem g dump (takes_at (record_at g dump) m) n (omega arith));
        paths = λ i none k. rw e (path_at_lem g dump (takes_at (record_at g dump) m) n (omega arith) i none k);
      }

  -- whatever rows are answered
  pub rows_told :
      (rows : List ℕ) (heads work a b : ℕ) → tree_on g dump m (length rows) heads work ≡ Rows a b → Told a b (rows_left g dump m rows heads work)
  unfolding tree_on rows_left
  rows_told rows heads work a b e = by (opened_of g (length dump)) refl
    where
      by : (x : (Result ℕ Refusal)) → opened_of g (length dump) ≡ x → Told a b (rows_left g dump m rows heads work)
      by (Err r) o = let c : Refused r 0 ≡ Rows a b = rw o at e in clash (cc)
      by (Ok n) o =
          by_test (is_missing n m) _
          (λ t. let c : Refused _ 0 ≡ Rows a b = rw (o, t) at e in clash (cc))
          (λ t.
          by_test (too_few g dump m (length rows) heads work n) _
          (λ u. let c : Refused _ _ ≡ Rows a b = rw (o, t, u) at e in clash (cc))
          (λ u.
          let c : Rows (length (listed_rows says names n)) (length (other_rows says names n)) ≡ Rows a b = rw (o, t, u) at e in
          let x : length (listed_rows says names n) ≡ a = ap listed_in c in
          let y : length (other_rows says names n) ≡ b = ap others_in c in
          rw (o, t, u, ← x, ← y) (told_by n o _)))
