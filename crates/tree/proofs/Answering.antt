-- What is answered of a dump's tree that is opened, case by case: a moment whose page it lacks, too few words, and enough of them. In each the tests
-- of the definitions are known, and so is what is left of all three slices.
use Prim.Native.Nat.{ℕ, ◌-◌, ◌≤◌, ◌<◌, min}
use Rattle.std.specs.Prelude.{Ok}
use mathlib.Core.Bool.{true, false}
use mathlib.Core.List.{List, ◌++◌}
use mathlib.Core.Path.{◌≡◌}
use native.Mathlib.Omega.{arith}
use borrow.Author.Tests.{lt-ltb, le-ltb}
use lib.ListN.{length, drop, replicate}
use Rattle.page.specs.Lengths.{opened_of}
use Rattle.page.specs.Records.{record_at}
use Rattle.page.specs.declared.geometry.Geometry.{Geometry}
use Rattle.page.specs.declared.refusal.Refusal.TheVariants.{BadPage, ShortBuffer}
use Rattle.chunk.specs.Lists.{in_front}
use Rattle.chunk.specs.Moments.{is_missing, takes_at}
use Rattle.chunk.specs.declared.moment.Moment.{Moment}
use Rattle.chunk.specs.declared.takes.Takes.{Takes}
use Rattle.tree.specs.Answers.{grown_to, says_at, tree_on, rows_left, work_left}
use Rattle.tree.specs.Heads.{head_count}
use Rattle.tree.specs.Objects.{says_by, names_of}
use Rattle.tree.specs.Rows.{tree_rows}
use Rattle.tree.specs.Grown.{Grown}
use Rattle.tree.specs.Grown.{Refused}

module _ (g : Geometry) (dump : List ℕ) (m : Moment) (rows heads work : List ℕ) where
  -- an answer, and what the three slices are left as
  abbrev pub Answered : Grown → (rows heads work : List ℕ) → Type 0
  Answered r rows₁ heads₁ work₁ =
      (r ≡ tree_on g dump m (length rows) (length heads) (length work))
      × ((rows₁ ≡ rows_left g dump m rows (length heads) (length work))
      × ((heads₁ ≡ work_left g dump m (length rows) (length heads) (length work) heads)
      × (work₁ ≡ work_left g dump m (length rows) (length heads) (length work) work)))

  module _ (n : ℕ) (o : opened_of g (length dump) ≡ Ok n) where
    -- a moment whose page it lacks
    pub page_refused : is_missing n m ≡ true → Answered (Refused BadPage 0) rows heads work
    unfolding tree_on rows_left work_left
    page_refused e = (rw (o, e), (rw (o, e), (rw (o, e), rw (o, e))))

    module _ (e : is_missing n m ≡ false) where
      -- too few words
      pub room_refused :
          min (length rows) (min (length heads) (length work)) < head_count (says_at g dump m) n →
          Answered (Refused ShortBuffer (head_count (says_at g dump m) n)) rows heads work
      unfolding tree_on rows_left work_left
      room_refused h = let t = lt-ltb _ _ h in (rw (o, e, t), (rw (o, e, t), (rw (o, e, t), rw (o, e, t))))

      -- enough of them: what was made in parts of as many words, by the records that the moment takes
      pub room_enough :
          head_count (says_at g dump m) n ≤ min (length rows) (min (length heads) (length work)) → (t : Takes) → t ≡ takes_at (record_at g dump) m →
          (k : ℕ) → k ≡ head_count (says_at g dump m) n → (r : Grown) (rows₁ heads₁ work₁ : List ℕ) → r ≡ grown_to (says_by g dump t) (names_of g dump) n →
          rows₁ ≡ in_front (tree_rows (says_by g dump t) (names_of g dump) n) rows → heads₁ ≡ replicate k 0 → work₁ ≡ replicate k 0 →
          Answered r rows₁ (heads₁ ++ drop k heads) (work₁ ++ drop k work)
      unfolding tree_on rows_left work_left
      room_enough h t u k q r rows₁ heads₁ work₁ a b c d =
          let s = le-ltb _ _ h in
          let z : k - 0 ≡ k = omega arith in
          (rw (o, e, s, ← u) a, (rw (o, e, s, ← u) b, (rw (o, e, s, ← q, z, c), rw (o, e, s, ← q, z, d))))
