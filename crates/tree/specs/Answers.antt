-- What is answered of a dump's tree, and what the lent words hold then (document 02, item 13, and document 01's refusals).
use Rattle.std.specs.Prelude.{ℕ, min, Bool, List, [], ltb, length}
use Rattle.page.specs.Choice.{pick}
use Rattle.page.specs.Lengths.{opened_of}
use Rattle.page.specs.Records.{record_at}
use Rattle.page.specs.declared.geometry.Geometry.{Geometry}
use Rattle.page.specs.declared.record.Record.{Record}
use Rattle.page.specs.declared.refusal.Refusal.{Refusal}
use Rattle.page.specs.declared.refusal.Refusal.TheVariants.{BadPage, ShortBuffer}
use Rattle.sort.specs.Room.{in_room}
use Rattle.chunk.specs.Answers.{on_pages}
use Rattle.chunk.specs.Lists.{in_front}
use Rattle.chunk.specs.Moments.{is_missing, takes_at}
use Rattle.chunk.specs.declared.moment.Moment.{Moment}
use Rattle.tree.specs.Heads.{head_count}
use Rattle.tree.specs.Objects.{says_by, names_of}
use Rattle.tree.specs.Rows.{listed_rows, other_rows, tree_rows}
use Rattle.tree.specs.Grown.{Grown}
use Rattle.tree.specs.Grown as grown

-- how many rows each list of n pages has
abbrev pub grown_to : (says : ℕ → Record) (names : ℕ → List ℕ) (pages : ℕ) → Grown
grown_to says names n = grown.Rows (length (listed_rows says names n)) (length (other_rows says names n))

-- a dump at a moment
module _ (g : Geometry) (dump : List ℕ) (m : Moment) where
  -- what each page says then
  abbrev pub says_at : (page : ℕ) → Record
  says_at = says_by g dump (takes_at (record_at g dump) m)

  -- an answer about its tree, by the number of pages; a refused dump, and then a moment whose page it lacks, are refused before anything else
  abbrev pub on_tree : {A : Type 0} → (Refusal → A) → (ℕ → A) → A
  on_tree refuse answer = on_pages refuse (λ n. pick (is_missing n m) (refuse BadPage) (answer n)) (opened_of g (length dump))

  -- whether three slices of so many words do not all have room for as many as there are headers
  abbrev pub too_few : (rows heads work pages : ℕ) → Bool
  too_few rows heads work n = ltb (min rows (min heads work)) (head_count says_at n)

  -- the rows of both lists, and how many each has; or what is needed of each slice
  unfoldable pub tree_on : (rows heads work : ℕ) → Grown
  tree_on rows heads work =
      on_tree (λ r. grown.Refused r 0)
      (λ n.
      pick (too_few rows heads work n) (grown.Refused ShortBuffer (head_count says_at n))
      (grown_to says_at (names_of g dump) n))

  -- the words of the first slice then: the rows in front, and the rest as it was; after a refusal all as they were
  unfoldable pub rows_left : (rows : List ℕ) (heads work : ℕ) → List ℕ
  rows_left rows heads work =
      on_tree (λ r. rows) (λ n. pick (too_few (length rows) heads work n) rows (in_front (tree_rows says_at (names_of g dump) n) rows))

  -- those of the second and the third: zeros in the room that was needed, and the rest as it was
  unfoldable pub work_left : (rows heads work : ℕ) (words : List ℕ) → List ℕ
  work_left rows heads work words = on_tree (λ r. words) (λ n. pick (too_few rows heads work n) words (in_room [] (head_count says_at n) words))
