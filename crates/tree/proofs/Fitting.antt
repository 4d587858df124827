-- The rows of a tree are no more than a dump's headers. Both lists together have each live object other than the root exactly once, so that they are
-- as long as the list of those; a live object has a live page, which is a header. The rows go by the same recursion as the entries: they are as many.
use Prim.Native.Nat.{ℕ, zero, suc, ◌+◌, ◌≤◌}
use mathlib.Core.Bool.{true, false, not}
use mathlib.Core.List.{List, [], ◌∷◌, ◌++◌}
use mathlib.Core.Logic.{inl, inr, ⊎_elim}
use mathlib.Core.Path.{◌≡◌, refl, sym, ap, ap₂, ◌∙◌}
use native.Mathlib.Nat.{le_trans}
use native.Mathlib.Omega.{arith}
use borrow.Author.Tests.{not-true, eqb-false, ne_eqb}
use lib.Dec.{eqb}
use lib.ListN.{length, length-append, length-map}
use Rattle.page.specs.declared.record.Record.{Record}
use Rattle.page.proofs.Layouts.{and_left}
use Rattle.page.proofs.Searching.{clash, by_test}
use Rattle.sort.specs.Ascending.{In}
use Rattle.sort.specs.Lists.{keep, joined}
use Rattle.sort.proofs.Lists.{keep_in, keep_of, keep_ascends, keep_few}
use Rattle.chunk.specs.Live.{live_page, live_ids, live_count}
use Rattle.chunk.proofs.Living.{count_weaker, live_ids_ascend, live_length}
use Rattle.tree.specs.Heads.{is_head, head_count}
use Rattle.tree.specs.Objects.{root, stand_of, is_standing}
use Rattle.tree.specs.Paths.{Entry, most_depth, children_of, step_to, entry_of, under, listed}
use Rattle.tree.specs.Rows.{each_at, rows_at, entry_rows, rows_under, listed_rows, other_rows, tree_rows, key_behind}
use Rattle.tree.specs.Tree.{is_in, others}
use Rattle.tree.proofs.Both.{others_of, others_live, others_ascend, one_list}
use Rattle.tree.proofs.Paths.{listed_below, listed_once, objects_of, listed_object, object_listed}
use Rattle.sort.proofs.Times.{Once, times_joined, times_out, joined_in, in_joined, ascends_once, once_length}

-- ---- how long what each of a list gives is

module _ {B : Type 0} (f : (at x : ℕ) → List ℕ) (g : ℕ → List B) (alike : (at x : ℕ) → length (f at x) ≡ length (g x)) where
  -- what each of a list gives is as long, whether by its position or not
  pub each_length : (at : ℕ) (L : List ℕ) → length (each_at f at L) ≡ length (joined g L)
  unfolding each_at joined
  each_length at [] = refl
  each_length at (x ∷ L) =
      length-append (f at x) _ ∙ ap₂ (λ a b. a + b) (alike at x) (each_length (at + length (f at x)) L) ∙ sym (length-append (g x) (joined g L))

-- ---- the live objects other than the root

module _ (says : ℕ → Record) (n : ℕ) where
  -- their ids, ascending
  abbrev pub below_root : List ℕ
  below_root = keep (λ o. not (eqb o root)) (live_ids says n)

  -- a live object has a page, which is a header
  pub live_few : length (live_ids says n) ≤ head_count says n
  unfolding live_count
  live_few = rw (live_length says n) (count_weaker (live_page says n) (is_head says) (λ p t. and_left (is_head says p) _ t) n)

  -- so that those other than the root are no more than the headers
  pub below_few : length below_root ≤ head_count says n
  below_few = le_trans (keep_few _ (live_ids says n)) live_few

module _ (says : ℕ → Record) (names : ℕ → List ℕ) (n : ℕ) where
  -- ---- both lists together

  -- the objects of both lists, one list behind the other
  abbrev both_objects : List ℕ
  both_objects = objects_of (listed says names n) ++ others says names n

  -- no object is twice in them
  both_once : Once both_objects
  both_once o =
      rw (times_joined o (objects_of (listed says names n)) (others says names n))
      (by_test (is_in o (listed says names n)) _
      (λ t.
      let none = times_out o (others says names n) (λ i. let z : true ≡ false = sym t ∙ (others_of says names n o i).2 in clash (cc)) in
      omega (arith, listed_once says names n o))
      (λ t.
      let none =
      times_out o (objects_of (listed says names n))
      (λ i. let z : true ≡ false = sym (object_listed o (listed says names n) i) ∙ t in clash (cc)) in
      omega (arith, ascends_once o 0 (others says names n) (others_ascend says names n))))

  -- a live object other than the root is there
  below_both : (o : ℕ) → In o (below_root says n) → In o both_objects
  below_both o i =
      let r = keep_of _ o (live_ids says n) i in
      joined_in o (objects_of (listed says names n)) (others says names n)
      (⊎_elim
      (λ t. inl (listed_object o (listed says names n) t))
      (λ k. inr k)
      (one_list says names n o r.0 (eqb-false o root (not-true _ r.1))).0)

  -- and nothing else is
  both_below : (o : ℕ) → In o both_objects → In o (below_root says n)
  both_below o i =
      ⊎_elim
      (λ k. let b = listed_below says names n o (object_listed o (listed says names n) k) in below b.live b.not_root)
      (λ k. let r = others_live says names n o k in below r.0 r.1)
      (in_joined o (objects_of (listed says names n)) (others says names n) i)
    where
      below : In o (live_ids says n) → (o ≡ root → ⊥) → In o (below_root says n)
      below l r = keep_in _ o (live_ids says n) l (rw (ne_eqb o root r))

  -- the two lists are as long as the live objects other than the root are many
  pub entries_all : length (listed says names n) + length (others says names n) ≡ length (below_root says n)
  entries_all =
      let ascend = keep_ascends _ 0 (live_ids says n) (live_ids_ascend says n) in
      let e = once_length both_objects (below_root says n) both_once (λ o. ascends_once o 0 (below_root says n) ascend) both_below below_both in
      omega (arith, length-append (objects_of (listed says names n)) (others says names n), length-map (listed says names n) (λ e. e.object))

  -- ---- their rows

  -- an object has as many rows as entries, if what is below it has
  pub row_length :
      (rowsBelow : (key object at : ℕ) → List ℕ) (below : (path : List ℕ) (object : ℕ) → List Entry) →
      ((key d at : ℕ) (path : List ℕ) → length (rowsBelow key d at) ≡ length (below path d)) → (key : ℕ) (path : List ℕ) (at o : ℕ) →
      length (rows_at says names n rowsBelow key at o) ≡ length (entry_of says names n below path o)
  unfolding rows_at entry_of
  row_length rowsBelow below alike key path at o =
      by_test (is_standing (stand_of says n o)) _
      (λ t. rw t (ap suc (alike (key_behind at) o (at + 1) (path ++ step_to says names n o))))
      (λ t. rw t)

  -- there are as many rows of a directory as entries, whatever its path
  pub rows_length : (k key d at : ℕ) (path : List ℕ) → length (rows_under says names n k key d at) ≡ length (under says names n k path d)
  unfolding rows_under under
  rows_length zero key d at path = refl
  rows_length (suc k) key d at path =
      each_length (entry_rows says names n k key) (entry_of says names n (under says names n k) path)
      (row_length (rows_under says names n k) (under says names n k) (rows_length k) key path)
      at (children_of says names n d)

  -- as many rows of the first list as entries
  pub listed_rows_length : length (listed_rows says names n) ≡ length (listed says names n)
  unfolding listed_rows listed
  listed_rows_length = rows_length most_depth 0 root 0 []

  -- and of the second as objects
  pub other_rows_length : length (other_rows says names n) ≡ length (others says names n)
  unfolding other_rows
  other_rows_length = length-map (others says names n) _

  -- as many rows as live objects other than the root
  pub rows_all : length (tree_rows says names n) ≡ length (below_root says n)
  unfolding tree_rows
  rows_all =
      length-append (listed_rows says names n) (other_rows says names n)
      ∙ ap₂ (λ a b. a + b) listed_rows_length other_rows_length
      ∙ entries_all

  -- and no more than headers
  pub rows_fit : length (tree_rows says names n) ≤ head_count says n
  rows_fit = rw rows_all (below_few says n)
