-- The whole report, over the definitions alone: it has the objects that one of both dumps has a record of, ascending, each once; it is empty exactly if
-- no object differs; a dump does not differ from itself; and both dumps exchanged are the same report with the sides exchanged.
use Prim.Native.Nat.{ℕ, zero, suc, ◌<◌}
use mathlib.Core.Bool.{true, false}
use mathlib.Core.List.{List, [], ◌∷◌, ◌++◌, map}
use mathlib.Core.Logic.{◌⊎◌, inl, inr, ⊎_elim}
use mathlib.Core.Path.{◌≡◌, refl, sym, ap, ◌∙◌}
use native.Mathlib.Nat.{le_refl}
use native.Mathlib.Numerals.{add-one}
use native.Mathlib.Omega.{arith}
use borrow.Author.Tests.{eqb-true, eqb-false, ne_eqb, not-true}
use lib.Dec.{eqb}
use Rattle.page.specs.Numbers.{bad_object}
use Rattle.page.specs.Records.{record_at}
use Rattle.page.specs.declared.geometry.Geometry.{Geometry}
use Rattle.page.specs.declared.record.Record.{Record}
use Rattle.page.proofs.Searching.{by_test}
use Rattle.page.proofs.Within.{object_within}
use Rattle.sort.specs.Arranged.{times_in}
use Rattle.sort.specs.Ascending.{In, Ascends}
use Rattle.sort.proofs.Times.{in_times, times_in_lem}
use Rattle.sort.specs.Lists.{joined}
use Rattle.chunk.specs.Live.{object_ids}
use Rattle.chunk.specs.Newest.{records}
use Rattle.chunk.specs.Records.{is_of}
use Rattle.chunk.proofs.Gathering.{since_none, since_skip}
use Rattle.chunk.proofs.Living.{record_some, objects_ascend, objects_in_lem, objects_of_lem}
use Rattle.chunk.proofs.Records.{of_object, record_good}
use Rattle.compare.specs.Views.{View, view_of}
use Rattle.compare.specs.Differences.{differences_of}
use Rattle.compare.specs.Report.{object_lines, ids_in, object_report, whole_report}
use Rattle.compare.proofs.Ids.{either_in, either_of, either_ascends, either_swap}
use Rattle.compare.proofs.Same.{joined_nil, itself, empty_report, report_none}
use Rattle.compare.proofs.Exchanged.{swapped, exchanged}

-- no page is a record of an object: it has none
pub records_none : (says : ℕ → Record) (o n : ℕ) → ((p : ℕ) → p < n → is_of o (says p) ≡ false) → records says o n ≡ 0
records_none says o zero f = since_none says o 0
records_none says o (suc n) f =
    ap (records says o) (sym (add-one n)) ∙ since_skip says o 0 n (f n (le_refl _)) ∙ records_none says o n (λ p h. f p (omega arith))

-- ---- the objects of one dump

module _ (g : Geometry) (dump : List ℕ) (n o : ℕ) where
  -- the pages, and the ids of their objects
  abbrev says : ℕ → Record
  says = record_at g dump

  abbrev ids : List ℕ
  ids = object_ids says n

  -- the object of a record is not 0
  record_named : (p : ℕ) → is_of o (says p) ≡ true → o ≡ 0 → ⊥
  record_named p t z = omega (arith, (object_within o (record_good g dump o p t)).least)

  -- so every id that is listed is one
  pub listed_good : In o ids → bad_object o ≡ false
  listed_good i = let w = (objects_of_lem says n o i).1 in record_good g dump o w.page w.passes

  -- an object whose id is not listed has no record
  pub unlisted_none : (In o ids → ⊥) → records says o n ≡ 0
  unlisted_none f =
      records_none says o n
      (λ p h.
      by_test (is_of o (says p)) _
      (λ t.
      let e = of_object o (says p) t in
      absurd (f (rw e at (objects_in_lem says n p h (λ z. record_named p t (sym e ∙ z))))))
      (λ t. t))

  -- one whose id is listed has some
  pub listed_some : In o ids → records says o n ≡ 0 → ⊥
  listed_some i = let w = (objects_of_lem says n o i).1 in record_some says o w.page n w.inside w.passes

  -- so the dump has each object that is listed
  pub listed_has : In o ids → (view_of g dump n o).has ≡ true
  unfolding view_of
  listed_has i = rw (ne_eqb (records says o n) 0 (listed_some i))

  -- and none else
  pub has_listed : (view_of g dump n o).has ≡ true → In o ids
  unfolding view_of
  has_listed t =
      let some : records says o n ≡ 0 → ⊥ = eqb-false _ _ (not-true _ t) in
      by_test (eqb (times_in o ids) 0) _
      (λ u. absurd (some (unlisted_none (λ i. let z = eqb-true (times_in o ids) 0 u in omega (arith, in_times o ids i)))))
      (λ u. let z : times_in o ids ≡ 0 → ⊥ = eqb-false _ _ u in times_in_lem o ids (omega arith))

-- ---- reports one behind the other

module _ (f : ℕ → List ℕ) where
  -- all of them are empty where the whole is
  joined_empty : (L : List ℕ) → joined f L ≡ [] → (x : ℕ) → In x L → f x ≡ []
  unfolding joined
  joined_empty [] e x i = absurd i
  joined_empty (y ∷ L) e x (inl q) = rw q (joined_nil (f y) (joined f L) e).0
  joined_empty (y ∷ L) e x (inr i) = joined_empty L (joined_nil (f y) (joined f L) e).1 x i

  -- and the other way round
  empty_joined : (L : List ℕ) → ((x : ℕ) → In x L → f x ≡ []) → joined f L ≡ []
  unfolding joined
  empty_joined [] e = refl
  empty_joined (y ∷ L) e = rw (e y (inl refl)) (empty_joined L (λ x i. e x (inr i)))

-- another report that is the same for each of them
pub joined_same : (f f' : ℕ → List ℕ) (L : List ℕ) → ((x : ℕ) → In x L → f x ≡ f' x) → joined f L ≡ joined f' L
unfolding joined
joined_same f f' [] e = refl
joined_same f f' (y ∷ L) e = rw (e y (inl refl)) (ap (λ (r : List ℕ). f' y ++ r) (joined_same f f' L (λ x i. e x (inr i))))

-- ---- two dumps

module _ (g : Geometry) (dump : List ℕ) (n : ℕ) (g' : Geometry) (dump' : List ℕ) (n' : ℕ) where
  -- an object as each dump shows it, and what differs
  abbrev one : (object : ℕ) → View
  one o = view_of g dump n o

  abbrev other : (object : ℕ) → View
  other o = view_of g' dump' n' o

  -- an id is that of an object which one of both has
  pub ids_either : (o : ℕ) → In o (ids_in g dump n g' dump' n') → ((one o).has ≡ true) ⊎ ((other o).has ≡ true)
  unfolding ids_in
  ids_either o i = ⊎_elim (λ k. inl (listed_has g dump n o k)) (λ k. inr (listed_has g' dump' n' o k)) (either_of _ o _ i)

  -- and the other way round
  pub either_ids : (o : ℕ) → ((one o).has ≡ true) ⊎ ((other o).has ≡ true) → In o (ids_in g dump n g' dump' n')
  unfolding ids_in
  either_ids o h = either_in _ o _ (⊎_elim (λ k. inl (has_listed g dump n o k)) (λ k. inr (has_listed g' dump' n' o k)) h)

  -- ascending, each once
  pub ids_ascend : Ascends 0 (ids_in g dump n g' dump' n')
  unfolding ids_in
  ids_ascend = either_ascends _ _ (objects_ascend (record_at g dump) n) (objects_ascend (record_at g' dump') n')

  -- an object that neither has does not differ
  unseen : (v w : View) → v.has ≡ false → w.has ≡ false → differences_of v w ≡ []
  unfolding differences_of
  unseen v w t u = rw (t, u)

  -- where the report is empty no object differs
  pub report_empty : whole_report g dump n g' dump' n' ≡ [] → (o : ℕ) → differences_of (one o) (other o) ≡ []
  unfolding whole_report object_report
  report_empty e o =
      let there : ((one o).has ≡ true) ⊎ ((other o).has ≡ true) → differences_of (one o) (other o) ≡ [] =
      λ h. empty_report o (differences_of (one o) (other o)) (joined_empty (object_report g dump n g' dump' n') (ids_in g dump n g' dump' n') e o (either_ids o h)) in
      by_test (one o).has _
      (λ t. there (inl t))
      (λ t. by_test (other o).has _ (λ u. there (inr u)) (λ u. unseen (one o) (other o) t u))

  -- and the other way round
  pub empty_whole : ((o : ℕ) → differences_of (one o) (other o) ≡ []) → whole_report g dump n g' dump' n' ≡ []
  unfolding whole_report object_report
  empty_whole f = empty_joined (object_report g dump n g' dump' n') (ids_in g dump n g' dump' n') (λ o i. report_none o (differences_of (one o) (other o)) (f o))

  -- both dumps exchanged have the same ids
  pub ids_exchanged : ids_in g' dump' n' g dump n ≡ ids_in g dump n g' dump' n'
  unfolding ids_in
  ids_exchanged = either_swap _ _ (objects_ascend (record_at g' dump') n') (objects_ascend (record_at g dump) n)

  -- the report with the sides of each difference exchanged
  pub whole_exchanged :
      whole_report g' dump' n' g dump n ≡ joined (λ o. object_lines o (map swapped (differences_of (one o) (other o)))) (ids_in g dump n g' dump' n')
  unfolding whole_report object_report
  whole_exchanged =
      rw ids_exchanged
      (joined_same (object_report g' dump' n' g dump n) (λ o. object_lines o (map swapped (differences_of (one o) (other o)))) (ids_in g dump n g' dump' n')
      (λ o i. ap (object_lines o) (exchanged (one o) (other o))))

-- a dump does not differ from itself
pub whole_itself : (g : Geometry) (dump : List ℕ) (n : ℕ) → whole_report g dump n g dump n ≡ []
whole_itself g dump n = empty_whole g dump n g dump n (λ o. itself (view_of g dump n o))
