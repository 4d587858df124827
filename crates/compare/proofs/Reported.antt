-- Exactly what differs is reported: each difference that is reported of an object is so, and each that is so is reported. The report of an object that
-- both have is five lists, one for each kind of difference; each list is looked at by itself.
use Rattle.std.specs.Prelude.{Option, Some, None}
use Prim.Native.Nat.{ℕ, min}
use mathlib.Core.Bool.{Bool, true, false, ◌&&◌, and-false}
use mathlib.Core.List.{List, ◌++◌, map}
use mathlib.Core.Logic.{◌⊎◌, inl, inr, ⊎_elim}
use mathlib.Core.Path.{◌≡◌, refl}
use borrow.Author.Tests.{eqb-false, ne_eqb}
use lib.Dec.{eqb}
use Rattle.page.proofs.Searching.{clash, by_test}
use Rattle.sort.proofs.Making.{in_map, map_in}
use Rattle.sort.proofs.Times.{joined_in, in_joined}
use Rattle.sort.specs.Ascending.{In}
use Rattle.compare.specs.Views.{View}
use Rattle.compare.specs.Differences.{Side, first, second, Difference, only, deleted, headless, field, sizes, stretch, on_one, lacks, fields_of, sizes_of, stretches_of, differences_of}
use Rattle.compare.proofs.Meaning.{FieldDiffers, field_means, means_field, StretchDiffers, stretch_means, means_stretch}

-- of the two, the one of a side, and the other
abbrev pub of_side : {A : Type 0} → Side → (one other : A) → A
of_side first one other = one
of_side second one other = other

-- what is so on one side only
pub record OnlyOn (s : Side) (one other : Bool) : Type 0 where
  pub here : of_side s one other ≡ true
  pub not_there : of_side s other one ≡ false

-- both headers differ in a field
pub record FieldsDiffer (one other : Option (List ℕ)) (offset : ℕ) : Type 0 where
  pub a : List ℕ
  pub b : List ℕ
  pub one_is : one ≡ Some a
  pub other_is : other ≡ Some b
  pub differs : FieldDiffers a b offset

-- both files differ in size
pub record SizesDiffer (one other : Option ℕ) (a b : ℕ) : Type 0 where
  pub one_is : one ≡ Some a
  pub other_is : other ≡ Some b
  pub apart : a ≡ b → ⊥

-- both files differ in a stretch below the smaller size
pub record StretchesDiffer (shows shows' : ℕ → ℕ) (one other : Option ℕ) (k : ℕ) : Type 0 where
  pub a : ℕ
  pub b : ℕ
  pub one_is : one ≡ Some a
  pub other_is : other ≡ Some b
  pub differs : StretchDiffers shows shows' (min a b) k

module _ (v w : View) where
  -- what a difference says of an object that both have; of one that not both have
  abbrev pub BothDiffer : Difference → Type 0
  BothDiffer (only s) = ⊥
  BothDiffer (deleted s) = OnlyOn s v.gone w.gone
  BothDiffer (headless s) = OnlyOn s (lacks v.header) (lacks w.header)
  BothDiffer (field at) = FieldsDiffer v.header w.header at
  BothDiffer (sizes a b) = SizesDiffer v.size w.size a b
  BothDiffer (stretch k) = StretchesDiffer v.shows w.shows v.size w.size k

  abbrev pub OneHas : Difference → Type 0
  OneHas (only s) = OnlyOn s v.has w.has
  OneHas (deleted s) = ⊥
  OneHas (headless s) = ⊥
  OneHas (field at) = ⊥
  OneHas (sizes a b) = ⊥
  OneHas (stretch k) = ⊥

  -- a difference of an object
  pub data IsSo (d : Difference) : Type 0 where
    in_both : v.has ≡ true → w.has ≡ true → BothDiffer d → IsSo d
    in_one : OneHas d → IsSo d

-- ---- each part says what is so

module _ (P : Difference → Type 0) where
  -- what is told of one side is so there only
  one_says : (d : Side → Difference) (t u : Bool) → ((s : Side) → OnlyOn s t u → P (d s)) → (x : Difference) → In x (on_one d t u) → P x
  one_says d true true f x i = absurd i
  one_says d true false f x (inl e) = rw e (f first (record { here = refl; not_there = refl }))
  one_says d true false f x (inr i) = absurd i
  one_says d false true f x (inl e) = rw e (f second (record { here = refl; not_there = refl }))
  one_says d false true f x (inr i) = absurd i
  one_says d false false f x i = absurd i

  -- what is told of each of a list
  map_says : (g : ℕ → Difference) (L : List ℕ) → ((y : ℕ) → In y L → P (g y)) → (x : Difference) → In x (map g L) → P x
  map_says g L f x i = let m = map_in g x L i in rw (← m.made) (f m.from m.there)

  -- two sizes that are told differ
  sizes_says : (s t : Option ℕ) → ((a b : ℕ) → SizesDiffer s t a b → P (sizes a b)) → (x : Difference) → In x (sizes_of s t) → P x
  sizes_says (Some a) (Some b) f x i =
      by_test (eqb a b) _
      (λ t. absurd (rw t at i))
      (λ t.
      ⊎_elim
      (λ (e : x ≡ sizes a b). rw e (f a b (record { one_is = refl; other_is = refl; apart = eqb-false a b t })))
      (λ (k : ⊥). absurd k)
      (rw t at i))
  sizes_says (Some a) None f x i = absurd i
  sizes_says None t f x i = absurd i

-- what is so on one side only is told
says_one : (d : Side → Difference) (s : Side) (t u : Bool) → OnlyOn s t u → In (d s) (on_one d t u)
says_one d first true false o = inl refl
says_one d second false true o = inl refl
says_one d first true true o = let e = o.not_there in clash (cc)
says_one d second true true o = let e = o.not_there in clash (cc)
says_one d first false u o = let e = o.here in clash (cc)
says_one d second t false o = let e = o.here in clash (cc)

-- and is not so on both
not_both : (s : Side) (t u : Bool) → OnlyOn s t u → t && u ≡ false
not_both first t u o = rw o.not_there (and-false t)
not_both second t u o = rw o.not_there

-- a field that is told differs
fields_say : (s t : Option (List ℕ)) (at : ℕ) → In at (fields_of s t) → FieldsDiffer s t at
unfolding fields_of
fields_say (Some a) (Some b) at i = record { a = a; b = b; one_is = refl; other_is = refl; differs = field_means a b at i }
fields_say (Some a) None at i = absurd i
fields_say None t at i = absurd i

-- and one that differs is told
say_fields : (s t : Option (List ℕ)) (at : ℕ) → FieldsDiffer s t at → In at (fields_of s t)
say_fields s t at d = rw (d.one_is, d.other_is) (means_field d.a d.b at d.differs)

-- two sizes that differ are told
say_sizes : (s t : Option ℕ) (a b : ℕ) → SizesDiffer s t a b → In (sizes a b) (sizes_of s t)
say_sizes s t a b d = rw (d.one_is, d.other_is, ne_eqb a b d.apart) (inl refl)

module _ (f g : ℕ → ℕ) where
  -- a stretch that is told differs
  stretches_say : (s t : Option ℕ) (k : ℕ) → In k (stretches_of f g s t) → StretchesDiffer f g s t k
  unfolding stretches_of
  stretches_say (Some a) (Some b) k i = record { a = a; b = b; one_is = refl; other_is = refl; differs = stretch_means f g (min a b) k i }
  stretches_say (Some a) None k i = absurd i
  stretches_say None t k i = absurd i

  -- and one that differs is told
  say_stretches : (s t : Option ℕ) (k : ℕ) → StretchesDiffer f g s t k → In k (stretches_of f g s t)
  unfolding stretches_of
  say_stretches s t k d = rw (d.one_is, d.other_is) (means_stretch f g (min d.a d.b) k d.differs)

-- ---- all parts

module _ (v w : View) where
  -- the parts of what differs in an object that both have
  abbrev A : List Difference
  A = on_one deleted v.gone w.gone

  abbrev B : List Difference
  B = on_one headless (lacks v.header) (lacks w.header)

  abbrev C : List Difference
  C = map field (fields_of v.header w.header)

  abbrev D : List Difference
  D = sizes_of v.size w.size

  abbrev E : List Difference
  E = map stretch (stretches_of v.shows w.shows v.size w.size)

  -- whatever is reported of it is so
  both_says : (x : Difference) → In x (A ++ B ++ C ++ D ++ E) → BothDiffer v w x
  both_says x i =
      ⊎_elim
      (λ to-D.
      ⊎_elim
      (λ to-C.
      ⊎_elim
      (λ to-B.
      ⊎_elim
      (λ k. one_says (BothDiffer v w) deleted _ _ (λ s o. o) x k)
      (λ k. one_says (BothDiffer v w) headless _ _ (λ s o. o) x k)
      (in_joined x A B to-B))
      (λ k. map_says (BothDiffer v w) field (fields_of v.header w.header) (fields_say v.header w.header) x k)
      (in_joined x (A ++ B) C to-C))
      (λ k. sizes_says (BothDiffer v w) v.size w.size (λ a b o. o) x k)
      (in_joined x (A ++ B ++ C) D to-D))
      (λ k. map_says (BothDiffer v w) stretch (stretches_of v.shows w.shows v.size w.size) (stretches_say v.shows w.shows v.size w.size) x k)
      (in_joined x (A ++ B ++ C ++ D) E i)

  -- what is among the first three is among all
  up_to_fields : (x : Difference) → In x (A ++ B) ⊎ In x C → In x (A ++ B ++ C ++ D ++ E)
  up_to_fields x i = joined_in x (A ++ B ++ C ++ D) E (inl (joined_in x (A ++ B ++ C) D (inl (joined_in x (A ++ B) C i))))

  -- and what is so is reported
  says_both : (x : Difference) → BothDiffer v w x → In x (A ++ B ++ C ++ D ++ E)
  says_both (only s) o = absurd o
  says_both (deleted s) o =
      up_to_fields _ (inl (joined_in _ A B (inl (says_one deleted s _ _ o))))
  says_both (headless s) o =
      up_to_fields _ (inl (joined_in _ A B (inr (says_one headless s _ _ o))))
  says_both (field at) o =
      up_to_fields _ (inr (in_map field at (fields_of v.header w.header) (say_fields _ _ at o)))
  says_both (sizes a b) o = joined_in _ (A ++ B ++ C ++ D) E (inl (joined_in _ (A ++ B ++ C) D (inr (say_sizes _ _ a b o))))
  says_both (stretch k) o = joined_in _ (A ++ B ++ C ++ D) E (inr (in_map stretch k (stretches_of v.shows w.shows v.size w.size) (say_stretches v.shows w.shows _ _ k o)))

  -- what is reported of an object is so
  pub difference_means : (x : Difference) → In x (differences_of v w) → IsSo v w x
  unfolding differences_of
  difference_means x i =
      by_test v.has _
      (λ t.
      by_test w.has _
      (λ u. in_both t u (both_says x (rw (t, u) at i)))
      (λ u. in_one (one_says (OneHas v w) only v.has w.has (λ s o. o) x (rw (t, u) (rw (t, u) at i)))))
      (λ t. in_one (one_says (OneHas v w) only v.has w.has (λ s o. o) x (rw t (rw t at i))))

  -- and what is so is reported
  pub means_difference : (x : Difference) → IsSo v w x → In x (differences_of v w)
  unfolding differences_of
  means_difference x (in_both t u o) = rw (t, u) (says_both x o)
  means_difference (only s) (in_one o) = rw (not_both s v.has w.has o) (says_one only s v.has w.has o)
  means_difference (deleted s) (in_one o) = absurd o
  means_difference (headless s) (in_one o) = absurd o
  means_difference (field at) (in_one o) = absurd o
  means_difference (sizes a b) (in_one o) = absurd o
  means_difference (stretch k) (in_one o) = absurd o
