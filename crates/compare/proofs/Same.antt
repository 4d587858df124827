-- Nothing is reported of an object exactly if both dumps show it the same: it is in both or in neither; and where it is in both it is deleted in both
-- or in neither, has a header in both or in neither, of two headers every byte that is compared is the same, and of two live files the size and every
-- byte shown. So a dump compared with itself has an empty report.
use Rattle.std.specs.Prelude.{Option, Some, None}
use Prim.Native.Nat.{ℕ, ◌+◌, ◌-◌, ◌*◌, ◌/◌, ◌<◌, min}
use mathlib.Core.Bool.{Bool, true, false}
use mathlib.Core.List.{List, [], ◌∷◌, ◌++◌, map, cons≢nil}
use mathlib.Core.Path.{◌≡◌, refl, sym, ap, ◌∙◌}
use native.Mathlib.Omega.{arith}
use borrow.Author.Tests.{eqb-true, eq-eqb}
use lib.Dec.{eqb}
use lib.ListN.{length, length-append}
use Rattle.page.proofs.Searching.{clash, by_test}
use Rattle.sort.specs.Lists.{joined}
use Rattle.text.specs.Lines.{newline, field_of, line_of}
use Rattle.text.specs.Quoted.{bytes_of}
use Rattle.compare.specs.Views.{View, byte_of}
use Rattle.compare.specs.Differences.{Side, Difference, deleted, headless, field, stretch, on_one, lacks, fields_of, sizes_of, stretch_bytes, stretches_in, stretch_differs, stretches_of, differences_of}
use Rattle.compare.specs.Report.{lines_of, object_lines}
use Rattle.compare.proofs.Passes.{passed_nothing, nothing_passed}
use Rattle.compare.proofs.Differing.{differ_equal}
use Rattle.compare.proofs.Meaning.{differ_none, header_length, left_out, fields_same, same_fields}

-- what is the same of an object that both dumps have
pub record SameShown (v w : View) : Type 0 where
  pub gone : v.gone ≡ w.gone
  pub headed : lacks v.header ≡ lacks w.header
  pub bytes :
      (a b : List ℕ) → v.header ≡ Some a → w.header ≡ Some b → (x : ℕ) → x < header_length → left_out x ≡ false → byte_of a x ≡ byte_of b x
  pub size : (y z : ℕ) → v.size ≡ Some y → w.size ≡ Some z → y ≡ z
  pub shown : (y z : ℕ) → v.size ≡ Some y → w.size ≡ Some z → (x : ℕ) → x < min y z → v.shows x ≡ w.shows x

-- both dumps show an object the same
pub record Same (v w : View) : Type 0 where
  pub has : v.has ≡ w.has
  pub both : v.has ≡ true → w.has ≡ true → SameShown v w

-- ---- each part of what differs is empty

-- where two lists joined are empty, both are
pub joined_nil : {A : Type 0} (L M : List A) → L ++ M ≡ [] → (L ≡ []) × (M ≡ [])
joined_nil [] M e = (refl, e)
joined_nil (x ∷ L) M e = absurd (cons≢nil e)

-- where nothing is made of a list, the list is empty
map_nil : {A B : Type 0} (f : A → B) (L : List A) → map f L ≡ [] → L ≡ []
map_nil f [] e = refl
map_nil f (x ∷ L) e = absurd (cons≢nil e)

-- nothing is told of one side: it is so on both or on neither
one_nil : (d : Side → Difference) (t u : Bool) → on_one d t u ≡ [] → t ≡ u
one_nil d true true e = refl
one_nil d true false e = absurd (cons≢nil e)
one_nil d false true e = absurd (cons≢nil e)
one_nil d false false e = refl

-- and the other way round
nil_one : (d : Side → Difference) (t u : Bool) → t ≡ u → on_one d t u ≡ []
nil_one d true true e = refl
nil_one d true false e = clash (cc)
nil_one d false true e = clash (cc)
nil_one d false false e = refl

-- no sizes are told: they are the same
sizes_nil : (y z : ℕ) → sizes_of (Some y) (Some z) ≡ [] → y ≡ z
sizes_nil y z e = by_test (eqb y z) _ (eqb-true y z) (λ t. absurd (cons≢nil (rw t at e)))

-- and the other way round
nil_sizes : (s t : Option ℕ) → ((y z : ℕ) → s ≡ Some y → t ≡ Some z → y ≡ z) → sizes_of s t ≡ []
nil_sizes (Some y) (Some z) f = rw (eq-eqb y z (f y z refl refl))
nil_sizes (Some y) None f = refl
nil_sizes None t f = refl

module _ (a b : ℕ → ℕ) where
  -- no stretch is told: every byte shown is the same
  pub stretches_nil : (y z : ℕ) → stretches_of a b (Some y) (Some z) ≡ [] → (x : ℕ) → x < min y z → a x ≡ b x
  unfolding stretches_of
  stretches_nil y z e x h =
      let m = min y z in
      let k = x / stretch_bytes in
      let at : stretch_bytes * k + (x - stretch_bytes * k) ≡ x = omega arith in
      rw at at
      (differ_none a b (stretch_bytes * k) (min stretch_bytes (m - stretch_bytes * k))
      (nothing_passed (stretch_differs a b m) (λ k. k) (stretches_in m) e k (omega arith)) (x - stretch_bytes * k) (omega arith))

  -- and the other way round
  pub nil_stretches :
      (s t : Option ℕ) → ((y z : ℕ) → s ≡ Some y → t ≡ Some z → (x : ℕ) → x < min y z → a x ≡ b x) → stretches_of a b s t ≡ []
  unfolding stretches_of
  nil_stretches (Some y) (Some z) f =
      passed_nothing (stretch_differs a b (min y z)) (λ k. k) (stretches_in (min y z))
      (λ k h. differ_equal a b (stretch_bytes * k) (min stretch_bytes (min y z - stretch_bytes * k)) (λ i l. f y z refl refl _ (omega arith)))
  nil_stretches (Some y) None f = refl
  nil_stretches None t f = refl

-- no byte that is compared differs: no field is told
nil_fields :
    (s t : Option (List ℕ)) →
    ((a b : List ℕ) → s ≡ Some a → t ≡ Some b → (x : ℕ) → x < header_length → left_out x ≡ false → byte_of a x ≡ byte_of b x) →
    fields_of s t ≡ []
unfolding fields_of
nil_fields (Some a) (Some b) f = same_fields a b (f a b refl refl)
nil_fields (Some a) None f = refl
nil_fields None t f = refl

-- ---- all parts

module _ (v w : View) where
  -- the parts of what differs in an object that both have
  abbrev in_both : List Difference
  in_both =
      on_one deleted v.gone w.gone
      ++ on_one headless (lacks v.header) (lacks w.header)
      ++ map field (fields_of v.header w.header)
      ++ sizes_of v.size w.size
      ++ map stretch (stretches_of v.shows w.shows v.size w.size)

  -- nothing differs: all is the same, part after part
  shown_nil : in_both ≡ [] → SameShown v w
  shown_nil e =
      let to-stretch = joined_nil _ (map stretch (stretches_of v.shows w.shows v.size w.size)) e in
      let to-sizes = joined_nil _ (sizes_of v.size w.size) to-stretch.0 in
      let to_Fields = joined_nil _ (map field (fields_of v.header w.header)) to-sizes.0 in
      let to-headless = joined_nil _ (on_one headless (lacks v.header) (lacks w.header)) to_Fields.0 in
      let at_fields : fields_of v.header w.header ≡ [] = map_nil field _ to_Fields.1 in
      let at-stretches : stretches_of v.shows w.shows v.size w.size ≡ [] = map_nil stretch _ to-stretch.1 in
      record {
        gone = one_nil deleted _ _ to-headless.0;
        headed = one_nil headless _ _ to-headless.1;
        bytes = λ a b p q. fields_same a b (rw (p, q) at at_fields);
        size = λ y z p q. sizes_nil y z (rw (p, q) at to-sizes.1);
        shown = λ y z p q. stretches_nil v.shows w.shows y z (rw (p, q) at at-stretches);
      }

  -- and the other way round
  nil_shown : SameShown v w → in_both ≡ []
  nil_shown s =
      rw (
        nil_one deleted v.gone w.gone s.gone,
        nil_one headless (lacks v.header) (lacks w.header) s.headed,
        nil_fields v.header w.header s.bytes,
        nil_sizes v.size w.size s.size,
        nil_stretches v.shows w.shows v.size w.size s.shown,
      )

  -- where nothing differs both show the same
  pub empty_same : differences_of v w ≡ [] → Same v w
  unfolding differences_of
  empty_same e =
      by_test v.has _
      (λ t.
      by_test w.has _
      (λ u. record { has = t ∙ sym u; both = λ p q. shown_nil (rw (t, u) at e) })
      (λ u. absurd (cons≢nil (rw (t, u) at e))))
      (λ t.
      by_test w.has _
      (λ u. absurd (cons≢nil (rw (t, u) at e)))
      (λ u. record { has = t ∙ sym u; both = λ p q. let z : true ≡ false = sym p ∙ t in clash (cc) }))

  -- and the other way round
  pub same_empty : Same v w → differences_of v w ≡ []
  unfolding differences_of
  same_empty s =
      by_test v.has _
      (λ t. let u : w.has ≡ true = sym s.has ∙ t in rw (t, u) (nil_shown (s.both t u)))
      (λ t. let u : w.has ≡ false = sym s.has ∙ t in rw (t, u))

-- ---- what follows

-- an object does not differ from itself
pub itself : (v : View) → differences_of v v ≡ []
itself v =
    same_empty v v record {
      has = refl;
      both = λ p q. record {
        gone = refl;
        headed = refl;
        bytes = λ a b p q x h out. let e : Some a ≡ Some b = sym p ∙ q in let same : a ≡ b = cc in rw same;
        size = λ y z p q. let e : Some y ≡ Some z = sym p ∙ q in cc;
        shown = λ y z p q x h. refl;
      };
    }

-- a line is not empty
pub line_some : (key : List ℕ) (n : ℕ) → 0 < length (line_of key n)
unfolding line_of
line_some key n = rw (length-append (field_of key n) (newline ∷ [])) (omega arith)

-- so where the lines of an object are empty nothing differs
pub empty_report : (o : ℕ) (ds : List Difference) → object_lines o ds ≡ [] → ds ≡ []
unfolding object_lines
empty_report o [] e = refl
empty_report o (d ∷ ds) e =
    let z = ap length (joined_nil (line_of (bytes_of "object=") o) (joined lines_of (d ∷ ds)) e).0 in absurd (omega (arith, line_some (bytes_of "object=") o))

-- and the other way round
pub report_none : (o : ℕ) (ds : List Difference) → ds ≡ [] → object_lines o ds ≡ []
unfolding object_lines
report_none o ds e = rw e
