-- Both dumps exchanged: the same differences, each with its sides exchanged. Whether two bytes or two sizes differ does not depend on which is first,
-- so the same parts are told; what is so on one side only is told of the other.
use Rattle.std.specs.Prelude.{Option, Some, None}
use Prim.Native.Nat.{ℕ, ◌-◌, ◌*◌, min}
use mathlib.Core.Bool.{Bool, true, false, ◌&&◌, and_comm}
use mathlib.Core.List.{List, [], ◌∷◌, ◌++◌, map, map-append}
use mathlib.Core.Path.{◌≡◌, refl, sym, ap, ◌∙◌}
use native.Mathlib.Omega.{arith}
use lib.Dec.{eqb}
use Rattle.page.proofs.Searching.{by_test}
use Rattle.chunk.specs.Live.{passed}
use Rattle.compare.specs.Views.{View, byte_of}
use Rattle.compare.specs.Fields.{fields, place_of, length_of}
use Rattle.compare.specs.Differences.{Side, first, second, Difference, only, deleted, headless, field, sizes, stretch, on_one, lacks, fields_of, sizes_of, stretch_bytes, stretches_in, stretches_to, stretches_of, differences_of}
use Rattle.compare.proofs.Differing.{eqb_swap, differ_swap}

-- the other side
abbrev pub other_side : Side → Side
other_side first = second
other_side second = first

-- a difference with its sides exchanged
abbrev pub swapped : Difference → Difference
swapped (only s) = only (other_side s)
swapped (deleted s) = deleted (other_side s)
swapped (headless s) = headless (other_side s)
swapped (field at) = field at
swapped (sizes a b) = sizes b a
swapped (stretch k) = stretch k

-- ---- each part

-- what is so on one side only is told of the other
one_swap : (d : Side → Difference) → ((s : Side) → swapped (d s) ≡ d (other_side s)) → (t u : Bool) → on_one d u t ≡ map swapped (on_one d t u)
one_swap d e true true = refl
one_swap d e true false = ap (λ (x : Difference). x ∷ []) (sym (e first))
one_swap d e false true = ap (λ (x : Difference). x ∷ []) (sym (e second))
one_swap d e false false = refl

-- the same fields differ
fields_swap : (s t : Option (List ℕ)) → fields_of t s ≡ fields_of s t
unfolding fields_of
fields_swap (Some a) (Some b) = λ j. passed (λ i. differ_swap (byte_of b) (byte_of a) (place_of i) (length_of i) j) place_of fields
fields_swap (Some a) None = refl
fields_swap None (Some b) = refl
fields_swap None None = refl

-- the sizes stand the other way round
sizes_swap : (s t : Option ℕ) → sizes_of t s ≡ map swapped (sizes_of s t)
sizes_swap (Some y) (Some z) = by_test (eqb y z) _ (λ t. rw (t, eqb_swap z y ∙ t)) (λ t. rw (t, eqb_swap z y ∙ t))
sizes_swap (Some y) None = refl
sizes_swap None (Some z) = refl
sizes_swap None None = refl

module _ (a b : ℕ → ℕ) where
  -- the same stretches differ up to a size
  to_swap : (m : ℕ) → stretches_to b a m ≡ stretches_to a b m
  to_swap m = λ j. passed (λ k. differ_swap b a (stretch_bytes * k) (min stretch_bytes (m - stretch_bytes * k)) j) (λ k. k) (stretches_in m)

  -- which is the same size
  stretches_swap : (s t : Option ℕ) → stretches_of b a t s ≡ stretches_of a b s t
  unfolding stretches_of
  stretches_swap (Some y) (Some z) = let m : min z y ≡ min y z = omega arith in rw m (to_swap (min y z))
  stretches_swap (Some y) None = refl
  stretches_swap None (Some z) = refl
  stretches_swap None None = refl

-- names of fields have no side
map_fields : (L : List ℕ) → map field L ≡ map swapped (map field L)
map_fields [] = refl
map_fields (x ∷ L) = ap (λ (r : List Difference). field x ∷ r) (map_fields L)

-- nor of stretches
map_stretches : (L : List ℕ) → map stretch L ≡ map swapped (map stretch L)
map_stretches [] = refl
map_stretches (x ∷ L) = ap (λ (r : List Difference). stretch x ∷ r) (map_stretches L)

-- five lists, one behind the other
map_five :
    (A B C D E : List Difference) →
    map swapped (A ++ B ++ C ++ D ++ E) ≡ map swapped A ++ map swapped B ++ map swapped C ++ map swapped D ++ map swapped E
map_five A B C D E =
    map-append swapped (A ++ B ++ C ++ D) E
    ∙ ap (λ (r : List Difference). r ++ map swapped E)
    (map-append swapped (A ++ B ++ C) D
    ∙ ap (λ (r : List Difference). r ++ map swapped D)
    (map-append swapped (A ++ B) C ∙ ap (λ (r : List Difference). r ++ map swapped C) (map-append swapped A B)))

-- ---- all of them

-- all differences, each with its sides exchanged
pub exchanged : (v w : View) → differences_of w v ≡ map swapped (differences_of v w)
unfolding differences_of
exchanged v w =
    by_test (v.has && w.has) _
    (λ t.
    rw (
      t,
      and_comm w.has v.has ∙ t,
      one_swap deleted (λ s. refl) v.gone w.gone,
      one_swap headless (λ s. refl) (lacks v.header) (lacks w.header),
      fields_swap v.header w.header,
      sizes_swap v.size w.size,
      stretches_swap v.shows w.shows v.size w.size,
      map_five,
      ← map_fields,
      ← map_stretches,
    ))
    (λ t. rw (t, and_comm w.has v.has ∙ t) (one_swap only (λ s. refl) v.has w.has))
