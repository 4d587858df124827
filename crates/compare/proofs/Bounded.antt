-- How long the report of an object is at most. A line has its key, the digits of a number and its end; a number below a power of ten has so many digits
-- at most. So the lines that an object can have once are bounded together, and each stretch has one line.
use Prim.Native.Nat.{ℕ, zero, suc, ◌+◌, ◌*◌, ◌^◌, ◌≤◌, ◌<◌, min, zero-le}
use Rattle.std.specs.Prelude.{Option, Some, None}
use mathlib.Core.Bool.{Bool, true, false, ◌&&◌}
use mathlib.Core.List.{List, [], map}
use mathlib.Core.Path.{◌≡◌, sym, ap, ◌∙◌}
use native.Mathlib.Nat.{suc-mul}
use native.Mathlib.Numerals.{add-one}
use native.Mathlib.Omega.{arith}
use lib.Dec.{eqb}
use lib.ListN.{length, length-append}
use Rattle.page.specs.Records.{record_at}
use Rattle.page.specs.declared.geometry.Geometry.{Geometry}
use Rattle.page.proofs.Searching.{by_test}
use Rattle.sort.specs.Lists.{joined}
use Rattle.sort.specs.Packed.{value_of}
use Rattle.text.specs.Lines.{line_of}
use Rattle.text.specs.Quoted.{bytes_of}
use Rattle.text.proofs.Lines.{line_length}
use Rattle.compare.specs.Bounds.{line_bytes, most_of, Small}
use Rattle.compare.specs.Differences.{Difference, Side, first, second, only, deleted, headless, field, stretch, on_one, lacks, field_differs, fields_of, sizes_of, stretch_differs, stretches_in, stretches_to, stretches_of, differences_of}
use Rattle.compare.specs.Fields.{fields, place_of}
use Rattle.compare.specs.Heads.{Head, head_from, size_by}
use Rattle.compare.specs.Report.{lines_of, side_number}
use Rattle.compare.specs.Sides.{side_of}
use Rattle.compare.specs.Views.{View}
use Rattle.compare.proofs.Heads.{head_size}
use Rattle.compare.proofs.Lining.{five, name_short}
use Rattle.compare.proofs.Meaning.{fields_inside}
use Rattle.compare.proofs.PassedLines.{lines_to, lines_none, lines_more}

-- lines of no more than so many bytes each
module _ {A : Type 0} (lines : A → List ℕ) (of : ℕ → A) (test : ℕ → Bool) (id : ℕ → ℕ) (c : ℕ) where
  -- are no more bytes than so many for each
  passed_most : (n : ℕ) → ((i : ℕ) → i < n → length (lines (of (id i))) ≤ c) → length (lines_to lines of test id n) ≤ n * c
  passed_most zero h = rw (lines_none lines of test id) zero-le
  passed_most (suc n) h =
      let before = passed_most n (λ i k. h i (omega arith)) in
      let last = h n (omega arith) in
      rw (← add-one n, lines_more lines of test id n, length-append)
      (by_test (test n) _
      (λ t. rw t (omega (arith, before, last, suc-times n)))
      (λ t. rw t (omega (arith, before, suc-times n))))
    where
      suc-times : (n : ℕ) → (n + 1) * c ≡ n * c + c
      suc-times n = rw add-one (suc-mul n c)

-- what is so on one side only
module _ (d : Side → Difference) (c : ℕ) (one : (s : Side) → length (lines_of (d s)) ≤ c) where
  -- has no more bytes than its line
  side_most : (a b : Bool) → length (joined lines_of (on_one d a b)) ≤ c
  unfolding joined
  side_most true true = zero-le
  side_most true false = rw length-append (omega (arith, one first))
  side_most false true = rw length-append (omega (arith, one second))
  side_most false false = zero-le

-- the number of a side has one digit
number_few : (s : Side) → side_number s < 10 ^ 1
number_few first = omega arith
number_few second = omega arith

-- that it is there
only_most : (a b : Bool) → length (joined lines_of (on_one only a b)) ≤ 20
unfolding lines_of
only_most = side_most only 20 (λ s. omega (arith, line_length (bytes_of "only=") 0 (side_number s) (number_few s)))

-- that it is deleted
deleted_most : (a b : Bool) → length (joined lines_of (on_one deleted a b)) ≤ 20
unfolding lines_of
deleted_most = side_most deleted 20 (λ s. omega (arith, line_length (bytes_of "deleted=") 0 (side_number s) (number_few s)))

-- that it has no header
headless_most : (a b : Bool) → length (joined lines_of (on_one headless a b)) ≤ 20
unfolding lines_of
headless_most = side_most headless 20 (λ s. omega (arith, line_length (bytes_of "noheader=") 0 (side_number s) (number_few s)))

-- where nothing differs there are no bytes
none_most : {n : ℕ} → length (joined lines_of []) ≤ n
unfolding joined
none_most = zero-le

-- the fields
fields_most : (a b : Option (List ℕ)) → length (joined lines_of (map field (fields_of a b))) ≤ 180
unfolding fields_of lines_of
fields_most (Some a) (Some b) =
    passed_most lines_of field (field_differs a b) place_of 10 fields
    (λ i h. omega (arith, line_length (bytes_of "field=") 2 (place_of i) (omega (arith, fields_inside i h))))
fields_most (Some a) None = none_most
fields_most None b = none_most

-- the sizes, which are words
sizes_most : (y z : ℕ) → y < 10 ^ 20 → z < 10 ^ 20 → length (joined lines_of (sizes_of (Some y) (Some z))) ≤ 60
unfolding joined lines_of
sizes_most y z h k =
    by_test (eqb y z) _
    (λ t. rw t zero-le)
    (λ t. rw (t, length-append, length-append) (omega (arith, line_length (bytes_of "size=") 19 y h, line_length (bytes_of "size=") 19 z k)))

-- the stretches
stretches_most : (a b : ℕ → ℕ) (m : ℕ) → stretches_in m < 10 ^ 20 → length (joined lines_of (map stretch (stretches_to a b m))) ≤ stretches_in m * line_bytes
unfolding lines_of
stretches_most a b m h =
    passed_most lines_of stretch (stretch_differs a b m) (λ k. k) line_bytes (stretches_in m)
    (λ i k. omega (arith, line_length (bytes_of "stretch=") 19 i (omega arith)))

-- sizes and stretches
contents_most :
    (a b : ℕ → ℕ) (s t : Option ℕ) → Small s t →
    length (joined lines_of (sizes_of s t)) + length (joined lines_of (map stretch (stretches_of a b s t))) + 900 ≤ most_of s t
unfolding stretches_of
contents_most a b None t h = omega (arith, none_most {n = 0})
contents_most a b (Some y) None h = omega (arith, none_most {n = 0})
contents_most a b (Some y) (Some z) h =
    let small = h.0 in
    let small' = h.1 in
    omega (arith, sizes_most y z (omega arith) (omega arith), stretches_most a b (min y z) (omega arith))

-- all that differs, with the object's line
pub report_most :
    (o : ℕ) → o < 4294967296 → (v w : View) → Small v.size w.size →
    length (line_of (bytes_of "object=") o) + length (joined lines_of (differences_of v w)) ≤ most_of v.size w.size
unfolding differences_of
report_most o small v w h =
    let contents = contents_most v.shows w.shows v.size w.size h in
    by_test (v.has && w.has) _
    (λ t.
    rw t
    (rw (five _ _ _ _ _, length-append, length-append, length-append, length-append)
    (omega (
      arith,
      name_short o small,
      deleted_most v.gone w.gone,
      headless_most (lacks v.header) (lacks w.header),
      fields_most v.header w.header,
      contents,
    ))))
    (λ t. rw t (omega (arith, name_short o small, only_most v.has w.has, contents)))

-- one object by its words on each side, by the headers and the sizes that were found
pub sides_most :
    (o : ℕ) → o < 4294967296 → (g : Geometry) (dump L C : List ℕ) (g' : Geometry) (dump' L' C' : List ℕ) (one other : Head) (y z : Option ℕ) →
    one ≡ head_from (record_at g dump) g.layout.«data» 0 (map value_of L) →
    other ≡ head_from (record_at g' dump') g'.layout.«data» 0 (map value_of L') →
    y ≡ size_by (record_at g dump) one →
    z ≡ size_by (record_at g' dump') other →
    Small y z →
    length (line_of (bytes_of "object=") o) + length (joined lines_of (differences_of (side_of g dump L C) (side_of g' dump' L' C'))) ≤ most_of y z
unfolding side_of
sides_most o small g dump L C g' dump' L' C' one other y z e f a b h =
    let s : y ≡ (side_of g dump L C).size = a ∙ ap (size_by (record_at g dump)) e ∙ sym (head_size (record_at g dump) g.layout.«data» (map value_of L)) in
    let t : z ≡ (side_of g' dump' L' C').size = b ∙ ap (size_by (record_at g' dump')) f ∙ sym (head_size (record_at g' dump') g'.layout.«data» (map value_of L')) in
    rw (s, t) (report_most o small (side_of g dump L C) (side_of g' dump' L' C') (rw (s, t) at h))
