-- What the differences mean, over the definitions alone: a stretch, or a field, is reported exactly if some byte of it differs, each once and in
-- ascending order; and the fields that are compared are all bytes of a header but those that document 02 leaves out.
use Rattle.std.specs.Prelude.{Option, Some, None}
use Prim.Native.Nat.{ℕ, ◌+◌, ◌-◌, ◌*◌, ◌≤◌, ◌<◌, min}
use mathlib.Core.Bool.{Bool, true, false, not, ◌&&◌, ◌||◌}
use mathlib.Core.List.{List, []}
use mathlib.Core.Path.{◌≡◌, refl, sym, ap, ◌∙◌}
use native.Mathlib.Nat.{le_refl}
use native.Mathlib.Omega.{arith}
use borrow.Author.Tests.{not-true, eqb-true, eqb-false, ne_eqb, lt-ltb, ltb-true, ltb-false, leb-true, leb-false, le-leb}
use lib.Dec.{eqb, ltb, leb}
use Rattle.page.specs.Choice.{pick}
use Rattle.page.specs.Search.{count}
use Rattle.page.proofs.Layouts.{and_left, and_right}
use Rattle.page.proofs.Searching.{clash, by_test}
use Rattle.sort.specs.Ascending.{In, Ascends}
use Rattle.compare.specs.Views.{byte_of}
use Rattle.compare.specs.Fields.{fields, field_places, field_lengths, place_of, length_of}
use Rattle.compare.specs.Differences.{differ_in, field_differs, fields_of, stretch_bytes, stretches_in, stretch_differs, stretches_to}
use Rattle.compare.proofs.Differing.{differ_equal}
use Rattle.compare.proofs.Passes.{counted_passes, passes_counted, uncounted, passed_in, passed_of, passed_nothing, nothing_passed, passed_ascends}

-- ---- bytes

module _ (a b : ℕ → ℕ) where
  -- one of so many bytes from a position on differs
  pub record Differs (from bytes : ℕ) : Type 0 where
    pub at : ℕ
    pub inside : at < bytes
    pub apart : a (from + at) ≡ b (from + at) → ⊥

  -- where the test says so one differs
  pub differ_means : (from n : ℕ) → differ_in a b from n ≡ true → Differs from n
  unfolding differ_in
  differ_means from n e =
      let w = counted_passes (λ i. not (eqb (a (from + i)) (b (from + i)))) n e in
      record { at = w.at; inside = w.inside; apart = eqb-false _ _ (not-true _ w.passes) }

  -- and where one differs the test says so
  pub means_differ : (from n : ℕ) → Differs from n → differ_in a b from n ≡ true
  unfolding differ_in
  means_differ from n w =
      passes_counted (λ i. not (eqb (a (from + i)) (b (from + i)))) n
      (record { at = w.at; inside = w.inside; passes = rw (ne_eqb (a (from + w.at)) (b (from + w.at)) w.apart) })

  -- where it does not, all are the same (the other way round is `differ_equal` of Differing)
  pub differ_none : (from n : ℕ) → differ_in a b from n ≡ false → (i : ℕ) → i < n → a (from + i) ≡ b (from + i)
  differ_none from n e i h =
      by_test (eqb (a (from + i)) (b (from + i))) _
      (eqb-true _ _)
      (λ t.
      let w : Differs from n = record { at = i; inside = h; apart = eqb-false _ _ t } in
      let z : true ≡ false = sym (means_differ from n w) ∙ e in
      clash (cc))

  -- ---- stretches

  -- a byte of stretch k, which has the positions 512 k to 512 k + 511, differs below the size m
  pub record StretchDiffers (m k : ℕ) : Type 0 where
    pub position : ℕ
    pub from : stretch_bytes * k ≤ position
    pub to : position < stretch_bytes * k + stretch_bytes
    pub inside : position < m
    pub apart : a position ≡ b position → ⊥

  -- a stretch among those that differ does
  pub stretch_means : (m k : ℕ) → In k (stretches_to a b m) → StretchDiffers m k
  stretch_means m k i =
      let p = passed_of (stretch_differs a b m) (λ k. k) (stretches_in m) k i in
      let d = differ_means (stretch_bytes * k) (min stretch_bytes (m - stretch_bytes * k)) (rw p.bears at p.passes) in
      record {
        position = stretch_bytes * k + d.at;
        from = omega arith;
        to = omega (arith, d.inside);
        inside = omega (arith, d.inside);
        apart = d.apart;
      }

  -- and one that does is among them
  pub means_stretch : (m k : ℕ) → StretchDiffers m k → In k (stretches_to a b m)
  means_stretch m k w =
      let x = w.position in
      let e : stretch_bytes * k + (x - stretch_bytes * k) ≡ x = omega (arith, w.from) in
      let d : Differs (stretch_bytes * k) (min stretch_bytes (m - stretch_bytes * k)) = record {
        at = x - stretch_bytes * k;
        inside = omega (arith, w.from, w.to, w.inside);
        apart = rw e w.apart;
      } in
      passed_in (stretch_differs a b m) (λ k. k) (stretches_in m) k record {
        page = k;
        inside = omega (arith, w.from, w.inside);
        passes = means_differ _ _ d;
        bears = refl;
      }

  -- they ascend, each once
  pub stretches_ascend : (m : ℕ) → Ascends 0 (stretches_to a b m)
  stretches_ascend m = passed_ascends (stretch_differs a b m) (λ k. k) (stretches_in m) (λ i j h k. h) (stretches_in m) (le_refl _)

-- ---- header fields

-- a byte of the field that begins at an offset differs
pub record FieldDiffers (a b : List ℕ) (offset : ℕ) : Type 0 where
  pub number : ℕ
  pub listed : number < fields
  pub begins : place_of number ≡ offset
  pub at : ℕ
  pub inside : at < length_of number
  pub apart : byte_of a (place_of number + at) ≡ byte_of b (place_of number + at) → ⊥

-- a field among those that differ does
pub field_means : (a b : List ℕ) (offset : ℕ) → In offset (fields_of (Some a) (Some b)) → FieldDiffers a b offset
unfolding fields_of
field_means a b offset i =
    let p = passed_of (field_differs a b) place_of fields offset i in
    let d = differ_means (byte_of a) (byte_of b) (place_of p.page) (length_of p.page) p.passes in
    record {
      number = p.page;
      listed = p.inside;
      begins = p.bears;
      at = d.at;
      inside = d.inside;
      apart = d.apart;
    }

-- and one that does is among them
pub means_field : (a b : List ℕ) (offset : ℕ) → FieldDiffers a b offset → In offset (fields_of (Some a) (Some b))
unfolding fields_of
means_field a b offset w =
    let d : Differs (byte_of a) (byte_of b) (place_of w.number) (length_of w.number) =
    record { at = w.at; inside = w.inside; apart = w.apart } in
    passed_in (field_differs a b) place_of fields offset
    (record { page = w.number; inside = w.listed; passes = means_differ _ _ _ _ d; bears = w.begins })

-- ---- the table of the fields, computed

-- whether x is from lo up to hi, which is not included
abbrev pub from_to : (lo hi x : ℕ) → Bool
from_to lo hi x = leb lo x && ltb x hi

-- whether byte x of a header is in a field that is compared
unfoldable pub in_field : (x : ℕ) → Bool
in_field x = ltb 0 (count (λ i. from_to (place_of i) (place_of i + length_of i) x) fields)

-- whether it is in one of those called unused, in-band, unread or reserved
abbrev pub left_out : (x : ℕ) → Bool
left_out x = from_to 0x8 0xA x || from_to 0x10A 0x10C x || from_to 0x1E8 0x1F8 x

abbrev pub header_length : ℕ
header_length = 512

-- whether byte x is in both, or in neither
misplaced : (x : ℕ) → Bool
misplaced x = pick (in_field x) (left_out x) (not (left_out x))

-- counted: none is
none_misplaced : ltb 0 (count misplaced header_length) ≡ false
unfolding misplaced in_field count place_of length_of field_places field_lengths
none_misplaced = refl

-- of two tests exactly one holds
placed : (t u : Bool) → pick t u (not u) ≡ false → t ≡ not u
placed true true e = e
placed true false e = refl
placed false true e = refl
placed false false e = sym e

-- so a byte of it is compared exactly if it is in no field that is left out
pub bytes_compared : (x : ℕ) → x < header_length → in_field x ≡ not (left_out x)
unfolding misplaced
bytes_compared x h = placed (in_field x) (left_out x) (uncounted misplaced header_length none_misplaced x h)

-- whether field i sticks out of the header
sticks_out : (i : ℕ) → Bool
sticks_out i = ltb header_length (place_of i + length_of i)

-- counted: none sticks out
none_out : ltb 0 (count sticks_out fields) ≡ false
unfolding sticks_out count place_of length_of field_places field_lengths
none_out = refl

-- so each ends within it
pub fields_inside : (i : ℕ) → i < fields → place_of i + length_of i ≤ header_length
unfolding sticks_out
fields_inside i h = ltb-false _ _ (uncounted sticks_out fields none_out i h)

-- whether a later field begins before the end of field i
early : (i j : ℕ) → Bool
early i j = ltb i j && leb (place_of j) (place_of i + (length_of i - 1))

-- some field begins before the end of field i
any_early : (i : ℕ) → Bool
any_early i = ltb 0 (count (early i) fields)

-- counted: none does
none_early : ltb 0 (count any_early fields) ≡ false
unfolding any_early early count place_of length_of field_places field_lengths
none_early = refl

-- where two tests do not both hold, and the first does, the second does not
later : (t u : Bool) → t && u ≡ false → t ≡ true → u ≡ false
later true u e f = e
later false u e f = clash (cc)

-- so the last byte of a field stands before the next field
last_before : (i j : ℕ) → i < j → j < fields → place_of i + (length_of i - 1) < place_of j
unfolding any_early early
last_before i j h k =
    let e = uncounted (early i) fields (uncounted any_early fields none_early i (omega arith)) j k in
    leb-false _ _ (later (ltb i j) (leb (place_of j) (place_of i + (length_of i - 1))) e (lt-ltb i j h))

-- a field ends where the next begins, or before
pub fields_apart : (i j : ℕ) → i < j → j < fields → place_of i + length_of i ≤ place_of j
fields_apart i j h k = omega (arith, last_before i j h k)

-- and begins before it
pub places_rise : (i j : ℕ) → i < j → j < fields → place_of i < place_of j
places_rise i j h k = omega (arith, last_before i j h k)

-- so the fields that differ ascend, each once
pub fields_ascend : (one other : Option (List ℕ)) → Ascends 0 (fields_of one other)
unfolding fields_of
fields_ascend (Some a) (Some b) = passed_ascends (field_differs a b) place_of fields places_rise fields (le_refl _)
fields_ascend (Some a) None = tt
fields_ascend None other = tt

-- where none differs, every byte that is compared is the same
pub fields_same : (a b : List ℕ) → fields_of (Some a) (Some b) ≡ [] → (x : ℕ) → x < header_length → left_out x ≡ false → byte_of a x ≡ byte_of b x
unfolding fields_of in_field
fields_same a b e x h out =
    let w = counted_passes (λ i. from_to (place_of i) (place_of i + length_of i) x) fields (bytes_compared x h ∙ ap not out) in
    let i = w.at in
    let lo : place_of i ≤ x = leb-true _ _ (and_left (leb (place_of i) x) _ w.passes) in
    let hi : x < place_of i + length_of i = ltb-true _ _ (and_right (leb (place_of i) x) _ w.passes) in
    let at : place_of i + (x - place_of i) ≡ x = omega arith in
    rw at at
    (differ_none (byte_of a) (byte_of b) (place_of i) (length_of i) (nothing_passed (field_differs a b) place_of fields e i w.inside) (x - place_of i) (omega arith))

-- where every byte that is compared is the same, none differs
pub same_fields : (a b : List ℕ) → ((x : ℕ) → x < header_length → left_out x ≡ false → byte_of a x ≡ byte_of b x) → fields_of (Some a) (Some b) ≡ []
unfolding fields_of in_field
same_fields a b f =
    passed_nothing (field_differs a b) place_of fields
    (λ i h.
    differ_equal (byte_of a) (byte_of b) (place_of i) (length_of i)
    (λ j k.
    let x = place_of i + j in
    let inside : x < header_length = omega (arith, fields_inside i h) in
    let here : from_to (place_of i) (place_of i + length_of i) x ≡ true = rw (le-leb (place_of i) x (omega arith), lt-ltb x (place_of i + length_of i) (omega arith)) in
    let t = passes_counted (λ i. from_to (place_of i) (place_of i + length_of i) x) fields (record { at = i; inside = h; passes = here }) in
    f x inside (not-true (left_out x) (sym (bytes_compared x inside) ∙ t))))
