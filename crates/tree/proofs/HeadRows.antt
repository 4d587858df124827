-- The rows of the newest headers, by their places. The ids ascend, so that later rows are of larger objects and no object has two; and what `Heads`
-- says of members holds at each place.
use Rattle.std.specs.Prelude.{Option, Some, None}
use Prim.Native.Nat.{ℕ, ◌≤◌, ◌<◌}
use mathlib.Core.Bool.{false}
use mathlib.Core.List.{List, map}
use mathlib.Core.Logic.{⊎_elim}
use mathlib.Core.Path.{◌≡◌, refl, ap, ◌∙◌}
use native.Mathlib.Nat.{le_refl, eq-or-lt_of_le}
use native.Mathlib.Omega.{arith}
use lib.ListN.{length, get_or, length-map}
use Rattle.page.specs.declared.record.Record.{Record}
use Rattle.sort.specs.Ascending.{In}
use Rattle.sort.specs.Packed.{word_values, packed, key_of, value_of}
use Rattle.sort.proofs.Making.{map_at}
use Rattle.sort.proofs.Packing.{packed_key, packed_value}
use Rattle.sort.proofs.Places.{in_at, at_in, ascends_at}
use Rattle.chunk.specs.Live.{live_ids}
use Rattle.chunk.specs.Records.{is_gone}
use Rattle.chunk.proofs.Living.{live_in}
use Rattle.text.proofs.Order.{le_or_lt}
use Rattle.tree.specs.Heads.{object_at, said_at, Heads}
use Rattle.tree.specs.Objects.{head_of, page_of, parent_of, stand_of, stand_by, parent_in}
use Rattle.sort.specs.Search.{Sorted}
use Rattle.tree.proofs.Standing.{head_below, parent_head, stand_head}

module _ (says : ℕ → Record) (n : ℕ) (heads : List ℕ) (w : Heads says n heads) where
  -- ---- the object of a row

  module _ (i : ℕ) (h : i < length heads) where
    -- it has the row's page as its newest header
    pub head_at : head_of says n (object_at heads i) ≡ Some (value_of (get_or heads i 0))
    head_at = w.right (get_or heads i 0) (at_in i heads h)

    -- and as its page
    pub page_at_lem : page_of says n (object_at heads i) ≡ value_of (get_or heads i 0)
    page_at_lem = rw head_at

    -- it stands by that
    pub stand_at : stand_of says n (object_at heads i) ≡ stand_by (said_at says heads i)
    stand_at = stand_head says n _ _ head_at

    -- and has the parent that is named there
    pub parent_at : parent_of says n (object_at heads i) ≡ parent_in (said_at says heads i)
    parent_at = parent_head says n _ _ head_at

  -- the object of a row whose header is not gone is live
  pub row_live : (row : ℕ) → In row heads → is_gone (says (value_of row)) ≡ false → In (key_of row) (live_ids says n)
  row_live row i e = live_in says n (key_of row) record { header = value_of row; newest_header_lem = w.right row i; kept = e }

  -- ---- in what order they are

  -- objects of later rows are above those of earlier ones
  pub objects_rise : (i j : ℕ) → i < j → j < length heads → object_at heads i < object_at heads j
  objects_rise i j h k =
      let l = length-map heads key_of in
      let a = ascends_at 0 i j (map key_of heads) w.ascend h (omega arith) in
      rw (map_at key_of i heads (omega arith), map_at key_of j heads k) at a

  -- so that the rows are in order
  pub heads_sorted : Sorted heads
  heads_sorted =
      record {
        rise = λ i j l h.
            ⊎_elim (λ (e : i ≡ j). rw e (le_refl _)) (λ (k : i < j). omega (arith, objects_rise i j k h)) (eq-or-lt_of_le l);
      }

  -- and an object has one row
  pub one_row : (i j : ℕ) → i < length heads → j < length heads → object_at heads i ≡ object_at heads j → i ≡ j
  one_row i j h k e =
      ⊎_elim
      (λ (l : i ≤ j). ⊎_elim (λ (q : i ≡ j). q) (λ (m : i < j). absurd (omega (arith, objects_rise i j m k))) (eq-or-lt_of_le l))
      (λ (l : j < i). absurd (omega (arith, objects_rise j i l h)))
      (le_or_lt i j)

  -- ---- which objects have one

  -- one with a header
  pub head_stands :
      (o p : ℕ) → head_of says n o ≡ Some p → p < word_values → (i : ℕ) × (i < length heads) × (object_at heads i ≡ o) × (value_of (get_or heads i 0) ≡ p)
  head_stands o p e h =
      let s = in_at (packed o p) heads (w.all o p e) in
      (s.place, s.inside, ap key_of s.here ∙ packed_key o p h, ap value_of s.here ∙ packed_value o p h)

  -- so that one that has no row has no header
  pub no_row : n ≤ word_values → (o : ℕ) → ((i : ℕ) → i < length heads → object_at heads i ≡ o → ⊥) → head_of says n o ≡ None
  no_row small o f = go (head_of says n o) refl
    where
      go : (r : Option ℕ) → head_of says n o ≡ r → r ≡ None
      go None e = refl
      go (Some p) e = let s = head_stands o p e (omega (arith, head_below says n o p e)) in absurd (f s.0 s.1 s.2)
