-- What is answered of an accepted dump that is prepared: too few words, and enough of them. In each case the tests of the definitions are known, and so
-- is what is left of all three slices.
use Prim.Native.Nat.{ℕ, ◌-◌, ◌≤◌}
use Rattle.std.specs.Prelude.{Ok}
use mathlib.Core.Bool.{true, false, ◌&&◌}
use mathlib.Core.List.{List, ◌++◌}
use mathlib.Core.Path.{◌≡◌}
use native.Mathlib.Omega.{arith}
use borrow.Author.Tests.{leb-true}
use lib.Dec.{leb}
use lib.ListN.{length, drop, replicate}
use Rattle.page.specs.Lengths.{opened_of}
use Rattle.page.specs.Records.{record_at}
use Rattle.page.specs.declared.geometry.Geometry.{Geometry}
use Rattle.page.specs.declared.refusal.Refusal.TheVariants.{ShortBuffer}
use Rattle.page.proofs.Layouts.{and_left, and_right}
use Rattle.compare.specs.Prepared.{order, copies, work_for, is_room, records_in, prepared_on, order_left, copies_left, work_left}
use Rattle.compare.specs.Preparing.{Prepared}
use Rattle.compare.specs.Preparing.{Records, Refused}

-- ---- room

-- where there is room, each slice has enough words
pub room_has : (k a b c : ℕ) → is_room k a b c ≡ true → (k ≤ a) × (k ≤ b) × (work_for k ≤ c)
room_has k a b c e =
    let r = and_right (leb k a) (leb k b && leb (work_for k) c) e in (
      leb-true k a (and_left (leb k a) (leb k b && leb (work_for k) c) e),
      leb-true k b (and_left (leb k b) (leb (work_for k) c) r),
      leb-true (work_for k) c (and_right (leb k b) (leb (work_for k) c) r),
    )

-- ---- what is answered

module _ (g : Geometry) (dump words rows work : List ℕ) where
  -- an answer, and what the three slices are left as
  abbrev pub Answered : Prepared → (words rows work : List ℕ) → Type 0
  Answered r words₁ rows₁ work₁ =
      record {
        value : r ≡ prepared_on g dump (length words) (length rows) (length work);
        order_after : words₁ ≡ order_left g dump words (length rows) (length work);
        copies_after : rows₁ ≡ copies_left g dump rows (length words) (length work);
        work_after : work₁ ≡ work_left g dump work (length words) (length rows);
      }

  module _ (n : ℕ) (o : opened_of g (length dump) ≡ Ok n) (k : ℕ) (c : k ≡ records_in g dump n) where
    -- too few words for the records, which are k
    pub room_refused : is_room k (length words) (length rows) (length work) ≡ false → Answered (Refused ShortBuffer k) words rows work
    unfolding prepared_on order_left copies_left work_left
    room_refused e = let f = rw c at e in record { value = rw (c, o, f); order_after = rw (o, f); copies_after = rw (o, f); work_after = rw (o, f) }

    -- enough of them: what was put in the fronts of the slices, and the front of the last cleared
    pub room_enough :
        is_room k (length words) (length rows) (length work) ≡ true → (words₁ rows₁ work₁ : List ℕ) →
        words₁ ≡ order (record_at g dump) n → length words₁ ≡ k → rows₁ ≡ copies (record_at g dump) n g.layout.«data» → length rows₁ ≡ k →
        work₁ ≡ replicate (work_for k) 0 →
        Answered (Records k) (words₁ ++ drop k words) (rows₁ ++ drop k rows) (work₁ ++ drop (work_for k) work)
    unfolding prepared_on order_left copies_left work_left
    room_enough e words₁ rows₁ work₁ a la b lb d =
        let f = rw c at e in
        let z : work_for k - 0 ≡ work_for k = omega arith in
        record { value = rw (c, o, f); order_after = rw (o, f, ← a, la); copies_after = rw (o, f, ← b, lb); work_after = rw (o, f, ← c, z, d) }
