-- What every layout of the table has, and every layout with room. Sizes are argued for any P and S; the table is one computed test.
use Prim.Native.Nat.{ℕ, zero, suc, ◌+◌, ◌*◌, ◌%◌, ◌<◌, ◌≤◌}
use mathlib.Core.Bool.{Bool, true, false, ◌&&◌}
use mathlib.Core.List.{List}
use mathlib.Core.Path.{◌≡◌, refl, ap}
use mathlib.Core.Logic.{⊎_elim}
use native.Mathlib.Nat.{le_of_suc-le-suc, not-suc-le-zero, eq-or-lt_of_le, le_trans, mul-le-mul_right, mul-le-mul_left}
use native.Mathlib.Omega.{arith}
use lib.Dec.{leb, ltb, eqb}
use lib.ListN.{get_or}
use borrow.Author.Tests.{leb-true, ltb-true, eqb-true}
use Rattle.page.specs.Search.{first_from}
use Rattle.page.specs.Layouts.{header_bytes, tag_length, most_bytes, page_len, layout_of, layout_at, data_sizes, spare_sizes, tag_offsets, has_sizes, number_of_sizes, number_of, roomy}
use Rattle.page.specs.declared.layout.Layout.{Layout}
use Rattle.page.proofs.Searching.{clash, first_passes}

pub and_left : (a b : Bool) → a && b ≡ true → a ≡ true
and_left true b e = refl
and_left false b e = e

pub and_right : (a b : Bool) → a && b ≡ true → b ≡ true
and_right true b e = e
and_right false b e = clash (cc)

-- the one condition on sizes, as facts
pub record Roomy (l : Layout) : Type 0 where
  pub header : header_bytes ≤ l.«data»
  pub tags : l.tag + tag_length ≤ l.spare
  pub long : page_len l ≤ most_bytes

pub roomy_facts : (l : Layout) → roomy l ≡ true → Roomy l
unfolding roomy
roomy_facts l e =
    let a = leb header_bytes l.«data» in
    let b = leb (l.tag + tag_length) l.spare in
    let c = leb (page_len l) most_bytes in
    let r = and_left (a && b) c e in
    record { header = leb-true _ _ (and_left a b r); tags = leb-true _ _ (and_right a b r); long = leb-true _ _ (and_right (a && b) c e) }

-- whether every number below n passes
unfoldable pub all_below : (ℕ → Bool) → ℕ → Bool
all_below test zero = true
all_below test (suc n) = test n && all_below test n

all_at : (test : ℕ → Bool) (n : ℕ) → all_below test n ≡ true → (k : ℕ) → k < n → test k ≡ true
unfolding all_below
all_at test zero e k h = absurd (not-suc-le-zero h)
all_at test (suc n) e k h =
    ⊎_elim
    (λ q. rw q (and_left (test n) (all_below test n) e))
    (λ lt. all_at test n (and_right (test n) (all_below test n) e) k lt)
    (eq-or-lt_of_le (le_of_suc-le-suc h))

-- every layout of the table has room: computed at each of the thirteen
pub row_roomy : (n : ℕ) → n < 13 → roomy (layout_at n) ≡ true
unfolding all_below roomy layout_at data_sizes spare_sizes tag_offsets
row_roomy n h = all_at (λ k. roomy (layout_at k)) 13 refl n h

-- and is in the table
pub row_listed : (n : ℕ) → n < 13 → number_of (layout_at n) < 13
unfolding all_below number_of_sizes first_from has_sizes layout_at data_sizes spare_sizes tag_offsets
row_listed n h = ltb-true _ _ (all_at (λ k. ltb (number_of (layout_at k)) 13) 13 refl n h)

-- the numbers of a column are below a bound, and so fit two bytes, where a computed test says so
column_below : (most : ℕ) (column : List ℕ) → all_below (λ k. ltb (get_or column k 0) most) 13 ≡ true → (n : ℕ) → n < 13 → get_or column n 0 < most
column_below most column e n h = ltb-true _ _ (all_at (λ k. ltb (get_or column k 0) most) 13 e n h)

pub column_small : (column : List ℕ) → all_below (λ k. ltb (get_or column k 0) 65536) 13 ≡ true → (n : ℕ) → n < 13 → get_or column n 0 < 65536
column_small column e n h = column_below 65536 column e n h

layout_equal : (a b c d e f : ℕ) → a ≡ d → b ≡ e → c ≡ f → layout_of a b c ≡ layout_of d e f
layout_equal a b c d e f p q r = cc

-- a layout of the table is the one at its number
pub listed_row : (l : Layout) → number_of l < 13 → layout_at (number_of l) ≡ l
unfolding number_of_sizes has_sizes
listed_row l h =
    let t = first_passes (λ n. has_sizes l.«data» l.spare l.tag (layout_at n)) 0 13 h in
    let m = layout_at (number_of l) in
    let a = eqb m.«data» l.«data» in
    let b = eqb m.spare l.spare in
    let c = eqb m.tag l.tag in
    layout_equal _ _ _ _ _ _
    (eqb-true _ _ (and_left a b (and_left (a && b) c t)))
    (eqb-true _ _ (and_right a b (and_left (a && b) c t)))
    (eqb-true _ _ (and_right (a && b) c t))

-- and has room
pub listed_roomy : (l : Layout) → number_of l < 13 → roomy l ≡ true
listed_roomy l h = rw listed_row at (row_roomy (number_of l) h)

-- a page of it has no more than 16384 data bytes
pub listed_data : (l : Layout) → number_of l < 13 → l.«data» ≤ 16384
unfolding all_below layout_at data_sizes
listed_data l h =
    let e : get_or data_sizes (number_of l) 0 ≡ l.«data» = ap (λ (k : Layout). k.«data») (listed_row l h) in
    omega (arith, e, column_below 16385 data_sizes refl (number_of l) h)

-- and a whole number of 512 of them
pub listed_whole : (l : Layout) → number_of l < 13 → l.«data» % 512 ≡ 0
unfolding all_below layout_at data_sizes
listed_whole l h =
    let e : get_or data_sizes (number_of l) 0 ≡ l.«data» = ap (λ (k : Layout). k.«data») (listed_row l h) in
    let w : get_or data_sizes (number_of l) 0 % 512 ≡ 0 = eqb-true _ _ (all_at (λ k. eqb (get_or data_sizes k 0 % 512) 0) 13 refl (number_of l) h) in
    rw e at w

-- a product is at most the product of what bounds its factors
pub product_le : {a b m n : ℕ} → a ≤ m → b ≤ n → a * b ≤ m * n
product_le {a} {b} {m} {n} p q = le_trans (mul-le-mul_right b p) (mul-le-mul_left m q)

-- a product of numbers above 0 is above 0
pub product_pos : {a b : ℕ} → 0 < a → 0 < b → 0 < a * b
product_pos {a} {b} p q = let h : 1 * 1 ≤ a * b = product_le p q in omega arith
