-- How many bytes differ: the counts of two ranges side by side add up, and a count goes by the bytes alone, wherever they stand. So a part that is
-- compared block by block is compared whole, and behind the ends of both parts nothing differs.
use Prim.Native.Nat.{ℕ, zero, suc, ◌+◌, ◌-◌, ◌≤◌, ◌<◌, max}
use mathlib.Core.Bool.{Bool, true, false, not}
use mathlib.Core.List.{List}
use mathlib.Core.Path.{◌≡◌, refl, ap, sym, ◌∙◌}
use native.Mathlib.Nat.{add-zero, zero-add, add_assoc}
use native.Mathlib.Numerals.{add-one}
use native.Mathlib.Omega.{arith}
use borrow.Author.Tests.{lt-ltb, eqb-true, eqb-false, eq-eqb, ne_eqb}
use lib.Dec.{eqb, ltb}
use lib.ListN.{length, take, drop, length-take, length-drop, get_or-eq_default}
use lib.Seq.{get_or-take, get_or-drop}
use Rattle.std.specs.Int.{from_bool}
use Rattle.page.specs.Search.{more}
use Rattle.page.proofs.Searching.{by_test, count_none, count_step, count_le}
use Rattle.compare.specs.Views.{byte_of}
use Rattle.compare.specs.Differences.{differ_in}
use Rattle.compare.specs.Parts.{differing, zeros, Shows}

-- one more where a test holds, as a sum
more_sum : (b : Bool) (n : ℕ) → more b n ≡ n + more b 0
more_sum true n = refl
more_sum false n = sym (add-zero n)

-- and so is the number of a test
one_more : (b : Bool) → from_bool b ≡ more b 0
one_more true = refl
one_more false = refl

-- it does not matter which of two numbers is first
pub eqb_swap : (x y : ℕ) → eqb x y ≡ eqb y x
eqb_swap x y =
    by_test (eqb x y) _
    (λ t. t ∙ sym (eq-eqb y x (sym (eqb-true x y t))))
    (λ t. t ∙ sym (ne_eqb y x (λ e. eqb-false x y t (sym e))))

module _ (a b : ℕ → ℕ) where
  -- of no bytes none differ
  pub differing_none : (from : ℕ) → differing a b from 0 ≡ 0
  unfolding differing
  differing_none from = count_none _

  -- one byte more counts where it differs
  differing_more : (from n : ℕ) → differing a b from (n + 1) ≡ differing a b from n + more (not (eqb (a (from + n)) (b (from + n)))) 0
  unfolding differing
  differing_more from n = count_step (λ i. not (eqb (a (from + i)) (b (from + i)))) n ∙ more_sum (not (eqb (a (from + n)) (b (from + n)))) (differing a b from n)

  -- no more differ than there are
  differing_le : (from n : ℕ) → differing a b from n ≤ n
  unfolding differing
  differing_le from n = count_le _ n

  -- a count with one byte more
  pub counted :
      (from n sum one : ℕ) → sum ≡ differing a b from n → one ≡ from_bool (not (eqb (a (from + n)) (b (from + n)))) → sum + one ≡ differing a b from (n + 1)
  counted from n sum one e f = rw (e, f, one_more) (sym (differing_more from n))

  -- and the count is no more than the bytes
  pub counted_le : (from n sum one : ℕ) → sum ≡ differing a b from n → one ≡ from_bool (not (eqb (a (from + n)) (b (from + n)))) → sum + one ≤ n + 1
  counted_le from n sum one e f = rw (counted from n sum one e f) (differing_le from (n + 1))

  -- two ranges side by side
  differing_add : (from m n : ℕ) → differing a b from (m + n) ≡ differing a b from m + differing a b (from + m) n
  differing_add from m zero = rw (add-zero, differing_none (from + m), add-zero)
  differing_add from m (suc n) =
      let step = differing_more from (m + n) in
      let last = rw add_assoc at (differing_more (from + m) n) in
      rw (← add-one n, ← add_assoc m n 1) (omega (arith, step, last, differing_add from m n))

  -- some differ where the count is above 0
  differ_in_lem : (from n : ℕ) → differ_in a b from n ≡ ltb 0 (differing a b from n)
  unfolding differing differ_in
  differ_in_lem from n = refl

  -- all of a range, by two ranges side by side
  parts_of : (i all : ℕ) → i ≤ all → differing a b 0 all ≡ differing a b 0 i + differing a b i (all - i)
  parts_of i all h =
      let e : all ≡ i + (all - i) = omega arith in
      ap (differing a b 0) e ∙ differing_add 0 i (all - i) ∙ rw zero-add

  -- some of a range differ where some of a part of it do
  pub differ_found : (i n all sum : ℕ) → i + n ≤ all → sum ≡ differing a b i n → 0 < sum → true ≡ differ_in a b 0 all
  differ_found i n all sum h d some =
      let e : all - i ≡ n + (all - (i + n)) = omega arith in
      let more = ap (differing a b i) e ∙ differing_add i n (all - (i + n)) in
      let found : 0 < differing a b 0 all = omega (arith, parts_of i all (omega arith), more) in
      sym (differ_in_lem 0 all ∙ lt-ltb _ _ found)

  -- where none of the first i differ, none of the first i + n do if none of the next n do
  pub differing_on : (i n sum : ℕ) → differing a b 0 i ≡ 0 → sum ≡ differing a b i n → sum ≤ 0 → differing a b 0 (i + n) ≡ 0
  differing_on i n sum d e h = let more = differing_add 0 i n in omega (arith, rw zero-add at more)

  -- and the rest decides
  pub differ_rest : (i all : ℕ) → i ≤ all → differing a b 0 i ≡ 0 → differ_in a b i (all - i) ≡ differ_in a b 0 all
  differ_rest i all h d =
      let e : differing a b i (all - i) ≡ differing a b 0 all = omega (arith, parts_of i all h) in
      differ_in_lem i (all - i) ∙ ap (ltb 0) e ∙ sym (differ_in_lem 0 all)

  -- as its count says
  pub differ_last : (i all sum : ℕ) → i ≤ all → differing a b 0 i ≡ 0 → sum ≡ differing a b i (all - i) → ltb 0 sum ≡ differ_in a b 0 all
  differ_last i all sum h d e = ap (ltb 0) e ∙ sym (differ_in_lem i (all - i)) ∙ differ_rest i all h d

  -- equal bytes do not differ
  differing_equal : (from n : ℕ) → ((i : ℕ) → i < n → a (from + i) ≡ b (from + i)) → differing a b from n ≡ 0
  differing_equal from zero s = differing_none from
  differing_equal from (suc n) s =
      rw (← add-one n, differing_more from n, differing_equal from n (λ i h. s i (omega arith)), eq-eqb _ _ (s n (omega arith)))

  -- nor does any of them differ
  pub differ_equal : (from n : ℕ) → ((i : ℕ) → i < n → a (from + i) ≡ b (from + i)) → differ_in a b from n ≡ false
  differ_equal from n s = differ_in_lem from n ∙ rw (differing_equal from n s)

-- the bytes alone decide, wherever they stand
differing_same :
    (a b f g : ℕ → ℕ) (p q n : ℕ) →
    ((i : ℕ) → i < n → a (p + i) ≡ f (q + i)) →
    ((i : ℕ) → i < n → b (p + i) ≡ g (q + i)) →
    differing a b p n ≡ differing f g q n
differing_same a b f g p q zero s t = differing_none a b p ∙ sym (differing_none f g q)
differing_same a b f g p q (suc n) s t =
    let before = differing_same a b f g p q n (λ i h. s i (omega arith)) (λ i h. t i (omega arith)) in
    rw (← add-one n, differing_more a b p n, differing_more f g q n, before, s n (omega arith), t n (omega arith))

-- so do they for whether some differ
pub differ_same :
    (a b f g : ℕ → ℕ) (p q n : ℕ) →
    ((i : ℕ) → i < n → a (p + i) ≡ f (q + i)) →
    ((i : ℕ) → i < n → b (p + i) ≡ g (q + i)) →
    differ_in a b p n ≡ differ_in f g q n
differ_same a b f g p q n s t = differ_in_lem a b p n ∙ ap (ltb 0) (differing_same a b f g p q n s t) ∙ sym (differ_in_lem f g q n)

-- which side is the first does not matter
differing_swap : (a b : ℕ → ℕ) (from n : ℕ) → differing a b from n ≡ differing b a from n
differing_swap a b from zero = differing_none a b from ∙ sym (differing_none b a from)
differing_swap a b from (suc n) =
    rw (← add-one n, differing_more a b from n, differing_more b a from n, differing_swap a b from n, eqb_swap (a (from + n)) (b (from + n)))

-- nor for whether some differ
pub differ_swap : (a b : ℕ → ℕ) (from n : ℕ) → differ_in a b from n ≡ differ_in b a from n
differ_swap a b from n = differ_in_lem a b from n ∙ ap (ltb 0) (differing_swap a b from n) ∙ sym (differ_in_lem b a from n)

-- a part shows the bytes from its begin on, up to its end
pub part_shows : (bytes : List ℕ) (from n : ℕ) → Shows (take n (drop from bytes)) (byte_of bytes) from n
part_shows bytes from n =
    record {
      short = rw (length-take n (drop from bytes)) (omega arith);
      at = λ i h. get_or-take n (drop from bytes) i 0 h ∙ get_or-drop from bytes i 0;
    }

-- behind the ends of both parts nothing differs
pub differ_ends : (p q : List ℕ) (n : ℕ) → length p ≤ n → length q ≤ n → differ_in (byte_of p) (byte_of q) 0 (max (length p) (length q)) ≡ differ_in (byte_of p) (byte_of q) 0 n
differ_ends p q n h k =
    let m = max (length p) (length q) in
    let none : differing (byte_of p) (byte_of q) m (n - m) ≡ 0 =
    differing_equal (byte_of p) (byte_of q) m (n - m) (λ i l. get_or-eq_default p 0 (omega arith) ∙ sym (get_or-eq_default q 0 (omega arith)))
    in
    let e : differing (byte_of p) (byte_of q) 0 m ≡ differing (byte_of p) (byte_of q) 0 n = omega (arith, parts_of (byte_of p) (byte_of q) m n (omega arith)) in
    differ_in_lem (byte_of p) (byte_of q) 0 m ∙ ap (ltb 0) e ∙ sym (differ_in_lem (byte_of p) (byte_of q) 0 n)

-- parts that show the same number of bytes differ where those do
pub shown_differ :
    {p q : List ℕ} {f g : ℕ → ℕ} {from n : ℕ} → Shows p f from n → Shows q g from n → differ_in (byte_of p) (byte_of q) 0 (max (length p) (length q)) ≡ differ_in f g from n
shown_differ {p} {q} {f} {g} {from} {n} s t =
    differ_ends p q n s.short t.short
    ∙ differ_same (byte_of p) (byte_of q) f g 0 from n (λ i h. rw (zero-add i) (s.at i h)) (λ i h. rw (zero-add i) (t.at i h))

-- the longer of two parts, behind the end of the shorter
pub differ_behind :
    (a b : List ℕ) (i sum : ℕ) →
    length b ≤ length a →
    i ≤ length b →
    differing (byte_of a) (byte_of b) 0 i ≡ 0 →
    sum ≡ differing (byte_of a) (byte_of b) i (length b - i) →
    sum ≤ 0 →
    let rest = take (length a - length b) (drop (length b) a) in differ_in (byte_of rest) zeros 0 (length rest) ≡ differ_in (byte_of a) (byte_of b) 0 (length a)
differ_behind a b i sum h k d e z =
    let n = length a - length b in
    let whole : i + (length b - i) ≡ length b = omega arith in
    let none = rw whole at (differing_on (byte_of a) (byte_of b) i (length b - i) sum d e z) in
    let long : length (take n (drop (length b) a)) ≡ n = simp (length-take, length-drop) (omega arith) in
    rw long
    (differ_same (byte_of (take n (drop (length b) a))) zeros (byte_of a) (byte_of b) 0 (length b) n
    (λ j l. rw (zero-add j) ((part_shows a (length b) n).at j l))
    (λ j l. sym (get_or-eq_default b 0 (omega arith)))
    ∙ differ_rest (byte_of a) (byte_of b) (length b) (length a) h none)
