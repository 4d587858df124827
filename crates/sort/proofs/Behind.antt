-- Words from a place on: two lists that are the same there, and what stands there once a word is stored.
use Prim.Native.Nat.{ℕ, zero, suc, ◌+◌, ◌-◌, ◌≤◌, ◌<◌}
use mathlib.Core.List.{List, [], ◌∷◌}
use mathlib.Core.Path.{◌≡◌, sym, ap, ◌∙◌}
use native.Mathlib.Omega.{arith}
use lib.ListN.{length, take, drop, set, get_or, length-take, drop_of_length-le}
use lib.Seq.{set_split, drop_at, length-take-le, get_or-drop, take-nil}

-- of the first n words none is left from n on
pub none_left : (i n : ℕ) (w : List ℕ) → n ≤ i → drop i (take n w) ≡ []
none_left i n w h = drop_of_length-le (take n w) {i = i} (omega (arith, length-take n w))

-- and those left from i on are the first of the words from there on
drop_take : (i n : ℕ) (w : List ℕ) → drop i (take n w) ≡ take (n - i) (drop i w)
drop_take zero n w = let e : n - 0 ≡ n = omega arith in rw e
drop_take (suc i) zero w = let e : 0 - suc i ≡ 0 = omega arith in rw e
drop_take (suc i) (suc n) [] = sym (take-nil (suc n - suc i))
drop_take (suc i) (suc n) (x ∷ w) = let e : suc n - suc i ≡ n - i = omega arith in rw e (drop_take i n w)

-- words that are the same from i on: those of the first n that are left, and each word
module _ (w v : List ℕ) (i : ℕ) (same : drop i w ≡ drop i v) where
  pub left_same : (n : ℕ) → drop i (take n w) ≡ drop i (take n v)
  left_same n = drop_take i n w ∙ ap (take (n - i)) same ∙ sym (drop_take i n v)

  pub behind_same : (k : ℕ) → i ≤ k → get_or w k 0 ≡ get_or v k 0
  behind_same k h =
      let e : i + (k - i) ≡ k = omega arith in
      rw e at (sym (get_or-drop i w (k - i) 0) ∙ ap (λ (x : List ℕ). get_or x (k - i) 0) same ∙ get_or-drop i v (k - i) 0)

-- from a stored word on it stands in front
pub drop_set_at : (w : List ℕ) (j a : ℕ) → j < length w → drop j (set w j a) ≡ a ∷ drop (suc j) w
drop_set_at w j a h =
    ap (λ (r : List ℕ). drop j r) (set_split w j a h) ∙ drop_at (take j w) (a ∷ drop (suc j) w) j (length-take-le j w (omega arith))
