-- The words of copies, one store at a time: what a walk puts. Where n copies are put, the first n words are their keys, from the last to the
-- first, the next n their rows, and all behind those is as it was.
use Prim.Native.Nat.{ℕ, suc, ◌+◌, ◌-◌, ◌≤◌}
use mathlib.Core.Bool.{Bool, true, false}
use mathlib.Core.List.{List, [], ◌∷◌, ◌++◌, map, append_assoc, append-nil}
use mathlib.Core.Path.{◌≡◌, refl, sym, ap, ◌∙◌}
use native.Mathlib.Omega.{arith}
use lib.Dec.{ltb}
use lib.ListN.{length, take, drop, set, length-set, length-drop, drop_of_length-le}
use lib.Seq.{sets, sets-eq, take-set-le, take-set-lt, drop-set-add, drop-set-lt, length-take-le, drop-drop}
use borrow.Author.Tests.{lt-ltb}
use Rattle.sort.specs.Packed.{packed}
use Rattle.sort.proofs.Arranging.{backwards}
use Rattle.sort.proofs.Behind.{drop_set_at}
use Rattle.file.specs.Copies.{packed_copy, put_copy, put_from, room_for}
use Rattle.file.specs.declared.copy.Copy.{Copy}

-- putting no copy, one, and some after others
module _ (n : ℕ) where
  pub put_none : (w : List ℕ) (i : ℕ) → put_from n w i [] ≡ w
  unfolding put_from
  put_none w i = refl

  pub put_one : (w : List ℕ) (i : ℕ) (x : Copy) → put_from n w i (x ∷ []) ≡ put_copy n w i x
  unfolding put_from
  put_one w i x = refl

  pub put_on : (w : List ℕ) (i : ℕ) (L M : List Copy) → put_from n w i (L ++ M) ≡ put_from n (put_from n w i L) (i + length L) M
  unfolding put_from
  put_on w i [] M = let e : i + 0 ≡ i = omega arith in rw e
  put_on w i (x ∷ L) M = let e : i + suc (length L) ≡ suc i + length L = omega arith in rw e (put_on (put_copy n w i x) (suc i) L M)

  -- copies put leave the length
  pub one_length : (w : List ℕ) (i : ℕ) (x : Copy) (t : Bool) → ltb i n ≡ t → length (put_copy n w i x) ≡ length w
  one_length w i x true e = rw e (length-set (set w (n - 1 - i) _) _ _ ∙ length-set w (n - 1 - i) _)
  one_length w i x false e = rw e

  pub put_length : (w : List ℕ) (i : ℕ) (L : List Copy) → length (put_from n w i L) ≡ length w
  unfolding put_from
  put_length w i [] = refl
  put_length w i (x ∷ L) = put_length (put_copy n w i x) (suc i) L ∙ one_length w i x _ refl

-- the keys of copies from number i on
abbrev pub keys_from : ℕ → List Copy → List ℕ
keys_from i [] = []
keys_from i (x ∷ L) = packed x.chunk i ∷ keys_from (suc i) L

pub keys_length : (i : ℕ) (L : List Copy) → length (keys_from i L) ≡ length L
keys_length i [] = refl
keys_length i (x ∷ L) = ap suc (keys_length (suc i) L)

pub rows_length : (L : List Copy) → length (map packed_copy L) ≡ length L
rows_length [] = refl
rows_length (x ∷ L) = ap suc (rows_length L)

module _ (n : ℕ) where
  -- below n, the keys come into the first n words, from the last of these on, and the rows into those behind
  keys_put :
      (w : List ℕ) (i : ℕ) (L : List Copy) → i + length L ≡ n → n ≤ length w →
      take n (put_from n w i L) ≡ backwards (keys_from i L) ++ drop (n - i) (take n w)
  unfolding put_from
  keys_put w i [] e h = let k : n - i ≡ 0 = omega arith in rw k
  keys_put w i (x ∷ L) e h =
      let t = lt-ltb i n (omega arith) in
      let j = n - 1 - i in
      let k = packed x.chunk i in
      let u : take n (put_copy n w i x) ≡ set (take n w) j k =
      rw t (take-set-le n (set w j k) (n + i) (packed_copy x) (omega arith) ∙ take-set-lt n w j k (omega arith)) in
      let f : n - suc i ≡ j = omega arith in
      let g : suc j ≡ n - i = omega arith in
      let long = length-take-le n w h in
      keys_put (put_copy n w i x) (suc i) L (omega arith) (omega (arith, one_length n w i x _ refl))
      ∙ ap (λ (r : List ℕ). backwards (keys_from (suc i) L) ++ drop (n - suc i) r) u
      ∙ ap (λ (m : ℕ). backwards (keys_from (suc i) L) ++ drop m (set (take n w) j k)) f
      ∙ ap (λ (r : List ℕ). backwards (keys_from (suc i) L) ++ r) (drop_set_at (take n w) j k (omega arith))
      ∙ ap (λ (m : ℕ). backwards (keys_from (suc i) L) ++ k ∷ drop m (take n w)) g
      ∙ sym (append_assoc (backwards (keys_from (suc i) L)) (k ∷ []) (drop (n - i) (take n w)))

  rows_put : (w : List ℕ) (i : ℕ) (L : List Copy) → i + length L ≡ n → drop n (put_from n w i L) ≡ sets (drop n w) i (map packed_copy L)
  unfolding put_from
  rows_put w i [] e = refl
  rows_put w i (x ∷ L) e =
      let t = lt-ltb i n (omega arith) in
      rw t
      (rows_put (set (set w (n - 1 - i) (packed x.chunk i)) (n + i) (packed_copy x)) (suc i) L (omega arith)
      ∙ rw (drop-set-add n (set w (n - 1 - i) (packed x.chunk i)) i (packed_copy x), drop-set-lt n w (n - 1 - i) (packed x.chunk i) (omega arith)))

  module _ (w : List ℕ) (L : List Copy) (all : length L ≡ n) (room : room_for n ≤ length w) where
    pub keys_first : take n (put_from n w 0 L) ≡ backwards (keys_from 0 L)
    keys_first =
        keys_put w 0 L (omega arith) (omega arith)
        ∙ rw (drop_of_length-le (take n w) {i = n - 0} (omega (arith, length-take-le n w (omega arith)))) (append-nil (backwards (keys_from 0 L)))

    pub rows_behind : drop n (put_from n w 0 L) ≡ map packed_copy L ++ drop (room_for n) w
    rows_behind =
        let k = rows_length L in
        let e : n + (0 + length (map packed_copy L)) ≡ room_for n = omega arith in
        rows_put w 0 L (omega arith)
        ∙ sets-eq (map packed_copy L) (drop n w) 0 (omega (arith, length-drop n w))
        ∙ rw (drop-drop (0 + length (map packed_copy L)) n w, e)
