-- The words once the copies that were met are put and their keys sorted: the rows that are gathered from them are those of the newest copies.
use Prim.Native.Nat.{ℕ, suc, ◌+◌, ◌/◌, ◌≤◌, ◌<◌}
use mathlib.Core.List.{List, [], ◌∷◌, ◌++◌, map}
use mathlib.Core.Path.{◌≡◌, refl, ap, ap₂, ◌∙◌}
use native.Mathlib.Omega.{arith}
use lib.ListN.{length, take, drop, get_or, get_or-append, get_or-map}
use lib.Seq.{take_at, get_or-append-add}
use Rattle.sort.specs.Arranged.{arranged, Every}
use Rattle.sort.specs.Packed.{word_values, value_of}
use Rattle.sort.proofs.Arranging.{arranged_length, arranged_backwards, every_arranged, every_weaker}
use Rattle.sort.proofs.Packing.{packed_value}
use Rattle.file.specs.Copies.{packed_copy, put_from, room_for, firsts, keys_sorted, gathered, padded}
use Rattle.file.specs.declared.copy.Copy.{Copy}
use Rattle.file.proofs.Putting.{put_length, keys_from, keys_length, rows_length, keys_first, rows_behind}
use Rattle.file.proofs.Newest.{EveryCopy, newest_of, no_copy, newest_gathered, firsts_map}

-- the numbers of keys from i on are below the number of all
keys_below : (n i : ℕ) (L : List Copy) → i + length L ≤ n → n ≤ word_values → Every (λ k. value_of k < n) (keys_from i L)
keys_below n i [] h b = tt
keys_below n i (x ∷ L) h b = (rw (packed_value x.chunk i (omega arith)) (omega arith), keys_below n (suc i) L (omega arith) b)

-- the words w with the copies put and the first n words sorted
abbrev pub sorted_with : (words : List ℕ) (n : ℕ) → List Copy → List ℕ
sorted_with w n L = arranged (take n (put_from n w 0 L)) ++ drop n (put_from n w 0 L)

module _ (w : List ℕ) (n : ℕ) (L : List Copy) (all : length L ≡ n) (room : room_for n ≤ length w) (few : n < word_values) where
  abbrev sorted : List ℕ
  sorted = sorted_with w n L

  abbrev keys : List ℕ
  keys = arranged (keys_from 0 L)

  abbrev behind : List ℕ
  behind = map packed_copy L ++ drop (room_for n) w

  parts : sorted ≡ keys ++ behind
  parts =
      ap₂ {C = List ℕ} (λ u v. u ++ v) (ap arranged (keys_first n w L all room) ∙ arranged_backwards (keys_from 0 L)) (rows_behind n w L all room)

  keys_long : length keys ≡ n
  keys_long = arranged_length (keys_from 0 L) ∙ keys_length 0 L ∙ all

  first_keys : take n sorted ≡ keys
  first_keys = ap (λ (r : List ℕ). take n r) parts ∙ take_at keys behind n keys_long

  numbers : Every (λ k. value_of k < n) keys
  numbers = every_arranged (λ k. value_of k < n) (keys_from 0 L) (keys_below n 0 L (omega arith) (omega arith))

  pub sorted_below : Every (λ k. value_of k < n) (take n sorted)
  sorted_below = rw first_keys numbers

  row_at : (j : ℕ) → j < n → get_or sorted (n + j) 0 ≡ packed_copy (get_or L j no_copy)
  row_at j h =
      ap (λ (r : List ℕ). get_or r (n + j) 0) parts
      ∙ rw keys_long at (get_or-append-add keys behind j 0)
      ∙ get_or-append (map packed_copy L) (drop (room_for n) w) 0 j (rw (rows_length L, all) h)
      ∙ get_or-map packed_copy L j no_copy

  pub sorted_rows : EveryCopy (λ y. 0 < y.chunk) L → firsts (λ j. get_or sorted (n + j) 0) 0 (take n sorted) ≡ map packed_copy (newest_of L)
  sorted_rows some =
      ap (firsts (λ j. get_or sorted (n + j) 0) 0) first_keys
      ∙ firsts_map (λ j. get_or sorted (n + j) 0) (λ j. get_or L j no_copy) 0 keys (every_weaker (λ k. value_of k < n) _ (λ k h. row_at (value_of k) h) keys numbers)
      ∙ ap (map packed_copy)
      (newest_gathered (λ j. get_or L j no_copy) 0 L (omega arith) (λ j. let e : 0 + j ≡ j = omega arith in rw e) some)

-- words with room for as many copies as are put: gathering keeps the newest of each chunk
module _
    (w : List ℕ) (L : List Copy) (room : length w ≡ room_for (length L)) (few : length L < word_values)
    (u : List ℕ) (e : u ≡ put_from (length w / 2) w 0 L)
  where
    is-put : u ≡ put_from (length L) w 0 L
    is-put = let half : length w / 2 ≡ length L = omega arith in rw half at e

    pub put_long : length u ≡ length w
    put_long = ap length is-put ∙ put_length (length L) w 0 L

    half-put : length u / 2 ≡ length L
    half-put = omega (arith, put_long)

    pub put_below : Every (λ k. value_of k < length u / 2) (take (length u / 2) (keys_sorted u))
    put_below = rw (half-put, is-put) (sorted_below w (length L) L refl (omega arith) few)

    rows-put : EveryCopy (λ y. 0 < y.chunk) L → gathered u ≡ map packed_copy (newest_of L)
    rows-put some = rw (half-put, is-put) (sorted_rows w (length L) L refl (omega arith) few some)

    pub put_gathered :
        EveryCopy (λ y. 0 < y.chunk) L → (v : List ℕ) (r : ℕ) →
        r ≡ length (gathered u) → v ≡ padded (gathered u) (length u) →
        (r ≡ length (newest_of L)) × (v ≡ padded (map packed_copy (newest_of L)) (length w))
    put_gathered some v r a b =
        let rows = rows-put some in
        (a ∙ ap length rows ∙ rows_length (newest_of L), rw (rows, put_long) at b)
