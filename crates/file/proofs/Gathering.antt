-- Gathering in place: of the first n words, which are keys, the first of each chunk has its row taken from behind them. No more rows are taken than
-- keys are passed, so that no word is written over before it is read.
use Prim.Native.Nat.{ℕ, suc, ◌+◌, ◌-◌, ◌≤◌, ◌<◌, zero-le}
use mathlib.Core.List.{List, [], ◌∷◌, ◌++◌, append_assoc, append-nil}
use mathlib.Core.Path.{◌≡◌, refl, sym, ap, ◌∙◌}
use native.Mathlib.Numerals.{add-one}
use native.Mathlib.Omega.{arith}
use lib.Dec.{eqb}
use lib.ListN.{length, take, drop, set, get_or, replicate, length-append, length-take, length-drop, drop_of_length-le}
use lib.Seq.{sets, sets-eq, length-sets, drop-set-lt, length-take-le, take_at, drop-cons, drop-drop, get_or-take}
use borrow.Author.Tests.{eq-eqb, ne_eqb}
use borrow.Rule.Slice.PartMut.{put_mid}
use Rattle.page.proofs.Searching.{by_test}
use Rattle.sort.specs.Arranged.{Every}
use Rattle.sort.specs.Packed.{key_of, value_of}
use Rattle.sort.proofs.Arranging.{arranged_length, every_get}
use Rattle.sort.proofs.Behind.{behind_same}
use Rattle.file.specs.Copies.{room_for, first_of, firsts, keys_sorted, padded}

-- a run of stores, and the words before and behind it
take_sets : (w : List ℕ) (m : ℕ) (F : List ℕ) → m + length F ≤ length w → take (m + length F) (sets w m F) ≡ take m w ++ F
take_sets w m F h =
    ap (λ (r : List ℕ). take (m + length F) r) (sets-eq F w m h)
    ∙ take_at (take m w ++ F) (drop (m + length F) w) (m + length F) (length-append (take m w) F ∙ rw (length-take-le m w (omega arith)))

drop_sets : (k : ℕ) (w : List ℕ) (m : ℕ) (F : List ℕ) → m + length F ≤ k → drop k (sets w m F) ≡ drop k w
drop_sets k w m [] h = refl
drop_sets k w m (x ∷ F) h = drop_sets k (set w m x) (suc m) F (omega arith) ∙ drop-set-lt k w m x (omega arith)

-- sorting keys leaves the length
pub sorted_length : (w : List ℕ) → length (keys_sorted w) ≡ length w
sorted_length w = simp (length-append, arranged_length, length-take, length-drop) (omega arith)

module _ {A : Type 0} (at : ℕ → A) where
  pub firsts_none : (last : ℕ) → firsts at last [] ≡ []
  unfolding firsts
  firsts_none last = refl

  pub firsts_on : (last k : ℕ) (S : List ℕ) → firsts at last (k ∷ S) ≡ first_of at last k ++ firsts at (key_of k) S
  unfolding firsts
  firsts_on last k S = refl

  pub first_few : (last k : ℕ) → length (first_of at last k) ≤ 1
  first_few last k = by_test (eqb (key_of k) last) _ (λ t. rw t (omega arith)) (λ t. rw t (omega arith))

  pub first_same : (to : ℕ → A) (last k : ℕ) → at (value_of k) ≡ to (value_of k) → first_of at last k ≡ first_of to last k
  first_same to last k e = rw e

module _ (w₀ : List ℕ) (n : ℕ) where
  -- the row that a key's number stands for
  abbrev at : ℕ → ℕ
  at j = get_or w₀ (n + j) 0

  -- what holds when i keys are passed and m rows taken: those behind are as they were, and the rest is to be taken from them
  pub record Gathered (w : List ℕ) (last m i : ℕ) : Type 0 where
    pub order : m ≤ i
    pub inside : i ≤ n
    pub long : length w ≡ length w₀
    pub unread : drop i w ≡ drop i w₀
    pub taken : firsts at 0 (take n w₀) ≡ take m w ++ firsts at last (drop i (take n w₀))

  pub gather_none : Gathered w₀ 0 0 0
  gather_none = record { order = zero-le; inside = zero-le; long = refl; unread = refl; taken = refl }

  module _ (room : room_for n ≤ length w₀) (w : List ℕ) (last m i : ℕ) (g : Gathered w last m i) where
    key-at : i < n → get_or (take n w₀) i 0 ≡ get_or w i 0
    key-at h = get_or-take n w₀ i 0 h ∙ sym (behind_same w w₀ i g.unread i (omega arith))

    -- a key leads to one of the n rows
    pub key_below : Every (λ k. value_of k < n) (take n w₀) → i < n → value_of (get_or w i 0) < n
    key_below e h =
        let k : value_of (get_or (take n w₀) i 0) < n = every_get (λ k. value_of k < n) (take n w₀) i e (rw (length-take-le n w₀ (omega arith)) h) in
        rw (key-at h) at k

    -- one key more
    pub gather_more :
        (F : List ℕ) → F ≡ first_of (λ j. get_or w (n + j) 0) last (get_or w i 0) → i < n →
        Gathered (sets w m F) (key_of (get_or w i 0)) (m + length F) (i + 1)
    gather_more F e h =
        let k = get_or w i 0 in
        let same : F ≡ first_of at last k = e ∙ first_same (λ j. get_or w (n + j) 0) at last k (behind_same w w₀ i g.unread (n + value_of k) (omega (arith, g.inside))) in
        let few : length F ≤ 1 = rw e (first_few (λ j. get_or w (n + j) 0) last k) in
        let next : drop i (take n w₀) ≡ k ∷ drop (i + 1) (take n w₀) =
        rw add-one (drop-cons (take n w₀) i 0 (rw (length-take-le n w₀ (omega arith)) h) ∙ rw (key-at h)) in
        record {
          order = omega (arith, g.order);
          inside = omega arith;
          long = length-sets w m F ∙ g.long;
          unread = drop_sets (i + 1) w m F (omega (arith, g.order)) ∙ sym (drop-drop 1 i w) ∙ ap (λ (r : List ℕ). drop 1 r) g.unread ∙ drop-drop 1 i w₀;
          taken =
              g.taken
              ∙ ap (λ (r : List ℕ). take m w ++ firsts at last r) next
              ∙ ap (λ (r : List ℕ). take m w ++ r) (firsts_on at last k (drop (i + 1) (take n w₀)) ∙ ap (λ (r : List ℕ). r ++ firsts at (key_of k) (drop (i + 1) (take n w₀))) (sym same))
              ∙ sym (append_assoc (take m w) F (firsts at (key_of k) (drop (i + 1) (take n w₀))))
              ∙ ap (λ (r : List ℕ). r ++ firsts at (key_of k) (drop (i + 1) (take n w₀))) (sym (take_sets w m F (omega (arith, g.order, g.long))));
        }

    -- which is the first of its chunk, or not
    pub gather_first : i < n → (key_of (get_or w i 0) ≡ last → ⊥) → Gathered (set w m (get_or w (n + value_of (get_or w i 0)) 0)) (key_of (get_or w i 0)) (m + 1) (i + 1)
    gather_first h d = rw (ne_eqb _ _ d) at (gather_more _ refl h)

    pub gather_older : i < n → key_of (get_or w i 0) ≡ last → Gathered w (key_of (get_or w i 0)) m (i + 1)
    gather_older h e = let same : m + 0 ≡ m = omega arith in rw (eq-eqb _ _ e, same) at (gather_more _ refl h)

    -- all keys are passed
    pub gather_end :
        (zeros : List ℕ) → zeros ≡ replicate (length (take (length w - m) (drop m w))) 0 → n ≤ i →
        (m ≡ length (firsts at 0 (take n w₀))) × (m ≤ n) × (put_mid m (length w - m) w zeros ≡ padded (firsts at 0 (take n w₀)) (length w₀))
    gather_end zeros z h =
        let none : drop i (take n w₀) ≡ [] = drop_of_length-le (take n w₀) {i = i} (omega (arith, length-take n w₀)) in
        let all : firsts at 0 (take n w₀) ≡ take m w = g.taken ∙ rw (none, firsts_none at last) (append-nil (take m w)) in
        let long : length (take m w) ≡ m = length-take-le m w (omega (arith, g.order, g.inside, g.long)) in
        let rest : length (take (length w - m) (drop m w)) ≡ length w - m = simp (length-take, length-drop) (omega arith) in
        let behind : drop (length w - m) (drop m w) ≡ [] = drop_of_length-le (drop m w) {i = length w - m} (omega (arith, length-drop m w)) in
        (sym (ap length all ∙ long), omega (arith, g.order, g.inside), rw (behind, append-nil zeros, all, long, z, rest, g.long))
