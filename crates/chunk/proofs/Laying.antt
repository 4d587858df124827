-- Laws of bytes laid over a buffer: a buffer with the first i elements of a list in front, and its own behind them.
use Prim.Native.Nat.{ℕ, zero, suc, ◌+◌, ◌-◌, ◌≤◌, ◌<◌, min}
use mathlib.Core.List.{List, ◌∷◌, ◌++◌, append-nil, append_assoc}
use mathlib.Core.Path.{◌≡◌, refl, sym, ap, ◌∙◌}
use native.Mathlib.Nat.{not-suc-le-zero, le_of_suc-le-suc}
use native.Mathlib.Numerals.{add-one}
use native.Mathlib.Omega.{arith}
use lib.ListN.{length, length-append, length-take, length-drop, take, drop, get_or, set, replicate, get_or-replicate, take-append-drop, drop_of_length-le}
use lib.Seq.{take-suc, drop-cons, append_snoc, set_at, get_or_at, length-take-le, take_at, drop_at, take_all, take-append-le, take-append-add, drop-append-add, get_or-append-add, drop-drop}
use lib.Dec.{leb}
use borrow.Author.Tests.{leb-true, leb-false}
use borrow.Rule.Slice.PartMut.{put_mid}
use Rattle.page.proofs.Searching.{by_test}
use Rattle.chunk.specs.Answers.{overlaid}

-- the first i of the list in front
abbrev pub laid : List ℕ → List ℕ → ℕ → List ℕ
laid t d i = take i t ++ drop i d

-- the store of a turn lays one more
pub laid_more : (t d : List ℕ) (i : ℕ) → i < length d → i < length t → set (laid t d i) i (get_or t i 0) ≡ laid t d (i + 1)
laid_more t d i hd ht =
    ap (λ (r : List ℕ). set (take i t ++ r) i (get_or t i 0)) (drop-cons d i 0 hd)
    ∙ set_at (take i t) (get_or d i 0) (drop (suc i) d) (get_or t i 0) i (length-take-le i t (omega arith))
    ∙ sym (append_snoc (take i t) (get_or t i 0) (drop (suc i) d))
    ∙ ap (λ (r : List ℕ). r ++ drop (suc i) d) (sym (take-suc t i 0 ht))
    ∙ rw add-one

-- the next is as it was
pub laid_next : (t d : List ℕ) (i : ℕ) → i ≤ length t → i < length d → get_or (laid t d i) i 0 ≡ get_or d i 0
laid_next t d i h k =
    ap (λ (r : List ℕ). get_or (take i t ++ r) i 0) (drop-cons d i 0 k) ∙ get_or_at (take i t) (get_or d i 0) (drop (suc i) d) 0 i (length-take-le i t h)

-- and so are all behind those that are laid
pub laid_rest : (t d : List ℕ) (i : ℕ) → i ≤ length t → drop i (laid t d i) ≡ drop i d
laid_rest t d i h = drop_at (take i t) (drop i d) i (length-take-le i t h)

-- once all are laid, they are the list
pub laid_all : (t d : List ℕ) (i : ℕ) → length t ≤ i → length d ≤ i → laid t d i ≡ t
laid_all t d i h k = rw (take_all i t h, drop_of_length-le d k) (append-nil t)

-- a buffer's own front laid over it changes nothing, whatever stands behind it
pub front_laid : (d t : List ℕ) (i : ℕ) → i ≤ length d → laid (take i d ++ t) d i ≡ d
front_laid d t i h = rw (take_at (take i d) t i (length-take-le i d h)) (take-append-drop i d)

-- zeros behind a front
pub zero_at : (f : List ℕ) (n i : ℕ) → length f ≤ i → i < length f + n → get_or (f ++ replicate n 0) i 0 ≡ 0
zero_at f n i h k =
    let e : i ≡ length f + (i - length f) = omega arith in
    rw e (get_or-append-add f (replicate n 0) (i - length f) 0 ∙ get_or-replicate n (i - length f) 0 0 (omega arith))

-- the first k of n equal numbers
pub take_zeros : (z k n : ℕ) → k ≤ n → take k (replicate n z) ≡ replicate k z
take_zeros z zero n h = refl
take_zeros z (suc k) zero h = absurd (not-suc-le-zero h)
take_zeros z (suc k) (suc n) h = ap (λ (r : List ℕ). z ∷ r) (take_zeros z k n (le_of_suc-le-suc h))

-- a copied front and zeros behind it are the whole overlay
pub laid_over : (part buffer : List ℕ) (shown m : ℕ) → m ≡ min (length part) shown → shown ≤ length buffer
    → (take m (laid part buffer m) ++ replicate (shown - m) 0) ++ drop shown (laid part buffer m) ≡ overlaid part shown buffer
unfolding overlaid
laid_over part buffer shown m e h =
    let a : length (take m part) ≡ m = length-take-le m part (omega arith) in
    let f : take m (laid part buffer m) ≡ take m part = take_at (take m part) (drop m buffer) m a in
    let i : shown ≡ length (take m part) + (shown - m) = omega arith in
    let j : m + (shown - m) ≡ shown = omega arith in
    let g : drop shown (laid part buffer m) ≡ drop shown buffer =
    ap (λ (k : ℕ). drop k (laid part buffer m)) i
    ∙ drop-append-add (take m part) (drop m buffer) (shown - m)
    ∙ drop-drop (shown - m) m buffer
    ∙ ap (λ (k : ℕ). drop k buffer) j
    in
    rw (f, g) (ap (λ (r : List ℕ). r ++ drop shown buffer) (by_test (leb (length part) shown) _ (λ t. long (leb-true _ _ t)) (λ t. short (leb-false _ _ t))))
  where
    long : length part ≤ shown → take m part ++ replicate (shown - m) 0 ≡ take shown (part ++ replicate shown 0)
    long k =
        let q : m ≡ length part = omega arith in
        let i : length part + (shown - length part) ≡ shown = omega arith in
        rw (q, take_all (length part) part (omega arith))
        (ap (λ (r : List ℕ). part ++ r) (sym (take_zeros 0 (shown - length part) shown (omega arith)))
        ∙ sym (take-append-add part (replicate shown 0) (shown - length part))
        ∙ ap (λ (j : ℕ). take j (part ++ replicate shown 0)) i)

    short : shown < length part → take m part ++ replicate (shown - m) 0 ≡ take shown (part ++ replicate shown 0)
    short k =
        let q : m ≡ shown = omega arith in
        let z : shown - shown ≡ 0 = omega arith in
        rw (q, z) (append-nil (take shown part) ∙ sym (take-append-le shown part (replicate shown 0) (omega arith)))

-- zeros in the middle of what is laid are the overlay
pub zeros_over : (part buffer zeros : List ℕ) (shown m : ℕ) → m ≡ min (length part) shown → shown ≤ length buffer
    → zeros ≡ replicate (length (take (shown - m) (drop m (laid part buffer m)))) 0
    → put_mid m (shown - m) (laid part buffer m) zeros ≡ overlaid part shown buffer
zeros_over part buffer zeros shown m e h z =
    let front : m ≤ length part = omega arith in
    let all : length (laid part buffer m) ≡ length buffer = simp (length-append, length-take, length-drop) (omega arith) in
    let room : length (take (shown - m) (drop m (laid part buffer m))) ≡ shown - m = simp (length-take, length-drop) (omega arith) in
    let end : m + (shown - m) ≡ shown = omega arith in
    rw (z, room, drop-drop, end, ← append_assoc (take m (laid part buffer m)) (replicate (shown - m) 0) (drop shown (laid part buffer m))) (laid_over part buffer shown m e h)
