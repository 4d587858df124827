-- Texts put one after the other: `also` is the one law by which pieces make a text. A position that stopped counting lies past the end of all lent
-- bytes, as the true one does, so it stands for it.
use Prim.Native.Nat.{ℕ, suc, ◌+◌, ◌-◌, ◌≤◌, ◌<◌, min}
use mathlib.Core.Path.{◌≡◌, refl, ap, sym, ◌∙◌}
use mathlib.Core.Logic.{⊎_elim}
use mathlib.Core.List.{List, [], ◌∷◌, ◌++◌, append_assoc}
use native.Mathlib.Nat.{add-zero, zero-add, add-suc, suc-add}
use native.Mathlib.Omega.{arith}
use lib.ListN.{length, take, drop, set, length-append, take-append-drop, drop_of_length-le}
use lib.Seq.{sets, length-sets, set_out, sets-eq, length-take-le, drop-drop}
use borrow.Rule.Slice.PartMut.{put_mid}
use Rattle.text.specs.Put.{most, counted, over, Put}
use Rattle.text.proofs.Order.{le_or_lt}

-- what lies past the end is left out
out : (text bytes : List ℕ) (at : ℕ) → length bytes ≤ at → sets bytes at text ≡ bytes
out [] bytes at h = refl
out (x ∷ text) bytes at h = rw (set_out bytes at x h) (out text bytes (suc at) (omega arith))

-- a text and then another behind it
joined : (s t bytes : List ℕ) (at : ℕ) → sets (sets bytes at s) (at + length s) t ≡ sets bytes at (s ++ t)
joined [] t bytes at = rw add-zero
joined (x ∷ s) t bytes at = rw (add-suc, ← suc-add) (joined s t (set bytes at x) (suc at))

-- positions up to the largest are counted as they are, and those above it as the largest
pub exact : (n : ℕ) → n ≤ most → counted n ≡ n
unfolding counted
exact n h = omega arith

stopped : (n : ℕ) → most < n → counted n ≡ most
unfolding counted
stopped n h = omega arith

-- where a position stopped counting, neither it nor the true one is in the bytes
stands : (text bytes : List ℕ) (n : ℕ) → length bytes < most → sets bytes (counted n) text ≡ sets bytes n text
stands text bytes n h =
    ⊎_elim (λ l. rw (exact n l)) (λ l. rw (stopped n l) (out text bytes most (omega arith) ∙ sym (out text bytes n (omega arith)))) (le_or_lt n most)

-- nothing was put
pub nothing : (bytes : List ℕ) (at : ℕ) → length bytes < most → at ≤ most → Put [] bytes at bytes at
unfolding over
nothing bytes at h g = record { short = h; holds = refl; behind = rw add-zero (sym (exact at g)) }

-- a byte past the end was put
pub left_out_lem : (bytes : List ℕ) (at next x : ℕ) → length bytes < most → length bytes ≤ at → next ≡ counted (at + 1) → Put (x ∷ []) bytes at bytes next
unfolding over
left_out_lem bytes at next x h g e = record { short = h; holds = sym (set_out bytes at x g); behind = e }

-- what there is no room for
rest_out : (text bytes : List ℕ) (at n : ℕ) → at < length bytes → n ≡ min (length text) (length bytes - at) → length (take n text) ≡ n
    → sets (sets bytes at (take n text)) (at + length (take n text)) (drop n text) ≡ sets bytes at (take n text)
rest_out text bytes at n h e l =
    ⊎_elim
    (λ j. rw (drop_of_length-le text {i = n} j))
    (λ (j : n < length text). out (drop n text) (sets bytes at (take n text)) (at + length (take n text)) (rw (length-sets bytes at (take n text)) (omega arith)))
    (le_or_lt (length text) n)

-- a text past the end is left out
pub out_past : (text bytes : List ℕ) (at : ℕ) → length bytes ≤ at → bytes ≡ over bytes at text
unfolding over
out_past text bytes at g = sym (out text bytes at g)

-- and so it was put
pub past_end : (text bytes : List ℕ) (at next : ℕ) → length bytes < most → length bytes ≤ at → next ≡ counted (at + length text) → Put text bytes at bytes next
past_end text bytes at next h g e = record { short = h; holds = out_past text bytes at g; behind = e }

-- a text that has room was copied
pub copied : (text bytes after : List ℕ) (at : ℕ) → length bytes < most → at + length text ≤ length bytes → after ≡ over bytes at text → Put text bytes at after (at + length text)
copied text bytes after at h g e = record { short = h; holds = e; behind = sym (exact (at + length text) (omega arith)) }

-- a text of which as much was copied as there is room for: n bytes of it in the place of k
pub copied_part : (text bytes new : List ℕ) (at n k : ℕ) → at < length bytes → n ≡ min (length text) (length bytes - at) → k ≡ n → new ≡ take n text
    → put_mid at k bytes new ≡ over bytes at text
unfolding over
copied_part text bytes new at n k h e d a =
    let l : length (take n text) ≡ n = length-take-le n text (omega arith) in
    let tail : drop k (drop at bytes) ≡ drop (at + length (take n text)) bytes = rw (d, l) (drop-drop n at bytes) in
    let front : sets bytes at (take n text) ≡ put_mid at k bytes new = sets-eq (take n text) bytes at (omega arith) ∙ rw (a, tail) (append_assoc (take at bytes) (take n text) (drop (at + length (take n text)) bytes)) in
    sym front
    ∙ sym (rest_out text bytes at n h e l)
    ∙ joined (take n text) (drop n text) bytes at
    ∙ ap (sets bytes at) (take-append-drop n text)

-- a text, and then another
pub also : {s t b b₁ b₂ : List ℕ} {at m r : ℕ} → Put s b at b₁ m → Put t b₁ m b₂ r → Put (s ++ t) b at b₂ r
unfolding over counted
also {s} {t} {b} {b₁} {b₂} {at} {m} {r} p q = record {
  short = p.short;
  holds = rw (q.holds, p.behind, p.holds) (stands t (sets b at s) (at + length s) (rw (length-sets b at s) p.short) ∙ joined s t b at);
  behind = rw (q.behind, p.behind, length-append) (omega arith);
}

-- the bytes keep their number
pub kept : {text before after : List ℕ} {at next : ℕ} → Put text before at after next → length after ≡ length before
unfolding over
kept {text} {before} {after} {at} p = rw p.holds (length-sets before at text)

-- a text put on no bytes is measured
pub measured : {text after : List ℕ} {next : ℕ} → Put text [] 0 after next → (after ≡ []) × (next ≡ counted (length text))
unfolding over
measured {text} {after} {next} p = (p.holds ∙ out text [] 0 (omega arith), p.behind ∙ ap counted (zero-add (length text)))

-- a text that fits stands in front
pub whole : {text before after : List ℕ} {next : ℕ} → Put text before 0 after next → length text ≤ length before → after ≡ text ++ drop (length text) before
unfolding over
whole {text} {before} {after} {next} p h =
    let e : 0 + length text ≡ length text = zero-add (length text) in
    rw (p.holds, sets-eq text before 0 (omega arith), e)
