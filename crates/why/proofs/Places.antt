-- Where positions and chunks lie, with P data bytes to a page. A position is its chunk's begin and its data byte, as a number is what a division leaves of
-- it; so the next position is one data byte further, or begins the next chunk.
use Prim.Native.Nat.{ℕ, suc, ◌+◌, ◌-◌, ◌*◌, ◌/◌, ◌≤◌, ◌<◌}
use mathlib.Core.Bool.{false}
use mathlib.Core.Logic.{◌↔◌}
use mathlib.Core.Path.{◌≡◌, sym, ap, ◌∙◌}
use native.Mathlib.Nat.{suc-mul, mul-le-mul_right, div-mul-le_self, le-div_iff_mul-le, div-add-mod', mod-lt, div-eq_of_lt-le}
use native.Mathlib.Numerals.{add-one}
use native.Mathlib.Omega.{arith}
use lib.Dec.{ltb}
use borrow.Author.Tests.{ltb-true, ltb-false}
use Rattle.page.specs.Numbers.{most_chunk, bad_chunk}
use Rattle.page.proofs.Searching.{by_test}
use Rattle.page.proofs.Within.{chunk_within}
use Rattle.chunk.specs.Records.{base_of}
use Rattle.why.specs.Marks.{most_data, places}
use Rattle.why.specs.Reasons.{chunk_at, byte_at}

module _ (P : ℕ) (some : 0 < P) where
  -- a chunk that begins at or below a position is not above the position's
  pub begins_below : (c x : ℕ) → base_of P c ≤ x → c ≤ chunk_at P x
  begins_below c x h =
      let d : (c - 1 ≤ x / P) ↔ ((c - 1) * P ≤ x) = le-div_iff_mul-le some in
      omega (arith, d.1 h)

  -- and the position's own does begin there
  pub own_begins : (x : ℕ) → base_of P (chunk_at P x) ≤ x
  own_begins x = ap-le (div-mul-le_self x P)
    where
      ap-le : x / P * P ≤ x → (x / P + 1 - 1) * P ≤ x
      ap-le h = let e : x / P + 1 - 1 ≡ x / P = omega arith in rw e h

  -- a position is its chunk's begin and its data byte
  pub position : (x : ℕ) → base_of P (chunk_at P x) + byte_at P x ≡ x
  position x = let e : x / P + 1 - 1 ≡ x / P = omega arith in rw e (div-add-mod' x P)

  -- and that byte is one of the page
  pub byte_below : (x : ℕ) → byte_at P x < P
  byte_below x = mod-lt x some

  -- of two chunks the one that begins lower is lower
  pub base_order : (c d : ℕ) → 0 < d → base_of P c ≤ base_of P d → c ≤ d
  base_order c d h k =
      by_test (ltb d c) _
      (λ t. absurd (omega (arith, k, some, suc-mul (d - 1) P, mul-le-mul_right {m = suc (d - 1)} {n = c - 1} P (omega (arith, h, ltb-true d c t)))))
      (λ t. ltb-false d c t)

  -- the next position is in the same chunk, one byte further, or begins the next chunk
  pub same_chunk : (x : ℕ) → chunk_at P x ≡ chunk_at P (x + 1) → byte_at P (x + 1) ≡ byte_at P x + 1
  same_chunk x e =
      let a = position x in
      let b = position (x + 1) in
      let f : base_of P (chunk_at P x) ≡ base_of P (chunk_at P (x + 1)) = ap (base_of P) e in
      omega (arith, a, b, f)

  pub next_chunk : (x : ℕ) → (chunk_at P x ≡ chunk_at P (x + 1) → ⊥) → (x + 1 ≡ base_of P (chunk_at P x) + P) × (x + 1 ≡ base_of P (chunk_at P (x + 1)))
  next_chunk x ne =
      let a = position x in
      let m = byte_below x in
      by_test (ltb (x + 1) (base_of P (chunk_at P x) + P)) _
      (λ t.
      let k : x + 1 < base_of P (chunk_at P x) + P = ltb-true _ _ t in
      let q : (x + 1) / P ≡ x / P = div-eq_of_lt-le P (omega (arith, div-mul-le_self x P)) (within k) in
      absurd (ne (sym (ap (λ (z : ℕ). z + 1) q))))
      (λ t.
      let k : base_of P (chunk_at P x) + P ≤ x + 1 = ltb-false _ _ t in
      let e : x + 1 ≡ base_of P (chunk_at P x) + P = omega (arith, a, m, k) in
      (e, e ∙ begins e))
    where
      within : x + 1 < base_of P (chunk_at P x) + P → x + 1 < (x / P + 1) * P
      within k =
          let i : x / P + 1 - 1 ≡ x / P = omega arith in
          let j : x + 1 < x / P * P + P = rw i at k in
          omega (arith, j, suc-mul (x / P) P)

      begins : x + 1 ≡ base_of P (chunk_at P x) + P → base_of P (chunk_at P x) + P ≡ base_of P (chunk_at P (x + 1))
      begins e =
          let i : x / P + 1 - 1 ≡ x / P = omega arith in
          let j : x + 1 ≡ x / P * P + P = rw i at e in
          let m = suc-mul (x / P) P in
          let l = suc-mul (suc (x / P)) P in
          let low : (x / P + 1) * P ≤ x + 1 = rw (add-one (x / P)) (omega (arith, j, m)) in
          let high : x + 1 < (x / P + 1 + 1) * P = rw (add-one (x / P), add-one (suc (x / P))) (omega (arith, j, m, l, some)) in
          let q : (x + 1) / P ≡ x / P + 1 = div-eq_of_lt-le P low high in
          let k : (x + 1) / P + 1 - 1 ≡ x / P + 1 = omega (arith, q) in
          rw (i, k, add-one (x / P)) (sym m)

  -- a position whose chunk has a number lies inside the places of marks
  pub inside_places : (x : ℕ) → P ≤ most_data → chunk_at P x ≤ most_chunk → x < places
  inside_places x h k =
      omega (arith, div-add-mod' x P, mod-lt x some, suc-mul (x / P) P, mul-le-mul_right {m = suc (x / P)} {n = most_chunk} P (omega (arith, k)), h)

-- the page of a chunk that has a number ends inside the places of marks
pub page_inside : (P c : ℕ) → P ≤ most_data → bad_chunk c ≡ false → base_of P c + P < places
page_inside P c h g =
    let k = chunk_within c g in
    omega (arith, h, suc-mul (c - 1) P, mul-le-mul_right {m = suc (c - 1)} {n = most_chunk} P (omega (arith, k)))
