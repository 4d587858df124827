-- What rows show. At a position the row of its chunk stands, if it has valid bytes in the position's stretch or behind it; the rows of chunks before it
-- end at or before the stretch, and those of later chunks begin behind it, as 512 divides P, so that no stretch lies in two chunks. So the rows of
-- the copies that lookups answer show what the lookup of the position's chunk lends.
use Prim.Native.Nat.{ℕ, zero, suc, ◌+◌, ◌-◌, ◌*◌, ◌/◌, ◌%◌, ◌≤◌, ◌<◌, zero-le}
use Rattle.std.specs.Prelude.{Err}
use mathlib.Core.Bool.{◌&&◌}
use mathlib.Core.List.{List, [], ◌∷◌, ◌++◌, map, map-append, append_assoc}
use mathlib.Core.Logic.{◌⊎◌, inl, inr, ⊎_elim}
use mathlib.Core.Path.{◌≡◌, refl, sym, ap, ◌∙◌}
use native.Mathlib.Nat.{le_refl, suc-mul, mul_left_comm, mul-le-mul_right, div-mul-le_self, div-add-mod', mod-lt}
use native.Mathlib.Omega.{arith}
use borrow.Author.Tests.{leb-true, leb-false, le-leb, lt-leb}
use lib.Dec.{leb}
use lib.ListN.{length, length-take, replicate}
use Rattle.page.specs.Lengths.{page_in}
use Rattle.page.specs.Numbers.{most_chunk, page_values}
use Rattle.page.specs.declared.geometry.Geometry.{Geometry}
use Rattle.page.specs.declared.number.PageNumber.{PageNumber}
use Rattle.page.proofs.Searching.{by_test}
use Rattle.sort.specs.Arranged.{Every}
use Rattle.chunk.specs.Answers.{valid_part, part_by}
use Rattle.chunk.specs.Records.{base_of}
use Rattle.chunk.specs.Looked.{Looked}
use Rattle.chunk.specs.Looked as looked
use Rattle.chunk.proofs.Cases.{valid_there, valid_none, part_copy, part_hole, part_refused}
use Rattle.file.specs.Copies.{valid_values, packed_copy, copy_of, copy_in, copies_to}
use Rattle.file.specs.declared.copy.Copy.{Copy}
use Rattle.file.proofs.Telling.{copy_told}
use Rattle.compare.specs.Views.{byte_of}
use Rattle.compare.specs.Differences.{stretch_bytes}
use Rattle.compare.specs.Sides.{row_begin, row_end, standing, stretch_begin, byte_by, rows_show}

-- ---- lists

-- what holds of each of two lists holds of each of the joined one
every_joined : (Q : ℕ → Type 0) (A B : List ℕ) → Every Q A → Every Q B → Every Q (A ++ B)
every_joined Q [] B a b = b
every_joined Q (x ∷ A) B a b = (a.0, every_joined Q A B a.1 b)

-- behind the end of a list there is nothing
pub byte_behind : (bytes : List ℕ) (x : ℕ) → length bytes ≤ x → byte_of bytes x ≡ 0
byte_behind [] zero h = refl
byte_behind [] (suc x) h = refl
byte_behind (b ∷ bytes) zero h = absurd (omega arith)
byte_behind (b ∷ bytes) (suc x) h = byte_behind bytes x (omega arith)

-- a part has no more bytes than are valid
valid_most : (g : Geometry) (dump : List ℕ) (p a : ℕ) → length (valid_part g dump p a) ≤ a
valid_most g dump p a =
    by_test (page_in g (length dump) p && leb a g.layout.«data») _
    (λ t. rw (valid_there g dump p a t, length-take) (omega arith))
    (λ t. rw (valid_none g dump p a t) zero-le)

-- the same byte of the same part
part_at :
    (g : Geometry) (dump : List ℕ) (p q a b i j : ℕ) → p ≡ q → a ≡ b → i ≡ j → byte_of (valid_part g dump p a) i ≡ byte_of (valid_part g dump q b) j
part_at g dump p q a b i j e f k = rw (e, f, k)

-- ---- positions

-- a stretch does not begin before the chunk of its positions
stretch_in : (q w P x : ℕ) → P ≡ stretch_bytes * w → q * P ≤ x → q * P ≤ stretch_begin x
stretch_in q w P x e h = let d : q * P ≡ stretch_bytes * (q * w) = ap (λ (k : ℕ). q * k) e ∙ mul_left_comm q stretch_bytes w in omega (arith, d)

-- chunk k + 1 begins behind k chunks
base_suc : (P k : ℕ) → base_of P (suc k) ≡ k * P
base_suc P k = let e : suc k - 1 ≡ k = omega arith in rw e

-- ---- rows

module _ (g : Geometry) (dump : List ℕ) where
  -- the data bytes of a page
  abbrev P : ℕ
  P = g.layout.«data»

  -- a row that ends at or before a place, or begins behind it
  abbrev pub Aside : (place row : ℕ) → Type 0
  Aside s r = (row_end P r ≤ s) ⊎ (s < row_begin P r)

  -- where all do, nothing is shown
  pub aside_none : (x : ℕ) (Z : List ℕ) → Every (Aside (stretch_begin x)) Z → rows_show g dump Z x ≡ 0
  unfolding rows_show standing byte_by
  aside_none x [] h = refl
  aside_none x (r ∷ Z) h =
      by_test (leb (row_end P r) (stretch_begin x)) _
      (λ t. rw t (aside_none x Z h.1))
      (λ t.
      let k : stretch_begin x < row_end P r = leb-false _ _ t in
      let behind : stretch_begin x < row_begin P r = ⊎_elim (λ (i : row_end P r ≤ stretch_begin x). absurd (omega arith)) (λ i. i) h.0 in
      rw (t, lt-leb (row_begin P r) (stretch_begin x) behind))

  -- rows that end at or before the stretch may be left out in front
  pub ended_front :
      (x : ℕ) (A Z : List ℕ) → Every (λ r. row_end P r ≤ stretch_begin x) A → rows_show g dump (A ++ Z) x ≡ rows_show g dump Z x
  unfolding rows_show standing
  ended_front x [] Z h = refl
  ended_front x (r ∷ A) Z h = rw (le-leb (row_end P r) (stretch_begin x) h.0) (ended_front x A Z h.1)

  -- zeros are no rows
  pub zeros_aside : (s k : ℕ) → Every (Aside s) (replicate k 0)
  zeros_aside s zero = tt
  zeros_aside s (suc k) = (inl (omega arith), zeros_aside s k)

  -- the copies of lookups of a dump of n pages, of which each has a page of the dump and no more valid bytes than a page has data
  module _
      (look : ℕ → Looked) (n m : ℕ) (pages : n < page_values) (chunks : m ≤ most_chunk) (bytes : P < valid_values)
      (within : (c : ℕ) (p : PageNumber) (a s v : ℕ) → look c ≡ looked.Copy p a s v → (p.0 < n) × (a ≤ P))
    where
      -- the rows of chunks 1 to k, and that of chunk c
      abbrev rows : (chunks : ℕ) → List ℕ
      rows k = map packed_copy (copies_to look k)

      abbrev row : (chunk : ℕ) → Looked → List ℕ
      row c l = map packed_copy (copy_in c l)

      rows-suc : (k : ℕ) → rows (suc k) ≡ rows k ++ row (suc k) (look (suc k))
      unfolding copies_to
      rows-suc k = map-append packed_copy (copies_to look k) (copy_in (suc k) (look (suc k)))

      rows_behind : (k : ℕ) (Z : List ℕ) → rows (suc k) ++ Z ≡ rows k ++ (row (suc k) (look (suc k)) ++ Z)
      rows_behind k Z = ap (λ (l : List ℕ). l ++ Z) (rows-suc k) ∙ append_assoc (rows k) (row (suc k) (look (suc k))) Z

      -- a row tells its copy
      module _ (c : ℕ) (p : PageNumber) (a s v : ℕ) (h : c ≤ m) (e : look c ≡ looked.Copy p a s v) where
        abbrev the_row : ℕ
        the_row = packed_copy (record { chunk = c; page = p.0; valid = a })

        -- chunk, page and valid bytes
        told : copy_of the_row ≡ record { chunk = c; page = p.0; valid = a }
        told =
            let w = within c p a s v e in
            copy_told (record { chunk = c; page = p.0; valid = a }) (record { chunk = omega arith; page = omega (arith, w.0); valid = omega (arith, w.1) })

        -- it begins with its chunk
        told-begin : row_begin P the_row ≡ base_of P c
        told-begin = ap (λ (x : Copy). base_of P x.chunk) told

        -- and ends with its valid bytes
        told-end : row_end P the_row ≡ base_of P c + a
        told-end = ap (λ (x : Copy). base_of P x.chunk + x.valid) told

      -- it ends before the next chunk, and begins with its own
      row-ended : (c s : ℕ) → c ≤ m → base_of P c + P ≤ s → Every (λ r. row_end P r ≤ s) (row c (look c))
      row-ended c s h k = go (look c) refl
        where
          go : (l : Looked) → look c ≡ l → Every (λ r. row_end P r ≤ s) (row c l)
          go (looked.Copy p a u v) e = (omega (arith, told-end c p a u v h e, (within c p a u v e).1), tt)
          go (looked.Hole u v) e = tt
          go (Err f) e = tt

      row-aside : (c s : ℕ) → c ≤ m → s < base_of P c → Every (Aside s) (row c (look c))
      row-aside c s h k = go (look c) refl
        where
          go : (l : Looked) → look c ≡ l → Every (Aside s) (row c l)
          go (looked.Copy p a u v) e = (inr (omega (arith, told-begin c p a u v h e)), tt)
          go (looked.Hole u v) e = tt
          go (Err f) e = tt

      -- a position, the chunks before its own, and where its stretch begins
      module _ (w x : ℕ) (some : 0 < P) (whole : P ≡ stretch_bytes * w) where
        abbrev q : ℕ
        q = x / P

        abbrev begin : ℕ
        begin = stretch_begin x

        -- the chunk does not begin behind the stretch
        chunk-begins : q * P ≤ begin
        chunk-begins = stretch_in q w P x whole (div-mul-le_self x P)

        -- the rows of chunks before it
        before : (k : ℕ) → k ≤ q → k ≤ m → Every (λ r. row_end P r ≤ begin) (rows k)
        unfolding copies_to
        before zero h i = tt
        before (suc k) h i =
            let up : suc k * P ≤ q * P = mul-le-mul_right P h in
            let e = suc-mul k P in
            rw (rows-suc k)
            (every_joined (λ r. row_end P r ≤ begin) (rows k) (row (suc k) (look (suc k))) (before k (omega arith) (omega arith))
            (row-ended (suc k) begin i (omega (arith, base_suc P k, chunk-begins))))

        -- a file of which all rows are before it
        pub shows_past : m ≤ q → (Z : List ℕ) → Every (Aside begin) Z → rows_show g dump (rows m ++ Z) x ≡ 0
        shows_past h Z z = ended_front x (rows m) Z (before m h (le_refl m)) ∙ aside_none x Z z

        -- the row of its own chunk
        own : (Z : List ℕ) → suc q ≤ m → Every (Aside begin) Z → rows_show g dump (row (suc q) (look (suc q)) ++ Z) x ≡ byte_of (part_by g dump (look (suc q))) (x % P)
        unfolding rows_show standing byte_by
        own Z h z = go (look (suc q)) refl
          where
            go : (l : Looked) → look (suc q) ≡ l → rows_show g dump (row (suc q) l ++ Z) x ≡ byte_of (part_by g dump l) (x % P)
            go (looked.Copy p a u v) e =
                let r = the_row (suc q) p a u v h e in
                let ends : row_end P r ≡ q * P + a = told-end (suc q) p a u v h e ∙ ap (λ (b : ℕ). b + a) (base_suc P q) in
                let begins : row_begin P r ≡ q * P = told-begin (suc q) p a u v h e ∙ base_suc P q in
                let place : q * P + x % P ≡ x = div-add-mod' x P in
                by_test (leb (row_end P r) begin) _
                (λ t.
                let i : row_end P r ≤ begin = leb-true _ _ t in
                let few = valid_most g dump p.0 a in
                rw t (aside_none x Z z ∙ sym (ap (λ (l : List ℕ). byte_of l (x % P)) (part_copy g dump p a u v) ∙ byte_behind (valid_part g dump p.0 a) (x % P) (omega arith))))
                (λ t.
                rw (t, le-leb (row_begin P r) begin (omega (arith, chunk-begins)))
                (part_at g dump (copy_of r).page p.0 (copy_of r).valid a (x - row_begin P r) (x % P)
                (ap (λ (y : Copy). y.page) (told (suc q) p a u v h e)) (ap (λ (y : Copy). y.valid) (told (suc q) p a u v h e)) (omega arith)
                ∙ ap (λ (l : List ℕ). byte_of l (x % P)) (sym (part_copy g dump p a u v))))
            go (looked.Hole u v) e = aside_none x Z z ∙ ap (λ (l : List ℕ). byte_of l (x % P)) (sym (part_hole g dump u v))
            go (Err f) e = aside_none x Z z ∙ ap (λ (l : List ℕ). byte_of l (x % P)) (sym (part_refused g dump f.answer.refusal f.visits f.answer.need))

        -- and any rows from it on
        shows-upto :
            (k : ℕ) → suc (q + k) ≤ m → (Z : List ℕ) → Every (Aside begin) Z →
            rows_show g dump (rows (suc (q + k)) ++ Z) x ≡ byte_of (part_by g dump (look (suc q))) (x % P)
        shows-upto zero h Z z =
            let e : q + 0 ≡ q = omega arith in
            rw (e, rows_behind q Z)
            (ended_front x (rows q) (row (suc q) (look (suc q)) ++ Z) (before q (le_refl q) (omega arith)) ∙ own Z (omega arith) z)
        shows-upto (suc k) h Z z =
            let e : q + suc k ≡ suc (q + k) = omega arith in
            let c = suc (suc (q + k)) in
            let far : suc q * P ≤ suc (q + k) * P = mul-le-mul_right P (omega arith) in
            let room = suc-mul q P in
            let place : q * P + x % P ≡ x = div-add-mod' x P in
            let small = mod-lt x some in
            rw (e, rows_behind (suc (q + k)) Z)
            (shows-upto k (omega arith) (row c (look c) ++ Z)
            (every_joined (Aside begin) (row c (look c)) Z
            (row-aside c begin (omega arith) (omega (arith, base_suc P (suc (q + k))))) z))

        -- all rows of the file
        pub shows_own : suc q ≤ m → (Z : List ℕ) → Every (Aside begin) Z → rows_show g dump (rows m ++ Z) x ≡ byte_of (part_by g dump (look (suc q))) (x % P)
        shows_own h Z z = let e : suc (q + (m - suc q)) ≡ m = omega arith in rw e at (shows-upto (m - suc q) (omega arith) Z z)
