-- The rows of chunks and places. Each record has one row, and no other row is there; they ascend, so that the last of a chunk has its last place. At
-- that place is the newest copy of the chunk: the places of records go by their ages.
use Prim.Native.Nat.{ℕ, zero, suc, ◌+◌, ◌-◌, ◌<◌}
use mathlib.Core.List.{List, [], ◌∷◌, ◌++◌}
use mathlib.Core.Path.{◌≡◌, refl, sym, ap, ◌∙◌}
use native.Mathlib.Nat.{le_of_suc-le-suc}
use native.Mathlib.Omega.{arith}
use borrow.Author.Tests.{leb-true, leb-false}
use lib.Dec.{leb}
use lib.ListN.{length, get_or, set, take, drop}
use Rattle.page.specs.declared.record.Record.{Record}
use Rattle.page.proofs.Searching.{by_test}
use Rattle.sort.specs.Arranged.{arranged}
use Rattle.sort.specs.Packed.{packed, key_of, value_of}
use Rattle.sort.specs.Search.{Parted}
use Rattle.sort.proofs.Arranging.{arranged_length}
use Rattle.sort.proofs.Places.{in_at, at_in, arranged_sorted}
use Rattle.sort.proofs.Splitting.{all_first}
use Rattle.sort.proofs.Times.{in_arranged, arranged_in}
use Rattle.chunk.specs.Records.{chunk_of}
use Rattle.chunk.proofs.Laying.{laid, laid_more, laid_all}
use Rattle.records.specs.Copies.{placed_from, places_of, HasChunk, LastPlace}
use Rattle.records.specs.Written.{said_at}

-- ---- the last place of a chunk

module _ (chunk : ℕ) (rows : List ℕ) (r : ℕ) (w : HasChunk chunk rows) (part : Parted (packed chunk 0xFFFFFFFF) rows r) where
  -- the chunk's rows are below the row of its last word
  before : (j : ℕ) → j < length rows → key_of (get_or rows j 0) ≡ chunk → j < r
  before j h e =
      by_test (leb r j) _
      (λ t. absurd (omega (arith, part.high j (leb-true r j t) h, w.places j h)))
      (λ t. leb-false r j t)

  -- so that one is
  pub some_before : 0 < r
  some_before = omega (arith, before w.row w.inside w.its)

  -- and the last of them is the chunk's last
  pub last_before : LastPlace chunk rows (value_of (get_or rows (r - 1) 0))
  last_before =
      let b = before w.row w.inside w.its in
      let low = part.low (r - 1) (omega arith) in
      let high = w.sorted.rise w.row (r - 1) (omega arith) (omega (arith, part.inside)) in
      record {
        row = r - 1;
        inside = omega (arith, part.inside);
        its = omega (arith, w.its);
        word = omega arith;
        last = λ j h e. omega (arith, before j h e, w.sorted.rise j (r - 1) (omega (arith, before j h e)) (omega (arith, part.inside)));
      }

-- ---- the rows of ages

module _ (says : ℕ → Record) where
  -- there is one for each age
  pub placed_length : (b : ℕ) (L : List ℕ) → length (placed_from says b L) ≡ length L
  unfolding placed_from
  placed_length b [] = refl
  placed_length b (a ∷ L) = ap suc (placed_length (suc b) L)

  -- with the chunk of its record, and its place
  placed_from_lem : (b i : ℕ) (L : List ℕ) → i < length L → get_or (placed_from says b L) i 0 ≡ packed (chunk_of (said_at says (get_or L i 0))) (b + i)
  unfolding placed_from
  placed_from_lem b i [] h = absurd (omega arith)
  placed_from_lem b zero (a ∷ L) h = let e : b ≡ b + 0 = omega arith in ap (packed (chunk_of (said_at says a))) e
  placed_from_lem b (suc i) (a ∷ L) h =
      let e : suc b + i ≡ b + suc i = omega arith in
      placed_from_lem (suc b) i L (le_of_suc-le-suc h) ∙ ap (packed (chunk_of (said_at says (get_or L i 0)))) e

  -- from place 0 on
  pub placed_at : (i : ℕ) (L : List ℕ) → i < length L → get_or (placed_from says 0 L) i 0 ≡ packed (chunk_of (said_at says (get_or L i 0))) i
  placed_at i L h = let e : 0 + i ≡ i = omega arith in placed_from_lem 0 i L h ∙ ap (packed (chunk_of (said_at says (get_or L i 0)))) e

  module _ (L : List ℕ) (few : length L < 0xFFFFFFFF) where
    -- the chunk of the record at a place
    abbrev chunk_in : ℕ → ℕ
    chunk_in i = chunk_of (said_at says (get_or L i 0))

    -- the age that a row is of
    record Row (x : ℕ) : Type 0 where
      place : ℕ
      inside : place < length L
      its : x ≡ packed (chunk_in place) place

    -- each row is of one
    row_of : (j : ℕ) → j < length (places_of says L) → Row (get_or (places_of says L) j 0)
    row_of j h =
        let x = get_or (places_of says L) j 0 in
        let s = in_at x (placed_from says 0 L) (arranged_in x (placed_from says 0 L) (at_in j (places_of says L) h)) in
        let k : s.place < length L = rw (placed_length 0 L) at s.inside in
        record { place = s.place; inside = k; its = sym s.here ∙ placed_at s.place L k }

    -- and each has one
    record Its (i : ℕ) : Type 0 where
      row : ℕ
      inside : row < length (places_of says L)
      its : get_or (places_of says L) row 0 ≡ packed (chunk_in i) i

    its_row : (i : ℕ) → i < length L → Its i
    its_row i h =
        let e = placed_at i L h in
        let x = get_or (placed_from says 0 L) i 0 in
        let s = in_at x (places_of says L) (in_arranged x (placed_from says 0 L) (at_in i (placed_from says 0 L) (rw (placed_length 0 L) h))) in
        record { row = s.place; inside = s.inside; its = s.here ∙ e }

    -- so the rows have the chunk of the record at each place
    pub has_chunk : (i : ℕ) → i < length L → HasChunk (chunk_in i) (places_of says L)
    has_chunk i h =
        let r = its_row i h in
        record {
          sorted = arranged_sorted (placed_from says 0 L);
          places = λ j k. let s = row_of j k in omega (arith, s.its, s.inside);
          row = r.row;
          inside = r.inside;
          its = omega (arith, r.its);
        }

    -- and its last place is that of the last record of the chunk
    pub record LastOf (chunk place : ℕ) : Type 0 where
      pub inside : place < length L
      pub its : chunk_in place ≡ chunk
      pub last : (j : ℕ) → place < j → j < length L → chunk_in j ≡ chunk → ⊥

    pub last_of : (c q : ℕ) → LastPlace c (places_of says L) q → LastOf c q
    last_of c q w =
        let s = row_of w.row w.inside in
        let e : q ≡ s.place = omega (arith, w.its, w.word, s.its, s.inside) in
        let k : chunk_in s.place ≡ c = omega (arith, w.its, w.word, s.its, s.inside) in
        record {
          inside = rw e s.inside;
          its = rw e k;
          last = λ j h l m. let r = its_row j l in omega (arith, r.its, w.last r.row r.inside (omega (arith, r.its)));
        }

  -- as many in order
  pub places_length : (L : List ℕ) → length (places_of says L) ≡ length L
  places_length L = arranged_length (placed_from says 0 L) ∙ placed_length 0 L

  -- one more laid over as many words
  pub placed_more :
      (L words : List ℕ) (i : ℕ) → i < length L → length words ≡ length L →
      set (laid (placed_from says 0 L) words i) i (packed (chunk_of (said_at says (get_or L i 0))) i) ≡ laid (placed_from says 0 L) words (i + 1)
  placed_more L words i h k =
      rw (← placed_at i L h) (laid_more (placed_from says 0 L) words i (omega arith) (omega (arith, placed_length 0 L)))

  -- all of them, laid over as many words and sorted
  pub placed_sorted :
      (L words₀ words : List ℕ) (i : ℕ) → i ≡ length L → length words₀ ≡ length L → words ≡ laid (placed_from says 0 L) words₀ i →
      arranged (take i words) ++ drop i words ≡ places_of says L
  placed_sorted L words₀ words i e k w =
      let a : words ≡ placed_from says 0 L = w ∙ laid_all (placed_from says 0 L) words₀ i (omega (arith, placed_length 0 L)) (omega arith) in
      sym (all_first i words (rw a (omega (arith, placed_length 0 L)))) ∙ ap arranged a
