-- The chunks of a file are those that it does not end before; and a row has the words of its chunk's lookup.
use Prim.Native.Nat.{ℕ, zero, suc, ◌-◌, ◌*◌, ◌/◌, ◌%◌, ◌≤◌, ◌<◌}
use Rattle.std.specs.Prelude.{Result, Ok, Err, MatchResult}
use mathlib.Core.Bool.{Bool, false}
use mathlib.Core.List.{List, [], ◌++◌}
use mathlib.Core.Path.{◌≡◌, refl, sym, ap, ◌∙◌}
use native.Mathlib.Nat.{mul-le-mul_right, div-zero, mod-zero}
use native.Mathlib.Omega.{arith}
use lib.ListN.{length, drop}
use lib.Dec.{leb}
use borrow.Author.Tests.{leb-true, leb-false, lt-ltb, le-ltb}
use Rattle.std.specs.Int.{div_ceil}
use Rattle.std.proofs.lemmas.Grind.{div_ceil_times}
use Rattle.page.specs.Numbers.{most_chunk, bad_chunk}
use Rattle.page.specs.Records.{record_at}
use Rattle.page.specs.Lengths.{opened_of}
use Rattle.page.specs.declared.geometry.Geometry.{Geometry}
use Rattle.page.specs.declared.refusal.Refusal.TheVariants.{ShortBuffer}
use Rattle.page.proofs.Layouts.{roomy_facts}
use Rattle.page.proofs.Lengths.{opened_facts}
use Rattle.page.proofs.Searching.{by_test}
use Rattle.page.proofs.Within.{chunk_good}
use Rattle.chunk.specs.Records.{age_of, base_of}
use Rattle.chunk.specs.Lookups.{looked_of}
use Rattle.chunk.specs.Answers.{valid_part, part_by}
use Rattle.chunk.specs.Looked.{Looked}
use Rattle.chunk.specs.Looked as looked
use Rattle.chunk.specs.Sized as sized
use Rattle.chunk.proofs.Cases.{part_copy, part_hole, part_refused}
use Rattle.index.specs.Cells.{link_to}
use Rattle.index.specs.Slots.{first_link}
use Rattle.index.specs.Chains.{objects}
use Rattle.index.specs.Held.{Held}
use Rattle.index.specs.Walks.{seen_says, size_from, chunk_from}
use Rattle.index.specs.Ahead.{unvisited}
use Rattle.index.proofs.Answer.Lookups.{chunk_from_held}
use Rattle.index.proofs.Walk.Ahead.{chunk_ahead}
use Rattle.file.specs.Table.{where_word, valid_word, row_part, words_of, chunks_in, rows, all_ahead, table_by, table_from, filled_by}
use Rattle.file.specs.Tabled as tabled
use Rattle.file.proofs.Rows.{rows_same}

-- a chunk of the table has a number, and the file does not end before it
pub chunk_before : (P z c : ℕ) → 0 < c → c ≤ chunks_in P z → (bad_chunk c ≡ false) × (base_of P c < z)
unfolding chunks_in
chunk_before zero z c h i =
    let d : z / 0 ≡ 0 = div-zero z in
    let r : z % 0 ≡ z = mod-zero z in
    (chunk_good c (record { least = h; most = omega arith }), omega arith)
chunk_before (suc P) z c h i =
    let b = div_ceil_times z (suc P) (omega arith) in
    let e : c ≡ suc (c - 1) = omega arith in
    let m : suc (c - 1) * suc P ≤ div_ceil z (suc P) * suc P = mul-le-mul_right (suc P) (omega arith) in
    (chunk_good c (record { least = h; most = omega arith }), omega arith)

-- and those are all
pub chunk_in_lem : (P z c : ℕ) → 0 < P → 0 < c → c ≤ most_chunk → base_of P c < z → c ≤ chunks_in P z
unfolding chunks_in
chunk_in_lem P z c p h m b =
    let most : z ≤ div_ceil z P * P = (div_ceil_times z P p).0 in
    by_test (leb c (div_ceil z P)) _ (λ t. let i : c ≤ div_ceil z P = leb-true _ _ t in omega arith)
    (λ t.
    let i : div_ceil z P < c = leb-false _ _ t in
    let n : div_ceil z P * P ≤ (c - 1) * P = mul-le-mul_right P (omega arith) in
    absurd (omega arith))

-- all have numbers
pub chunks_most : (P z : ℕ) → chunks_in P z ≤ most_chunk
unfolding chunks_in
chunks_most P z = omega arith

-- the words of a row do not go by the records visited
same_words : (a : Looked) → (where_word (unvisited a) ≡ where_word a) × (valid_word (unvisited a) ≡ valid_word a)
same_words (looked.Copy p a s v) = (refl, refl)
same_words (looked.Hole s v) = (refl, refl)
same_words (Err e) = (refl, refl)

-- a row whose first word is below 2 names no bytes, and another the first bytes of a page
module _ (g : Geometry) (dump : List ℕ) (place valid : ℕ) where
  pub row_none : place < 2 → row_part g dump place valid ≡ []
  unfolding row_part
  row_none h = rw (lt-ltb place 2 h)

  pub row_page : 2 ≤ place → row_part g dump place valid ≡ valid_part g dump (place - 2) valid
  unfolding row_part
  row_page h = rw (le-ltb place 2 h)

-- the part that a row names is the one that the lookup lends
pub row_part_lem : (g : Geometry) (dump : List ℕ) (a : Looked) → row_part g dump (where_word a) (valid_word a) ≡ part_by g dump a
row_part_lem g dump (looked.Copy p a s v) =
    let e : link_to p.0 - 2 ≡ p.0 = omega arith in
    row_page g dump (link_to p.0) a (omega arith) ∙ rw e (sym (part_copy g dump p a s v))
row_part_lem g dump (looked.Hole s v) = row_none g dump 0 0 (omega arith) ∙ sym (part_hole g dump s v)
row_part_lem g dump (Err e) = row_none g dump 1 0 (omega arith) ∙ sym (part_refused g dump e.answer.refusal e.visits e.answer.need)

-- what `map_err` leaves as it was
pub ok_before :
    {T E : Type 0} (D : Type 0) (r : Result T E) (x : T) → MatchResult r (λ y. ◌≡◌ {A = Result T D} (Ok x) (Ok y)) (λ e. ⊥) → r ≡ Ok x
ok_before D (Ok y) x h = cc
ok_before D (Err e) x h = absurd h

-- an accepted dump has data in its pages
pub data_some : (g : Geometry) (n m : ℕ) → opened_of g n ≡ Ok m → 0 < g.layout.«data»
data_some g n m e = let f = roomy_facts g.layout (opened_facts g n m e).room in omega (arith, f.header)

module _
    (g : Geometry) (dump cells : List ℕ) (o z v n : ℕ)
    (e : opened_of g (length dump) ≡ Ok n)
    (s : size_from g dump cells o ≡ sized.Size z v)
  where
    -- the rows that one walk fills are those of the lookups
    pub rows_looked :
        rows (all_ahead (record_at g dump) g.layout.«data» z n cells o (first_link n cells o)) (chunks_in g.layout.«data» z)
        ≡ rows (chunk_from g dump cells o) (chunks_in g.layout.«data» z)
    rows_looked =
        rows_same _ _ _
        (λ c h i.
        let b = chunk_before g.layout.«data» z c h i in
        rw (chunk_ahead g dump cells o z v n e s c b.0 b.1) (same_words (chunk_from g dump cells o c)))

    -- what is answered, and left in the table
    module _ (table : List ℕ) where
      pub table_short :
          length table < words_of (chunks_in g.layout.«data» z) →
          table_from g dump cells o (length table) ≡ tabled.Refused ShortBuffer (words_of (chunks_in g.layout.«data» z))
      unfolding table_from table_by
      table_short h = rw (s, lt-ltb _ _ h)

      pub table_filled :
          filled_by (chunk_from g dump cells o) table (tabled.Rows z (chunks_in g.layout.«data» z))
          ≡ rows (all_ahead (record_at g dump) g.layout.«data» z n cells o (first_link n cells o)) (chunks_in g.layout.«data» z) ++ drop (words_of (chunks_in g.layout.«data» z)) table
      unfolding filled_by
      table_filled = ap (λ (x : List ℕ). x ++ drop (words_of (chunks_in g.layout.«data» z)) table) (sym rows_looked)

-- on cells that hold exactly the added pages, each row is what the rules answer where pages not added read as blank
pub rows_held :
    (g : Geometry) (dump : List ℕ) (n : ℕ) (e : opened_of g (length dump) ≡ Ok n)
    (added : ℕ → Bool) (cells : List ℕ) (held : Held n (objects (record_at g dump)) (age_of (record_at g dump)) added cells) (o m : ℕ) →
    rows (chunk_from g dump cells o) m ≡ rows (looked_of (seen_says (record_at g dump) added) o n g.layout.«data») m
rows_held g dump n e added cells held o m =
    rows_same _ _ m (λ c h i. rw (chunk_from_held g dump n e added cells held o c).0 (refl, refl))
