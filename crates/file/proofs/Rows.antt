-- Rows of a table. On a walk, the row of each chunk is free, and then the answer still lies ahead, or it is done, and then it has the answer.
-- Noting a record keeps that: it writes to the row of its own chunk alone, if that is free and the record is the answer.
use Prim.Native.Nat.{ℕ, zero, suc, ◌+◌, ◌-◌, ◌≤◌, ◌<◌, min, max}
use Rattle.std.specs.Prelude.{Option}
use mathlib.Core.Bool.{Bool, true, false, not, ◌&&◌}
use mathlib.Core.List.{List, [], ◌∷◌, ◌++◌, append_assoc}
use mathlib.Core.Path.{◌≡◌, refl, sym, ap, ◌∙◌}
use native.Mathlib.Omega.{arith}
use lib.ListN.{length, take, drop, set, get_or, replicate, length-set, get_or-replicate}
use lib.Seq.{take_all, take-suc, get_or-set_same, get_or-set_other, get_or-drop, drop-set-lt, drop-drop}
use lib.Dec.{eqb}
use borrow.Author.Tests.{eqb-true, eqb-false, eq-eqb, ne_eqb, not-true}
use Rattle.page.specs.Records.{is_header}
use Rattle.page.specs.declared.record.Data.{Data}
use Rattle.page.specs.declared.record.Record.{Record}
use Rattle.page.specs.declared.record.Record.TheVariants as said
use Rattle.page.specs.declared.refusal.Refusal.TheVariants.{IndexDamaged}
use Rattle.page.proofs.Layouts.{and_left, and_right}
use Rattle.page.proofs.Searching.{by_test}
use Rattle.chunk.specs.Records.{base_of}
use Rattle.chunk.specs.Cuts.{hides, leaves}
use Rattle.chunk.specs.Looked.{Looked}
use Rattle.chunk.specs.Looked as looked
use Rattle.chunk.specs.Lookups.{shown_of}
use Rattle.index.specs.Cells.{word, link_to}
use Rattle.index.specs.Chains.{Trace, rec}
use Rattle.index.specs.Walks.{is_shown, found, cut_by}
use Rattle.index.specs.Ahead.{still_newest, ahead}
use Rattle.index.proofs.Walk.Walks.{no_copy_lem}
use Rattle.index.proofs.Walk.Ahead.{ahead_here, ahead_on}
use Rattle.index.proofs.Sorted.Order.{never}
use Rattle.file.specs.Shows.{is_met}
use Rattle.file.specs.Table.{where_word, valid_word, words_of, row_at, rows, noted, closed_word, Closed}
use Rattle.file.proofs.IsMet.{met_in_lem, is_met_lem}

-- a row that has these words
pub record Has (t : List ℕ) (c place valid : ℕ) : Type 0 where
  pub at : word t (row_at c) ≡ place
  pub of : word t (row_at c + 1) ≡ valid

-- a row on the way to an answer
pub data Row (t : List ℕ) (c : ℕ) (rest answer : Looked) : Type 0 where
  free : Has t c 0 0 → rest ≡ answer → Row t c rest answer
  done : 0 < word t (row_at c) → Has t c (where_word answer) (valid_word answer) → Row t c rest answer

-- a row has the answer
abbrev pub Told : List ℕ → ℕ → Looked → Type 0
Told t c answer = Has t c (where_word answer) (valid_word answer)

-- what is noted
abbrev valid_at : (P size : ℕ) → Option ℕ → (ch n : ℕ) → ℕ
valid_at P size cut ch n = min n (leaves cut (base_of P ch) (shown_of P ch size))

abbrev stored : (t : List ℕ) (P size : ℕ) → Option ℕ → (q ch n : ℕ) → List ℕ
stored t P size cut q ch n = set (set t (row_at ch) (link_to q)) (row_at ch + 1) (valid_at P size cut ch n)

-- a record is noted in the free row of its chunk, which is not hidden; or nothing is
pub data Noted (t : List ℕ) (m P size : ℕ) (cut : (Option ℕ)) (q ch n : ℕ) : Type 0 where
  passed : noted t m P size cut q ch n ≡ t → Noted t m P size cut q ch n
  wrote :
      0 < ch →
      ch ≤ m →
      word t (row_at ch) ≡ 0 →
      hides cut (base_of P ch) ≡ false →
      noted t m P size cut q ch n ≡ stored t P size cut q ch n →
      Noted t m P size cut q ch n

module _ (t : List ℕ) (m P size : ℕ) (cut : (Option ℕ)) (q ch n : ℕ) where
  pub noting : Noted t m P size cut q ch n
  unfolding noted
  noting =
      by_test (is_met P m cut ch) _
      (λ a.
      by_test (eqb (word t (row_at ch)) 0) _
      (λ d. let i = met_in_lem P m cut ch a in wrote i.0 i.1 (eqb-true _ _ d) i.2 (rw (a, d) refl))
      (λ d. passed (rw (a, d) refl)))
      (λ a. passed (rw a refl))

  writes :
      0 < ch →
      ch ≤ m →
      word t (row_at ch) ≡ 0 →
      hides cut (base_of P ch) ≡ false →
      noted t m P size cut q ch n ≡ stored t P size cut q ch n
  unfolding noted
  writes h i z b = rw (is_met_lem P m cut ch h i b, eq-eqb (word t (row_at ch)) 0 z)

  -- noting leaves the length
  pub noted_length : length (noted t m P size cut q ch n) ≡ length t
  noted_length = go noting
    where
      go : Noted t m P size cut q ch n → length (noted t m P size cut q ch n) ≡ length t
      go (passed s) = rw s
      go (wrote h i z b s) = rw s (length-set (set t (row_at ch) (link_to q)) _ _ ∙ length-set t _ _)

module _ (t : List ℕ) (P size : ℕ) (cut : (Option ℕ)) (q ch n : ℕ) where
  abbrev first : List ℕ
  first = set t (row_at ch) (link_to q)

  -- the row of another chunk stays as it is
  other : (c w a : ℕ) → 0 < c → 0 < ch → (ch ≡ c → ⊥) → Has t c w a → Has (stored t P size cut q ch n) c w a
  other c w a h i d r = record {
    at =
        get_or-set_other first (row_at ch + 1) (row_at c) (valid_at P size cut ch n) 0 (λ e. absurd (omega arith))
        ∙ get_or-set_other t (row_at ch) (row_at c) (link_to q) 0 (λ e. d (omega arith))
        ∙ r.at;
    of =
        get_or-set_other first (row_at ch + 1) (row_at c + 1) (valid_at P size cut ch n) 0 (λ e. d (omega arith))
        ∙ get_or-set_other t (row_at ch) (row_at c + 1) (link_to q) 0 (λ e. absurd (omega arith))
        ∙ r.of;
  }

  -- its own row has the page and the valid length
  own : (m : ℕ) → 0 < ch → ch ≤ m → words_of m ≤ length t → Has (stored t P size cut q ch n) ch (link_to q) (valid_at P size cut ch n)
  own m h i room = record {
    at =
        get_or-set_other first (row_at ch + 1) (row_at ch) (valid_at P size cut ch n) 0 (λ e. absurd (omega arith))
        ∙ get_or-set_same t (row_at ch) (link_to q) 0 (omega arith);
    of = get_or-set_same first (row_at ch + 1) (valid_at P size cut ch n) 0 (rw (length-set t (row_at ch) (link_to q)) (omega arith));
  }

module _ (says : ℕ → Record) (P size m : ℕ) (t : List ℕ) (newest : Bool) (cut : (Option ℕ)) (chain : Trace) (q : ℕ) (rest : Trace) (e : chain ≡ rec q rest) where
  abbrev from : (c : ℕ) → Bool → Option ℕ → Trace → Looked
  from c = ahead says P c (shown_of P c size)

  module _ (c : ℕ) (answer : Looked) where
    abbrev next : Looked
    next = from c (still_newest says newest q) (cut_by says newest q cut) rest

    -- nothing is noted in the row of the chunk
    done-row : (u : List ℕ) → ((w a : ℕ) → Has t c w a → Has u c w a) → 0 < word t (row_at c) → Told t c answer → Row u c next answer
    done-row u same g f = let r = same _ _ f in done (omega (arith, r.at, f.at)) r

    free-row : (u : List ℕ) → ((w a : ℕ) → Has t c w a → Has u c w a) → is_shown says P c cut q ≡ false → Has t c 0 0 → from c newest cut chain ≡ answer → Row u c next answer
    free-row u same h f a = free (same 0 0 f) (sym (ahead_on says P c (shown_of P c size) newest cut chain q rest e h) ∙ a)

    -- passing a header keeps every row on the way to its answer, and the newest header is no longer ahead
    none-newer : is_header (says q) ≡ true → still_newest says newest q ≡ false
    none-newer h = rw h (by_test newest _ (λ b. rw b refl) (λ b. rw b refl))

    pub header_row : is_header (says q) ≡ true → Row t c (from c newest cut chain) answer → Row t c (from c false (cut_by says newest q cut) rest) answer
    header_row h r = rw (none-newer h) at (go r)
      where
        go : Row t c (from c newest cut chain) answer → Row t c next answer
        go (done g f) = done-row t (λ w a r. r) g f
        go (free f a) = free-row t (λ w a r. r) (rw (no_copy_lem c (says q) h) refl) f a

    -- and so does noting data
    module _ (some : 0 < c) (most : c ≤ m) (room : words_of m ≤ length t) (d : Data) (k : says q ≡ said.Data d) where
      abbrev ch : ℕ
      ch = d.chunk.0

      abbrev noting-here : List ℕ
      noting-here = noted t m P size cut q ch d.count

      -- the record is shown for the chunk
      shown-row : is_shown says P c cut q ≡ true → Has t c 0 0 → from c newest cut chain ≡ answer → (u : List ℕ) → u ≡ stored t P size cut q ch d.count → ch ≡ c → Row u c next answer
      shown-row h f a u i j =
          let l : found says P c (shown_of P c size) cut q 0 ≡ answer = sym (ahead_here says P c (shown_of P c size) newest cut chain q rest e h) ∙ a in
          let o = own t P size cut q ch d.count m (rw j some) (rw j most) room in
          rw (i, ← l, ← j, k) (done (omega (arith, o.at)) o)

      -- what is noted elsewhere
      elsewhere : (ch ≡ c → word t (row_at c) ≡ 0 → hides cut (base_of P c) ≡ false → ⊥) → (w a : ℕ) → Has t c w a → Has noting-here c w a
      elsewhere x w a r = go (noting t m P size cut q ch d.count)
        where
          go : Noted t m P size cut q ch d.count → Has noting-here c w a
          go (passed s) = rw s r
          go (wrote h i z b s) = rw s (other t P size cut q ch d.count c w a some h (λ j. x j (rw j at z) (rw j at b)) r)

      -- the record is a copy of the chunk, and not hidden
      shown_by : is_shown says P c cut q ≡ true → (ch ≡ c) × (hides cut (base_of P c) ≡ false)
      shown_by h =
          let s : eqb ch c && not (hides cut (base_of P c)) ≡ true = rw k at h in
          (eqb-true _ _ (and_left (eqb ch c) _ s), not-true (hides cut (base_of P c)) (and_right (eqb ch c) _ s))

      -- the newest header is still ahead if it was, and data does not cut
      still-newer : still_newest says newest q ≡ newest
      still-newer = rw k (by_test newest _ (λ b. rw b refl) (λ b. rw b refl))

      pub noted_row : Row t c (from c newest cut chain) answer → Row noting-here c (from c newest cut rest) answer
      noted_row r = rw (still-newer, k) at (go r)
        where
          go : Row t c (from c newest cut chain) answer → Row noting-here c next answer
          go (done g f) = done-row noting-here (elsewhere (λ j z b. absurd (omega arith))) g f
          go (free f a) =
              by_test (is_shown says P c cut q) _
              (λ h.
              let j = (shown_by h).0 in
              let w = writes t m P size cut q ch d.count (rw j some) (rw j most) (rw j f.at) (rw j (shown_by h).1) in
              shown-row h f a noting-here w j)
              (λ h.
              free-row noting-here
              (elsewhere (λ j z b. let s : is_shown says P c cut q ≡ true = rw (k, eq-eqb ch c j, b) refl in never (sym h ∙ s)))
              h f a)

-- at the end of a chain a free row is a hole's, and where the chain is damaged it is marked so
module _ (t : List ℕ) (c : ℕ) (rest answer : Looked) where
  pub row_end_lem : (s : ℕ) → Row t c rest answer → rest ≡ looked.Hole s 0 → Told t c answer
  row_end_lem s (free f a) e = let j : looked.Hole s 0 ≡ answer = sym e ∙ a in rw (← j) f
  row_end_lem s (done g f) e = f

  pub row_broken :
      (m : ℕ) (u : List ℕ) → Closed m t u → 0 < c → c ≤ m → Row t c rest answer → rest ≡ looked.Refused IndexDamaged 0 0 → Told u c answer
  row_broken m u d h i (free f a) e =
      let j : looked.Refused IndexDamaged 0 0 ≡ answer = sym e ∙ a in
      rw (← j) (record { at = d.marked c h i ∙ rw f.at; of = d.valid c h i ∙ f.of })
  row_broken m u d h i (done g f) e = record {
    at = d.marked c h i ∙ rw (ne_eqb (word t (row_at c)) 0 (λ z. absurd (omega arith))) f.at;
    of = d.valid c h i ∙ f.of;
  }

-- words that are cleared are free rows
module _ (u : List ℕ) (m : ℕ) (zeros : u ≡ replicate (words_of m) 0) where
  zero_at : (j : ℕ) → j < words_of m → word u j ≡ 0
  zero_at j k = rw zeros (get_or-replicate (words_of m) j 0 0 k)

  pub cleared : (c : ℕ) → 0 < c → c ≤ m → Has u c 0 0
  cleared c h i = record { at = zero_at (row_at c) (omega arith); of = zero_at (row_at c + 1) (omega arith) }

-- the rows as a list
module _ (look : ℕ → Looked) (t : List ℕ) where
  abbrev pub AllTold : ℕ → Type 0
  AllTold m = (c : ℕ) → 0 < c → c ≤ m → Told t c (look c)

  rows_are : (m : ℕ) → words_of m ≤ length t → AllTold m → take (words_of m) t ≡ rows look m
  unfolding rows
  rows_are zero h r = refl
  rows_are (suc m) h r =
      let e : words_of (suc m) ≡ suc (suc (words_of m)) = omega arith in
      let i : suc m - 1 ≡ m = omega arith in
      let one = r (suc m) (omega arith) (omega arith) in
      let j : suc (words_of m) ≡ words_of m + 1 = omega arith in
      let at : get_or t (words_of m) 0 ≡ where_word (look (suc m)) = rw i at one.at in
      let of : get_or t (suc (words_of m)) 0 ≡ valid_word (look (suc m)) = rw j (rw i at one.of) in
      rw e
      (take-suc t (suc (words_of m)) 0 (omega arith)
      ∙ ap (λ (x : List ℕ). x ++ (get_or t (suc (words_of m)) 0 ∷ [])) (take-suc t (words_of m) 0 (omega arith))
      ∙ append_assoc (take (words_of m) t) (get_or t (words_of m) 0 ∷ []) (get_or t (suc (words_of m)) 0 ∷ [])
      ∙ rw (at, of, rows_are m (omega arith) (λ c a b. r c a (omega arith))))

  pub table_is : (m : ℕ) → length t ≡ words_of m → AllTold m → t ≡ rows look m
  table_is m h r = sym (take_all (words_of m) t (omega arith)) ∙ rows_are m (omega arith) r

-- rows of the same words
pub rows_same :
    (a b : ℕ → Looked) (m : ℕ) →
    ((c : ℕ) → 0 < c → c ≤ m → (where_word (a c) ≡ where_word (b c)) × (valid_word (a c) ≡ valid_word (b c))) →
    rows a m ≡ rows b m
unfolding rows
rows_same a b zero h = refl
rows_same a b (suc m) h =
    let s = h (suc m) (omega arith) (omega arith) in
    rw (s.0, s.1, rows_same a b m (λ c i j. h c i (omega arith)))

-- the larger of a row's first word and 1 is closed
pub closed_max : (w : ℕ) → max w 1 ≡ closed_word w
closed_max w = by_test (eqb w 0) _ (λ t. let e : w ≡ 0 = eqb-true _ _ t in rw t (omega arith)) (λ t. let some : w ≡ 0 → ⊥ = eqb-false _ _ t in rw t (omega arith))

-- rows closed one after the other
pub closed_none : (t : List ℕ) → Closed 0 t t
closed_none t = record { long = refl; rest = refl; marked = λ c h i. absurd (omega arith); valid = λ c h i. absurd (omega arith) }

module _ (r : ℕ) (t u : List ℕ) (d : Closed r t u) (room : words_of r + 1 < length t) where
  -- the words behind the closed rows are as they were
  behind_same : (i : ℕ) → word u (words_of r + i) ≡ word t (words_of r + i)
  behind_same i = sym (get_or-drop (words_of r) u i 0) ∙ ap (λ (x : List ℕ). get_or x i 0) d.rest ∙ get_or-drop (words_of r) t i 0

  pub closed_more : (w : ℕ) → w ≡ closed_word (word u (words_of r)) → Closed (r + 1) t (set u (words_of r) w)
  closed_more w e = record { long = length-set u (words_of r) w ∙ d.long; rest = rest; marked = marked; valid = valid }
    where
      more : words_of (r + 1) ≡ words_of r + 2
      more = omega arith

      rest : drop (words_of (r + 1)) (set u (words_of r) w) ≡ drop (words_of (r + 1)) t
      rest =
          drop-set-lt (words_of (r + 1)) u (words_of r) w (omega arith)
          ∙ rw more (sym (drop-drop 2 (words_of r) u) ∙ ap (λ (x : List ℕ). drop 2 x) d.rest ∙ drop-drop 2 (words_of r) t)

      marked : (c : ℕ) → 0 < c → c ≤ r + 1 → word (set u (words_of r) w) (row_at c) ≡ closed_word (word t (row_at c))
      marked c h i =
          by_test (eqb c (r + 1)) _
          (λ k.
          let j : row_at c ≡ words_of r = let z = eqb-true c (r + 1) k in omega arith in
          let z : words_of r + 0 ≡ words_of r = omega arith in
          rw j (get_or-set_same u (words_of r) w 0 (omega (arith, d.long)) ∙ e ∙ ap closed_word (rw z at (behind_same 0))))
          (λ k.
          let z : c ≡ r + 1 → ⊥ = eqb-false c (r + 1) k in
          get_or-set_other u (words_of r) (row_at c) w 0 (λ j. z (omega arith)) ∙ d.marked c h (omega arith))

      valid : (c : ℕ) → 0 < c → c ≤ r + 1 → word (set u (words_of r) w) (row_at c + 1) ≡ word t (row_at c + 1)
      valid c h i =
          get_or-set_other u (words_of r) (row_at c + 1) w 0 (λ j. absurd (omega arith))
          ∙ by_test (eqb c (r + 1)) _
          (λ k. let j : row_at c ≡ words_of r = let z = eqb-true c (r + 1) k in omega arith in rw j (behind_same 1))
          (λ k. let z : c ≡ r + 1 → ⊥ = eqb-false c (r + 1) k in d.valid c h (omega arith))
