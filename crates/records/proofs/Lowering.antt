-- The lowest cut of records and those newer, from the newest to the oldest, and what its words say. A cut is known by the places that it hides; its
-- word is its place, so that the lower of two cuts has no higher word, and the words along the records ascend.
use Prim.Native.Nat.{ℕ, zero, suc, ◌+◌, ◌-◌, ◌≤◌, ◌<◌}
use Rattle.std.specs.Prelude.{Option, Some, None}
use mathlib.Core.Bool.{Bool, true, false}
use mathlib.Core.List.{List, [], ◌∷◌}
use mathlib.Core.Path.{◌≡◌, refl, sym, ap, ◌∙◌}
use native.Mathlib.Nat.{le_refl, le_trans, le_antisymm, not-suc-le-zero, le_of_suc-le-suc}
use native.Mathlib.Omega.{arith}
use borrow.Author.Tests.{leb-true, le-leb, lt-leb}
use lib.ListN.{length, get_or, set, drop, length-set}
use lib.Seq.{drop-length, drop-cons}
use Rattle.page.specs.declared.record.Record.{Record}
use Rattle.page.proofs.Searching.{clash}
use Rattle.sort.specs.Search.{Sorted}
use Rattle.sort.proofs.Behind.{drop_set_at}
use Rattle.chunk.specs.Cuts.{lower, hides, leaves}
use Rattle.records.specs.Lows.{nowhere, cut_word, headless_with, own_cut, low_with, headless, low_of, lows_of}
use Rattle.records.specs.Written.{said_at}

-- two cuts that hide the same are the same
pub cut_same : (a b : Option ℕ) → ((place : ℕ) → hides a place ≡ hides b place) → a ≡ b
cut_same None None h = refl
cut_same None (Some b) h = let z : false ≡ true = h b ∙ le-leb b b (le_refl b) in clash (cc)
cut_same (Some a) None h = let z : false ≡ true = sym (h a) ∙ le-leb a a (le_refl a) in clash (cc)
cut_same (Some a) (Some b) h =
    ap Some (le_antisymm (leb-true a b (h b ∙ le-leb b b (le_refl b))) (leb-true b a (sym (h a) ∙ le-leb a a (le_refl a))))

-- a cut whose word is at or below a place, which is not the last word, hides it, and another does not
pub word_hides : (a : Option ℕ) (place : ℕ) → place < nowhere → cut_word a ≤ place → hides a place ≡ true
word_hides None place h k = absurd (omega arith)
word_hides (Some a) place h k = le-leb a place (omega arith)

pub word_shows : (a : Option ℕ) (place : ℕ) → place < cut_word a → hides a place ≡ false
word_shows None place h = refl
word_shows (Some a) place h = lt-leb a place (omega arith)

-- its word leaves as many bytes as it does, where they end before the last word
pub word_leaves : (a : Option ℕ) (place bytes : ℕ) → place + bytes ≤ nowhere → leaves (Some (cut_word a)) place bytes ≡ leaves a place bytes
word_leaves None place bytes h = omega arith
word_leaves (Some a) place bytes h = omega arith

-- the lower of two cuts has no higher word than the second
pub word_lower : (a b : Option ℕ) → cut_word (lower a b) ≤ cut_word b
word_lower None b = le_refl _
word_lower (Some a) None = omega arith
word_lower (Some a) (Some b) = omega arith

module _ (says : ℕ → Record) where
  -- no record, and one more
  pub headless_none : headless says [] ≡ true
  unfolding headless
  headless_none = refl

  pub headless_one : (a : ℕ) (newer : List ℕ) → headless says (a ∷ newer) ≡ headless_with (said_at says a) (headless says newer)
  unfolding headless
  headless_one a newer = refl

  pub low_none : low_of says [] ≡ None
  unfolding low_of
  low_none = refl

  pub low_one : (a : ℕ) (newer : List ℕ) → low_of says (a ∷ newer) ≡ low_with (headless says newer) (said_at says a) (low_of says newer)
  unfolding low_of
  low_one a newer = refl

  pub lows_none : lows_of says [] ≡ []
  unfolding lows_of
  lows_none = refl

  pub lows_one : (a : ℕ) (newer : List ℕ) → lows_of says (a ∷ newer) ≡ cut_word (low_of says (a ∷ newer)) ∷ lows_of says newer
  unfolding lows_of
  lows_one a newer = refl

  -- as many words as records
  pub lows_length : (ages : List ℕ) → length (lows_of says ages) ≡ length ages
  lows_length [] = rw lows_none
  lows_length (a ∷ newer) = rw (lows_one a newer) (ap suc (lows_length newer))

  -- the words of the newer are the later words
  pub lows_drop : (i : ℕ) (ages : List ℕ) → drop i (lows_of says ages) ≡ lows_of says (drop i ages)
  lows_drop zero ages = refl
  lows_drop (suc i) [] = rw lows_none
  lows_drop (suc i) (a ∷ newer) = rw (lows_one a newer) (lows_drop i newer)

  -- each word is that of the lowest cut from its record on
  pub lows_at : (ages : List ℕ) (j : ℕ) → j < length ages → get_or (lows_of says ages) j 0 ≡ cut_word (low_of says (drop j ages))
  lows_at [] j h = absurd (not-suc-le-zero h)
  lows_at (a ∷ newer) zero h = rw (lows_one a newer)
  lows_at (a ∷ newer) (suc j) h = rw (lows_one a newer) (lows_at newer j (le_of_suc-le-suc h))

  -- the words ascend
  low_word : (a : ℕ) (newer : List ℕ) → cut_word (low_of says (a ∷ newer)) ≤ cut_word (low_of says newer)
  low_word a newer = rw (low_one a newer) (word_lower (own_cut (headless says newer) (said_at says a)) (low_of says newer))

  -- so the first word is the least
  first_least : (ages : List ℕ) (j : ℕ) → j < length ages → cut_word (low_of says ages) ≤ get_or (lows_of says ages) j 0
  first_least [] j h = absurd (not-suc-le-zero h)
  first_least (a ∷ newer) zero h = rw (lows_one a newer) (le_refl _)
  first_least (a ∷ newer) (suc j) h =
      rw (lows_one a newer) (le_trans (low_word a newer) (first_least newer j (le_of_suc-le-suc h)))

  lows_rise : (ages : List ℕ) (i j : ℕ) → i ≤ j → j < length ages → get_or (lows_of says ages) i 0 ≤ get_or (lows_of says ages) j 0
  lows_rise [] i j h k = absurd (not-suc-le-zero k)
  lows_rise (a ∷ newer) zero j h k = let e = lows_at (a ∷ newer) 0 (omega arith) in rw e (first_least (a ∷ newer) j k)
  lows_rise (a ∷ newer) (suc i) zero h k = absurd (not-suc-le-zero h)
  lows_rise (a ∷ newer) (suc i) (suc j) h k = rw (lows_one a newer) (lows_rise newer i j (le_of_suc-le-suc h) (le_of_suc-le-suc k))

  -- and they are sorted
  pub lows_sorted : (ages : List ℕ) → Sorted (lows_of says ages)
  lows_sorted ages = record { rise = λ i j h k. lows_rise ages i j h (rw (lows_length ages) at k) }

  -- the words from place i on are filled: the cut and whether no header was met are those from there on
  pub record Lowered (ages words : List ℕ) (cut : Option ℕ) (newest : Bool) (i : ℕ) : Type 0 where
    pub inside : i ≤ length ages
    pub long : length words ≡ length ages
    pub low : cut ≡ low_of says (drop i ages)
    pub none : newest ≡ headless says (drop i ages)
    pub filled : drop i words ≡ lows_of says (drop i ages)

  -- none of them
  pub lowered_none : (ages words : List ℕ) → length words ≡ length ages → Lowered ages words None true (length ages)
  lowered_none ages words e = record {
    inside = le_refl _;
    long = e;
    low = rw (drop-length ages, low_none);
    none = rw (drop-length ages, headless_none);
    filled = rw (drop-length ages, lows_none) (rw e at (drop-length words));
  }

-- one more, on a page that says k; and all
module _ {says : ℕ → Record} {ages words : List ℕ} {cut : Option ℕ} {newest : Bool} {i : ℕ} (w : Lowered says ages words cut newest i) where
  pub lowered_one :
      {low : Option ℕ} {still : Bool} {word : ℕ} (k : Record) → 0 < i →
      k ≡ said_at says (get_or ages (i - 1) 0) → low ≡ low_with newest k cut → still ≡ headless_with k newest → word ≡ cut_word low →
      Lowered says ages (set words (i - 1) word) low still (i - 1)
  lowered_one {low} {still} {word} k h e l u x =
      let j = i - 1 in
      let s : suc j ≡ i = omega arith in
      let in-ages : j < length ages = omega (arith, w.inside) in
      let on : drop j ages ≡ get_or ages j 0 ∷ drop i ages = rw s at (drop-cons ages j 0 in-ages) in
      let c : low ≡ low_of says (drop j ages) = rw (on, low_one says (get_or ages j 0) (drop i ages), l, e, w.low, w.none) in
      record {
        inside = omega (arith, w.inside);
        long = length-set words j word ∙ w.long;
        low = c;
        none = rw (on, headless_one says (get_or ages j 0) (drop i ages), u, e, w.none);
        filled =
            drop_set_at words j word (omega (arith, w.inside, w.long))
            ∙ rw (s, w.filled, x, c, on) (sym (lows_one says (get_or ages j 0) (drop i ages)));
      }

  pub lowered_all : i ≡ 0 → words ≡ lows_of says ages
  lowered_all e = rw e at w.filled
