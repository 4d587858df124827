-- The file of an object record by record. A size lookup that sees the first i records of the object and no other answers what following these one by one
-- comes to: one that sees one less answers so, and the record that it does not see is newer than those before it.
use Prim.Native.Nat.{ℕ, zero, suc, ◌+◌, ◌≤◌, ◌<◌}
use Rattle.std.specs.Prelude.{Result, Err}
use Rattle.page.specs.declared.refusal.Refusal.{Refusal}
use mathlib.Core.Bool.{true, false}
use mathlib.Core.List.{List}
use mathlib.Core.Logic.{inl, inr}
use mathlib.Core.Path.{◌≡◌, refl, sym, ap, ◌∙◌}
use native.Mathlib.Nat.{le_refl}
use native.Mathlib.Numerals.{add-one}
use native.Mathlib.Omega.{arith}
use borrow.Author.Tests.{lt-ltb, le-ltb}
use lib.Dec.{ltb}
use lib.ListN.{length, get_or}
use Rattle.page.specs.Numbers.{bad_object}
use Rattle.page.specs.declared.record.Record.{Record}
use Rattle.page.specs.declared.refusal.Refusal.TheVariants.{NoHeader}
use Rattle.page.proofs.Searching.{clash, by_test}
use Rattle.chunk.specs.Lookups.{sized_of}
use Rattle.chunk.specs.Records.{age_of, is_of, header_of}
use Rattle.chunk.specs.Takes.{seen_by}
use Rattle.chunk.specs.declared.takes.Takes.TheVariants.{Older}
use Rattle.chunk.proofs.Living.{record_some}
use Rattle.chunk.proofs.Meaning.{where_none_is}
use Rattle.records.specs.Histories.{answer_of, sized_after}
use Rattle.records.specs.Steps.{after_with, followed}
use Rattle.records.specs.Written.{page_of, said_at, is_record, written, page_at}
use Rattle.records.proofs.Growing.{state_by, state_of, sized_state, Agree, one_more}
use Rattle.records.proofs.Writing.{either, Placed, written_at, written_place, written_rises, written_order}

-- before the first record, and with one more
module _ (says : ℕ → Record) (P : ℕ) (ages : List ℕ) where
  pub follow_begin : followed says P ages 0 ≡ Err NoHeader
  unfolding followed
  follow_begin = refl

  pub follow_next : (i : ℕ) → followed says P ages (suc i) ≡ after_with P (followed says P ages i) (page_of (get_or ages i 0)) (said_at says (get_or ages i 0))
  unfolding followed
  follow_next i = refl

  -- as a loop takes it
  pub follow_turn :
      (a b : Result ℕ Refusal) (i p : ℕ) (r : Record) → a ≡ followed says P ages i → p ≡ page_of (get_or ages i 0) → r ≡ says p → b ≡ after_with P a p r →
      b ≡ followed says P ages (i + 1)
  follow_turn a b i p r f h l m = m ∙ rw (f, l, h, add-one) (sym (follow_next i))

module _ (says : ℕ → Record) (P o n : ℕ) (few : n ≤ 4294967296) where
  abbrev count : ℕ
  count = length (written says o n)

  abbrev age : (place : ℕ) → ℕ
  age i = get_or (written says o n) i 0

  -- a reading that sees the first i records
  pub record Sees (S : ℕ → Record) (i : ℕ) : Type 0 where
    pub seen : (j : ℕ) → j < i → j < count → S (page_at says o n j) ≡ says (page_at says o n j)
    pub unseen : (j : ℕ) → i ≤ j → j < count → is_of o (S (page_at says o n j)) ≡ false
    pub others : (q : ℕ) → q < n → is_record says o q ≡ false → is_of o (S q) ≡ false

  -- all of them; those below an age
  sees_all : Sees says count
  sees_all = record { seen = λ j h k. refl; unseen = λ j h k. absurd (omega arith); others = λ q h t. t }

  sees_older : (b i : ℕ) → ((j : ℕ) → j < i → j < count → age j < b) → ((j : ℕ) → i ≤ j → j < count → b ≤ age j) → Sees (seen_by (Older b) says) i
  sees_older b i low high =
      record {
        seen = λ j h k. rw (lt-ltb (age_of says (page_at says o n j)) b (rw (written_at says o n few j k).age (low j h k)));
        unseen = λ j h k. rw (le-ltb (age_of says (page_at says o n j)) b (rw (written_at says o n few j k).age (high j h k)));
        others = λ q h t. by_test (ltb (age_of says q) b) _ (λ u. rw u t) (λ u. rw u);
      }

  -- those before the one at place i, and with it
  sees_before : (i : ℕ) → i < count → Sees (seen_by (Older (age i)) says) i
  sees_before i h =
      sees_older (age i) i (λ j k l. written_rises says o n few j i k h)
      (λ j k l. written_order says o n few i j k l)

  sees_with : (i : ℕ) → i < count → Sees (seen_by (Older (suc (age i))) says) (suc i)
  sees_with i h =
      sees_older (suc (age i)) (suc i)
      (λ j k l. omega (arith, written_order says o n few j i (omega arith) h))
      (λ j k l. written_rises says o n few i j k l)

  -- a reading that sees the record at place i as the last, and one that sees those before it
  module _ (i : ℕ) (h : i < count) (S T : ℕ → Record) (v : Sees S (suc i)) (w : Sees T i) where
    agrees : (q : ℕ) → q < n → (q ≡ page_at says o n i → ⊥) → Agree P o n (is_of o) (S q) (T q)
    agrees q k ne =
        by_test (is_record says o q) _
        (λ t.
        let s = written_place says o n few q k t in
        rw (← s.page)
        (either s.place i _
        (λ m. inl (v.seen s.place (omega arith) s.inside ∙ sym (w.seen s.place m s.inside)))
        (λ (m : s.place ≡ i). absurd (ne (sym s.page ∙ ap (page_at says o n) m)))
        (λ m. inr (v.unseen s.place m s.inside, w.unseen s.place (omega arith) s.inside))))
        (λ t. inr (v.others q k t, w.others q k t))

    -- no record that is seen is newer than the last
    newer : (q : ℕ) → q < n → is_of o (S q) ≡ true → age_of S q ≤ age_of S (page_at says o n i)
    newer q k u =
        by_test (is_record says o q) _
        (λ t. at (written_place says o n few q k t) u)
        (λ t. let z : true ≡ false = sym u ∙ v.others q k t in clash (cc))
      where
        at : (s : Placed says o n q) → is_of o (S q) ≡ true → age_of S q ≤ age_of S (page_at says o n i)
        at s u =
            rw (← s.page)
            (either s.place i _
            (λ m.
            rw (v.seen s.place (omega arith) s.inside, v.seen i (le_refl _) h, (written_at says o n few s.place s.inside).age, (written_at says o n few i h).age)
            (omega (arith, written_rises says o n few s.place i m h)))
            (λ (m : s.place ≡ i). rw m (le_refl _))
            (λ m. let z : true ≡ false = sym u ∙ ap (λ (p : ℕ). is_of o (S p)) (sym s.page) ∙ v.unseen s.place m s.inside in clash (cc)))

    -- so it adds that record to what the file was
    with-last : state_of P o n S ≡ after_with P (state_of P o n T) (page_at says o n i) (says (page_at says o n i))
    with-last =
        let own = written_at says o n few i h in
        let e = v.seen i (le_refl _) h in
        one_more P o n few S T (page_at says o n i) own.page (rw e own.its) (w.unseen i (le_refl _) h) agrees newer
        ∙ ap (after_with P (state_of P o n T) (page_at says o n i)) e

  -- a reading that sees no record of the object finds no header
  follow_none : (S : ℕ → Record) → Sees S 0 → state_of P o n S ≡ followed says P (written says o n) 0
  follow_none S v =
      ap (state_by P o n S)
      (where_none_is S (λ q. header_of o (S q)) n
      (λ q k.
      let t : is_of o (S q) ≡ false =
      by_test (is_record says o q) _
      (λ t. let s = written_place says o n few q k t in rw s.page at (v.unseen s.place (omega arith) s.inside))
      (λ t. v.others q k t) in
      rw t))
      ∙ sym (follow_begin says P (written says o n))

  -- so a reading that sees the first i answers what following them comes to
  state_followed : (i : ℕ) (S : ℕ → Record) → i ≤ count → Sees S i → state_of P o n S ≡ followed says P (written says o n) i
  state_followed zero S h v = follow_none S v
  state_followed (suc i) S h v =
      let w = sees_before i h in
      with-last i h S (seen_by (Older (age i)) says) v w
      ∙ ap (λ (a : Result ℕ Refusal). after_with P a (page_at says o n i) (says (page_at says o n i))) (state_followed i (seen_by (Older (age i)) says) (omega arith) w)
      ∙ sym (follow_next says P (written says o n) i)

  -- what a size lookup answers of such a reading, which sees a record
  module _ (good : bad_object o ≡ false) where
    pub sized_followed : (i : ℕ) (S : ℕ → Record) → i < count → Sees S (suc i) → answer_of (sized_of S o n P) ≡ followed says P (written says o n) (suc i)
    sized_followed i S h v =
        let own = written_at says o n few i h in
        sized_state P o n S good (record_some S o (page_at says o n i) n own.page (rw (v.seen i (le_refl _) h) own.its))
        ∙ state_followed (suc i) S h v

    -- after the record at a place, and after all
    pub after_followed : (i : ℕ) → i < count → sized_after says P o n (age i) ≡ followed says P (written says o n) (suc i)
    unfolding sized_after
    after_followed i h = sized_followed i (seen_by (Older (suc (age i))) says) h (sees_with i h)

    pub all_followed : (i : ℕ) → 0 < i → i ≡ count → answer_of (sized_of says o n P) ≡ followed says P (written says o n) i
    all_followed zero h e = absurd (omega arith)
    all_followed (suc i) h e = sized_followed i says (omega arith) (rw e sees_all)
