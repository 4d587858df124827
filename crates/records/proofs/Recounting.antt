-- What a history means. What is told after the last record is what a size lookup answers; and after another, what it answers at the moment before the
-- next record: of the object it then sees the records up to that one.
use Prim.Native.Nat.{ℕ, suc, ◌≤◌, ◌<◌}
use Rattle.std.specs.Prelude.{Ok}
use mathlib.Core.Bool.{true, false}
use mathlib.Core.List.{List}
use mathlib.Core.Path.{◌≡◌, sym, ◌∙◌}
use native.Mathlib.Omega.{arith}
use borrow.Author.Tests.{lt-ltb, le-ltb, ltb-true}
use lib.Dec.{ltb}
use lib.ListN.{length, get_or}
use Rattle.page.specs.Lengths.{opened_of}
use Rattle.page.specs.Records.{record_at}
use Rattle.page.specs.declared.geometry.Geometry.{Geometry}
use Rattle.page.specs.declared.record.Record.{Record}
use Rattle.page.proofs.Searching.{clash, by_test}
use Rattle.chunk.specs.Answers.{size_on}
use Rattle.chunk.specs.Lookups.{sized_of}
use Rattle.chunk.specs.Moments.{takes_at}
use Rattle.chunk.specs.Records.{age_of, is_of}
use Rattle.chunk.specs.Takes.{seen_by}
use Rattle.chunk.specs.declared.moment.Moment.{Moment}
use Rattle.chunk.specs.declared.moment.Moment.TheVariants.{Now, Before}
use Rattle.chunk.specs.declared.takes.Takes.{Takes}
use Rattle.chunk.specs.declared.takes.Takes.TheVariants.{Every, Older}
use Rattle.chunk.proofs.Records.{seen_own}
use Rattle.why.specs.Answers.{says_at}
use Rattle.records.specs.Histories.{answer_of, sized_after}
use Rattle.records.specs.Written.{is_record, written, page_at}
use Rattle.records.proofs.Accepted.{opened_few, written_good}
use Rattle.records.proofs.Following.{Sees, sized_followed, after_followed, all_followed}
use Rattle.records.proofs.Writing.{written_at, written_rises, written_order}

module _ (pages : ℕ → Record) (o : ℕ) where
  -- where a record is taken, no page is left out that is older
  left_out_lem : (t : Takes) (p q : ℕ) → is_record (seen_by t pages) o p ≡ true → is_record (seen_by t pages) o q ≡ false → is_of o (seen_by (Older (age_of pages p)) pages q) ≡ false
  left_out_lem Every p q h k = by_test (ltb (age_of pages q) (age_of pages p)) _ (λ u. rw (u, k)) (λ u. rw u)
  left_out_lem (Older b) p q h k =
      by_test (ltb (age_of pages q) (age_of pages p)) _
      (λ u.
      by_test (ltb (age_of pages p) b) _
      (λ v.
      let w : age_of pages q < b = omega (arith, ltb-true (age_of pages q) (age_of pages p) u, ltb-true (age_of pages p) b v) in
      rw u (rw (lt-ltb (age_of pages q) b w) at k))
      (λ v. none (rw v at h)))
      (λ u. rw u)
    where
      none : false ≡ true → is_of o (seen_by (Older (age_of pages p)) pages q) ≡ false
      none z = clash (cc)

  -- the moment before the record at a place sees those before it
  module _ (t : Takes) (P n : ℕ) (few : n ≤ 4294967296) where
    abbrev says : ℕ → Record
    says = seen_by t pages

    -- a record that is taken has its own age
    same_age : (i : ℕ) → i < length (written says o n) → age_of pages (page_at says o n i) ≡ get_or (written says o n) i 0
    same_age i h = let w = written_at says o n few i h in rw (← seen_own t pages o (page_at says o n i) w.its) w.age

    -- so that moment sees the records before it and no other
    sees-moment : (i : ℕ) → i < length (written says o n) → Sees says P o n few (seen_by (takes_at pages (Before (record { 0 = page_at says o n i }))) pages) i
    sees-moment i h =
        record {
          seen =
              λ j k l.
              rw (
                lt-ltb (age_of pages (page_at says o n j)) (age_of pages (page_at says o n i)) (rw (same_age j l, same_age i h) (written_rises says o n few j i k h)),
                seen_own t pages o (page_at says o n j) (written_at says o n few j l).its,
              );
          unseen =
              λ j k l.
              rw (le-ltb (age_of pages (page_at says o n j)) (age_of pages (page_at says o n i)) (rw (same_age j l, same_age i h) (written_order says o n few i j k l)));
          others = λ q k u. left_out_lem t (page_at says o n i) q (written_at says o n few i h).its u;
        }

-- object o of an accepted dump of n pages, at a moment
module _ (g : Geometry) (dump : List ℕ) (n : ℕ) (e : opened_of g (length dump) ≡ Ok n) (m : Moment) (o : ℕ) where
  abbrev own : ℕ → Record
  own = says_at g dump m o

  abbrev P : ℕ
  P = g.layout.«data»

  few : n ≤ 4294967296
  few = opened_few g dump n e

  -- the size after the last record is the size
  pub history_last : (i : ℕ) → suc i ≡ length (written own o n) → sized_after own P o n (get_or (written own o n) i 0) ≡ answer_of (sized_of own o n P)
  history_last i h =
      let l : i < length (written own o n) = omega arith in
      let good = written_good g dump (takes_at (record_at g dump) m) o n i few l in
      after_followed own P o n few good i l ∙ sym (all_followed own P o n few good (suc i) (omega arith) h)

  -- and after another it is the size at the moment before the next one
  pub history_before :
      (i : ℕ) → suc i < length (written own o n) →
      sized_after own P o n (get_or (written own o n) i 0) ≡ answer_of (sized_of (says_at g dump (Before (record { 0 = page_at own o n (suc i) })) o) o n P)
  history_before i h =
      let l : i < length (written own o n) = omega arith in
      let good = written_good g dump (takes_at (record_at g dump) m) o n i few l in
      after_followed own P o n few good i l
      ∙ sym (sized_followed own P o n few good i _ l (sees-moment (record_at g dump) o (takes_at (record_at g dump) m) P n few (suc i) h))

-- of a dump as it stands
pub history_now :
    (g : Geometry) (dump : List ℕ) (n : ℕ) → opened_of g (length dump) ≡ Ok n → (o i : ℕ) → suc i ≡ length (written (record_at g dump) o n) →
    sized_after (record_at g dump) g.layout.«data» o n (get_or (written (record_at g dump) o n) i 0) ≡ answer_of (size_on g dump o)
unfolding size_on
history_now g dump n e o i h = history_last g dump n e Now o i h ∙ rw e
