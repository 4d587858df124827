-- What the lent words hold behind an answer of the records of an accepted dump: those of an answer in front, or after a refusal all as they were.
use Prim.Native.Nat.{ℕ, ◌-◌}
use Rattle.std.specs.Prelude.{Result, Ok, Err}
use mathlib.Core.List.{List, ◌++◌}
use mathlib.Core.Path.{◌≡◌, ◌∙◌}
use native.Mathlib.Omega.{arith}
use lib.ListN.{length, drop, replicate}
use Rattle.page.specs.Lengths.{opened_of}
use Rattle.page.specs.declared.geometry.Geometry.{Geometry}
use Rattle.page.specs.declared.refusal.Refusal.{Refusal}
use Rattle.chunk.specs.declared.moment.Moment.{Moment}
use Rattle.why.specs.Answers.{says_at}
use Rattle.records.specs.Answers.{recorded_in, recorded_on, left_on, work_left}
use Rattle.records.specs.Recorded.{Recorded, Records, Refused}

-- what was counted of the records of an accepted dump is the answer
pub record Counted (g : Geometry) (dump : List ℕ) (m : Moment) (o room n : ℕ) (r : Recorded) : Type 0 where
  pub accepted : opened_of g (length dump) ≡ Ok n
  pub is : r ≡ recorded_in (says_at g dump m o) n m o room

module _ {g : Geometry} {dump : List ℕ} {m : Moment} {o room n : ℕ} {r : Recorded} (w : Counted g dump m o room n r) where
  pub recorded_on_lem : r ≡ recorded_on g dump m o room
  unfolding recorded_on
  recorded_on_lem = w.is ∙ rw w.accepted

  -- a refusal leaves the words
  pub left_refused : {why : Refusal} {need : ℕ} → r ≡ Refused why need → (front : ℕ → List ℕ) (words : List ℕ) → words ≡ left_on g dump m o room front words
  left_refused t front words = rw (w.accepted, ← w.is, t)

  -- an answer of k records leaves its words in front, and zeros in front of those that were worked in
  module _ {k : ℕ} (t : r ≡ Records k) where
    pub left_told :
        (front : ℕ → List ℕ) (words : List ℕ) {words₁ : List ℕ} → words₁ ≡ front n → length words₁ ≡ k →
        words₁ ++ drop k words ≡ left_on g dump m o room front words
    left_told front words f l = rw (w.accepted, ← w.is, t, ← f, l)

    pub worked_told : (words : List ℕ) {words₁ : List ℕ} → words₁ ≡ replicate k 0 → words₁ ++ drop k words ≡ work_left g dump m o room words
    unfolding work_left
    worked_told words f = let z : k - 0 ≡ k = omega arith in rw (← recorded_on_lem, t, f, z)
