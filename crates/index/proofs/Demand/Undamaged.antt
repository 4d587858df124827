-- No answer of the paper's is IndexDamaged. A dump is refused for its layout or its length, and a slice as too short; what comes behind that is an
-- addition, which has its own refusals, or demand 2's answer, which knows no index. So no list of such answers has it.
use Prim.Native.Nat.{ℕ, min}
use Rattle.std.specs.Prelude.{Result, Some, Ok, Err}
use mathlib.Core.Bool.{Bool}
use mathlib.Core.List.{List, [], ◌∷◌}
use mathlib.Core.Logic.{⊎_elim}
use mathlib.Core.Path.{◌≡◌, refl, ap, ◌∙◌}
use lib.Dec.{ltb, leb}
use lib.ListN.{length}
use Rattle.page.specs.Lengths.{in_blocks, opened_of}
use Rattle.page.specs.Records.{record_at}
use Rattle.page.specs.declared.geometry.Geometry.{Geometry}
use Rattle.page.specs.declared.refusal.Refusal.{Refusal}
use Rattle.page.specs.declared.refusal.Refusal.TheVariants.{IndexDamaged}
use Rattle.page.proofs.Searching.{clash, by_test}
use Rattle.page.proofs.Lengths.{opened_undamaged}
use Rattle.chunk.specs.Answers.{read_by, buffer_by}
use Rattle.chunk.specs.Lists.{listed_by, words_by}
use Rattle.chunk.specs.Sized.{Sized}
use Rattle.chunk.specs.Sized as sized
use Rattle.chunk.specs.Looked.{Looked}
use Rattle.chunk.specs.Looked as looked
use Rattle.chunk.specs.Listed.{Listed}
use Rattle.chunk.specs.Listed as listed
use Rattle.chunk.proofs.Alike.{unread_by}
use Rattle.chunk.proofs.Undamaged.{size_undamaged, chunk_undamaged, read_undamaged, list_undamaged}
use Rattle.index.specs.Cells.{cells_for}
use Rattle.index.specs.Walks.{seen_says}
use Rattle.index.specs.Requests.{list_answer, Request, start, add, size, chunk, read, part, list, Answer, addition, a_size, a_chunk, a_read, a_list, Refuses, Given, unless_refused, added_by, size_seen, chunk_seen, looked_by, live_seen, answer_by, added_after, answers_by}

-- an answer that is not this refusal, by what it is made of
size_not : (a : Sized) → ((v : ℕ) → a ≡ sized.Refused IndexDamaged v → ⊥) → Refuses IndexDamaged (a_size a) → ⊥
size_not (Ok x) never i = i
size_not (Err e) never i = never e.visits (rw i)

chunk_not : (a : Looked) → ((v m : ℕ) → a ≡ looked.Refused IndexDamaged v m → ⊥) → Refuses IndexDamaged (a_chunk a) → ⊥
chunk_not (looked.Copy p a n v) never i = i
chunk_not (looked.Hole n v) never i = i
chunk_not (Err e) never i = never e.visits e.answer.need (rw i)

read_not : (a : Looked) (buffer : List ℕ) → ((v m : ℕ) → a ≡ looked.Refused IndexDamaged v m → ⊥) → Refuses IndexDamaged (a_read a buffer) → ⊥
read_not (looked.Copy p a n v) buffer never i = i
read_not (looked.Hole n v) buffer never i = i
read_not (Err e) buffer never i = never e.visits e.answer.need (rw i)

list_not : (a : Listed) (words : List ℕ) → ((m : ℕ) → a ≡ listed.Refused IndexDamaged m → ⊥) → Refuses IndexDamaged (a_list a words) → ⊥
list_not (listed.Ids m) words never i = i
list_not (Err e) words never i = never e.need (rw i)

module _ (g : Geometry) (dump : List ℕ) (room : ℕ) where
  -- what holds of every other refusal, and of the answer for any number of pages, holds of the answer
  unless :
      {A : Type 0} (X : A → Type 0) (refuse : Refusal → A) (answer : ℕ → A) (k w : ℕ) →
      ((r : Refusal) → (r ≡ IndexDamaged → ⊥) → X (refuse r)) → ((n : ℕ) → X (answer n)) → X (unless_refused g dump room refuse answer k w)
  unless X refuse answer k w f h = go (opened_of (in_blocks g k) (length dump)) refl
    where
      go : (v : (Result ℕ Refusal)) → opened_of (in_blocks g k) (length dump) ≡ v → X (unless_refused g dump room refuse answer k w)
      go (Err r) e = rw e (f r (λ i. opened_undamaged (in_blocks g k) (length dump) (e ∙ ap Err i)))
      go (Ok n) e = rw e (by_test (ltb (min w room) (cells_for n)) _ (λ t. rw t (f _ (λ i. clash (cc)))) (λ t. rw t (h n)))

  module _ (done : ℕ → Bool) where
    added-undamaged : (p n : ℕ) → Refuses IndexDamaged (addition (added_by g dump room done p n)) → ⊥
    added-undamaged p n =
        by_test (leb n p) _ (λ t. rw t (λ i. clash (cc)))
        (λ t. rw t (by_test (done p) _ (λ u. rw u (λ i. clash (cc))) (λ u. rw u (λ i. i))))

    looked-undamaged : (k w o c v m : ℕ) → looked_by g dump room done k w o c ≡ looked.Refused IndexDamaged v m → ⊥
    looked-undamaged k w o c v m =
        unless (λ (a : Looked). a ≡ looked.Refused IndexDamaged v m → ⊥) (λ r. looked.Refused r 0 0) (chunk_seen g dump room done o c) k w
        (λ (r : Refusal) never (e : looked.Refused r 0 0 ≡ looked.Refused IndexDamaged v m). never (let h : Some r ≡ Some IndexDamaged = ap unread_by e in cc))
        (λ n. chunk_undamaged (seen_says (record_at g dump) done) o n g.layout.«data» c v m)

    -- one answer
    pub answer_undamaged : (r : Request) → Refuses IndexDamaged (answer_by g dump room done r) → ⊥
    unfolding answer_by
    answer_undamaged (start k w seed) = unless (λ (a : (Result Unit Refusal)). Refuses IndexDamaged (addition a) → ⊥) Err (λ n. (Ok tt)) k w (λ r never. never) (λ n i. i)
    answer_undamaged (add k w p) =
        unless (λ (a : (Result Unit Refusal)). Refuses IndexDamaged (addition a) → ⊥) Err (added_by g dump room done p) k w (λ r never. never) (λ n. added-undamaged p n)
    answer_undamaged (size k w o) =
        unless (λ (a : Sized). Refuses IndexDamaged (a_size a) → ⊥) (λ r. sized.Refused r 0) (size_seen g dump room done o) k w (λ r never. never)
        (λ n. size_not _ (size_undamaged (seen_says (record_at g dump) done) o n g.layout.«data»))
    answer_undamaged (chunk k w o c) = chunk_not (looked_by g dump room done k w o c) (looked-undamaged k w o c)
    answer_undamaged (read k w o c buffer) =
        let a = looked_by g dump room done k w o c in
        read_not _ (buffer_by (in_blocks g k) dump buffer (read_by (length buffer) a)) (read_undamaged (length buffer) a (looked-undamaged k w o c))
    answer_undamaged (part k w o c) = λ i. i
    answer_undamaged (list k w buffer) =
        unless (λ (a : Answer). Refuses IndexDamaged a → ⊥) (λ r. a_list (listed.Refused r 0) buffer)
        (λ n. list_answer buffer (live_seen g dump room done n) (listed_by (length buffer) (live_seen g dump room done n))) k w (λ r never. never)
        (λ n.
        let ids = live_seen g dump room done n in
        list_not _ (words_by ids buffer (listed_by (length buffer) ids)) (list_undamaged (length buffer) ids))

  -- a list of answers
  pub answers_undamaged : (rs : List Request) (done : ℕ → Bool) → Given IndexDamaged (answers_by g dump room done rs) → ⊥
  unfolding answers_by
  answers_undamaged [] done i = i
  answers_undamaged (r ∷ rs) done i = ⊎_elim (answer_undamaged done r) (answers_undamaged rs (added_after g dump room done r)) i
