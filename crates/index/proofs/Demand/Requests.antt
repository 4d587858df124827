-- One request on cells that hold exactly the added pages is answered as the paper says, and leaves cells that hold exactly the pages added
-- after it. So a list of requests is too: by induction, with nothing in it.
use Prim.Native.Nat.{ℕ, ◌≤◌, ◌<◌, min}
use Rattle.std.specs.Prelude.{Result, Ok, Err}
use mathlib.Core.Bool.{Bool, true, false}
use mathlib.Core.List.{List, [], ◌∷◌, ◌++◌}
use mathlib.Core.Path.{◌≡◌, refl, sym, ap, ap₂, ◌∙◌}
use native.Mathlib.Omega.{arith}
use lib.ListN.{length, take, drop, length-set, length-take, length-drop, length-append, length-replicate, take-append-drop, get_or-append}
use lib.Seq.{get_or-take}
use lib.Dec.{ltb, leb, eqb}
use borrow.Author.Tests.{ltb-true, ltb-false, leb-true, leb-false}
use Rattle.page.specs.Choice.{pick}
use Rattle.page.specs.Lengths.{in_blocks, opened_of}
use Rattle.page.specs.Records.{record_at}
use Rattle.page.specs.declared.record.Record.{Record}
use Rattle.page.specs.declared.geometry.Geometry.{Geometry}
use Rattle.page.specs.declared.refusal.Refusal.{Refusal}
use Rattle.page.specs.declared.refusal.Refusal.TheVariants.{AlreadyAdded}
use Rattle.page.proofs.Searching.{by_test}
use Rattle.page.proofs.Lengths.{opened_facts}
use Rattle.page.proofs.Within.{records_any_block}
use Rattle.chunk.specs.Records.{age_of}
use Rattle.chunk.specs.Sized as sized
use Rattle.chunk.specs.Looked as looked
use Rattle.chunk.proofs.Cases.{words_kept}
use Rattle.index.specs.Cells.{cells_for, word, keys, linked, claimed, is_marked}
use Rattle.index.specs.Chains.{objects, top}
use Rattle.index.specs.Additions.{emptied, start_in, start_of, add_other, add_at, add_record, add_to, add_in, add_of}
use Rattle.index.specs.Held.{none_added, with, Held}
use Rattle.index.specs.Walks.{size_in, chunk_in, size_from, chunk_from}
use Rattle.index.specs.Listing.{ids_from, list_from}
use Rattle.index.specs.Requests.{Request, start, add, size, chunk, read, part, list, Answer, addition, a_size, a_chunk, read_answer, part_answer, answer_on, words_after, answers_on, words_of, unless_refused, size_seen, chunk_seen, answer_by, added_after, answers_by, added_of}
use Rattle.index.proofs.Held.Cases.{add_short, add_far}
use Rattle.index.proofs.Held.Additions.{answer_to, add_keeps, add_past, start_past, start_holds}
use Rattle.index.proofs.Held.Slices.{word_swap, held_lent}
use Rattle.index.proofs.Answer.Listings.{ids_same, list_short, list_held}
use Rattle.index.proofs.Answer.Lookups.{size_held, chunk_held}
use Rattle.index.proofs.Sorted.Order.{pages_most, ages_below, ages_differ, header_object}

-- a call changes words, not their number
module _ (n : ℕ) (obj age : ℕ → ℕ) where
  at_length : (c : List ℕ) (p o s : ℕ) (r : (Result ℕ Refusal)) → length (add_at c p o s r).cells ≡ length c
  unfolding add_at linked claimed
  at_length c p o s (Err r) = refl
  at_length c p o s (Ok at) =
      by_test (is_marked c p) _
      (λ t. rw t)
      (λ t. rw t (simp length-set (by_test (eqb (keys c s) o) _ (λ u. rw u) (λ u. rw u (simp length-set)))))

  pub add_length : (c : List ℕ) (p : ℕ) → length (add_to n obj age c p).cells ≡ length c
  unfolding add_to add_other add_record
  add_length c p =
      by_test (ltb (length c) (cells_for n)) _
      (λ t. rw t)
      (λ t.
      rw t
      (by_test (leb n p) _
      (λ u. rw u)
      (λ u.
      rw u
      (by_test (eqb (obj p) 0) _
      (λ v. rw v (by_test (is_marked c p) _ (λ m. rw m) (λ m. rw m (simp length-set))))
      (λ v. rw v (at_length c p (obj p) _ _))))))

module _ (g : Geometry) (dump : List ℕ) (n : ℕ) (accepted : opened_of g (length dump) ≡ Ok n) where
  abbrev says : ℕ → Record
  says = record_at g dump

  abbrev obj : ℕ → ℕ
  obj = objects says

  abbrev age : ℕ → ℕ
  age = age_of says

  few : n ≤ 4294967296
  few = omega (arith, pages_most g dump n accepted)

  old : (x : ℕ) → x < n → age x < top
  old = ages_below g dump n accepted

  -- the dump is refused for a K, or has the same pages for it
  by_block : (k : ℕ) (X : Type 0) → ((r : Refusal) → opened_of (in_blocks g k) (length dump) ≡ Err r → X) → (opened_of (in_blocks g k) (length dump) ≡ Ok n → X) → X
  by_block k X f h = go (opened_of (in_blocks g k) (length dump)) refl
    where
      go : (v : (Result ℕ Refusal)) → opened_of (in_blocks g k) (length dump) ≡ v → X
      go (Err r) e = f r e
      go (Ok m) e =
          let a = (opened_facts (in_blocks g k) (length dump) m e).pages in
          let b = (opened_facts g (length dump) n accepted).pages in
          let same : m ≡ n = sym a ∙ b in
          h (e ∙ ap Ok same)

  -- what one request does, where m is the number of words of the memory
  abbrev Step : ℕ → List ℕ → (ℕ → Bool) → Request → Type 0
  Step m c done r =
      (answer_on g dump c r ≡ answer_by g dump m done r)
      × (Held n obj age (added_after g dump m done r) (words_after g dump c r) × (length (words_after g dump c r) ≡ m))

  module _ (m : ℕ) (some : 0 < n) (c : List ℕ) (done : ℕ → Bool) (held : Held n obj age done c) (size-m : length c ≡ m) where
    -- the words that a call is lent, and the whole memory afterwards
    module _ (w : ℕ) where
      slice-length : length (take w c) ≡ min w m
      slice-length = length-take w c ∙ ap (min w) size-m

      unchanged : Held n obj age done (take w c ++ drop w c) × (length (take w c ++ drop w c) ≡ m)
      unchanged = rw (take-append-drop w c) (held, size-m)

      slice-held : cells_for n ≤ min w m → Held n obj age done (take w c)
      slice-held h = held_lent n obj age some c (take w c) (λ i k. get_or-take w c i 0 (omega arith)) done (rw slice-length h) held

      back : (d : List ℕ) (a : ℕ → Bool) → length d ≡ length (take w c) → Held n obj age a d → Held n obj age a (d ++ drop w c) × (length (d ++ drop w c) ≡ m)
      back d a e q = (
        held_lent n obj age some d (d ++ drop w c) (λ i k. get_or-append d (drop w c) 0 i (omega (arith, q.room))) a (simp length-append (omega (arith, q.room))) q,
        simp (length-append, length-drop) (omega (arith, slice-length)),
      )

    answer-to : (b : Bool) → answer_to b ≡ pick b (Err AlreadyAdded) (Ok tt)
    answer-to true = refl
    answer-to false = refl

    step_start : (k w seed : ℕ) → Step m c done (start k w seed)
    unfolding answer_on words_after answer_by added_after start_of start_in
    step_start k w seed =
        by_block k _
        (λ r e. rw e (refl, unchanged w))
        (λ e.
        rw (e, slice-length w)
        (by_test (ltb (min w m) (cells_for n)) _
        (λ t. rw t (refl, unchanged w))
        (λ t.
        let h : cells_for n ≤ length (take w c) = rw (slice-length w) (ltb-false _ _ t) in
        rw t (
          refl,
          back w (emptied n seed (take w c)) none_added
              (simp (length-set, length-append, length-replicate, length-drop) (omega arith))
              (start_holds n obj age some (take w c) seed h),
        ))))

    step-add : (k w p : ℕ) → Step m c done (add k w p)
    unfolding answer_on words_after answer_by added_after add_of add_in
    step-add k w p =
        by_block k _
        (λ r e. rw e (refl, unchanged w))
        (λ e.
        rw (e, records_any_block g k dump)
        (by_test (ltb (min w m) (cells_for n)) _
        (λ t.
        rw (t, add_short n obj age (take w c) p (rw (slice-length w) (ltb-true _ _ t)))
        (refl, unchanged w))
        (λ t.
        let h : cells_for n ≤ length (take w c) = rw (slice-length w) (ltb-false _ _ t) in
        rw t
        (by_test (leb n p) _
        (λ u. rw (u, add_far n obj age (take w c) p h (leb-true _ _ u)) (refl, unchanged w))
        (λ u.
        let q = add_keeps n obj age (ages_differ g dump n accepted) old done (take w c) (slice-held w (ltb-false _ _ t)) p (leb-false _ _ u) in
        rw u
        (ap addition (q.0 ∙ answer-to (done p)), back w _ (with p done) (add_length n obj age (take w c) p) q.1))))))

    list_same : (k w : ℕ) (buffer : List ℕ) → answer_on g dump c (list k w buffer) ≡ answer_by g dump m done (list k w buffer)
    unfolding answer_on answer_by list_from ids_from
    list_same k w buffer =
        by_block k _
        (λ r e. rw (e, words_kept))
        (λ e.
        rw (e, records_any_block g k dump)
        (by_test (ltb (min w m) (cells_for n)) _
        (λ t. rw (t, list_short says g.layout.«data» (take w c) n (length buffer) (rw (slice-length w) (ltb-true _ _ t)), words_kept))
        (λ t.
        let h = slice-held w (ltb-false _ _ t) in
        rw (
          t,
          list_held says g.layout.«data» n few old (header_object g dump) done (take w c) h some (length buffer),
          ids_same says g.layout.«data» n few old (header_object g dump) done (take w c) h some,
        ))))

    size_same : (k w o : ℕ) → size_from (in_blocks g k) dump (take w c) o ≡ unless_refused g dump m (λ r. sized.Refused r 0) (size_seen g dump m done o) k w
    unfolding size_from size_in
    size_same k w o =
        by_block k _
        (λ r e. rw e)
        (λ e.
        rw (e, records_any_block g k dump)
        (by_test (ltb (min w m) (cells_for n)) _
        (λ t. rw (slice-length w, t))
        (λ t. rw t (size_held says n few old done o g.layout.«data» (take w c) (slice-held w (ltb-false _ _ t))))))

    chunk-same : (k w o q : ℕ) → chunk_from (in_blocks g k) dump (take w c) o q ≡ unless_refused g dump m (λ r. looked.Refused r 0 0) (chunk_seen g dump m done o q) k w
    unfolding chunk_from chunk_in
    chunk-same k w o q =
        by_block k _
        (λ r e. rw e)
        (λ e.
        rw (e, records_any_block g k dump)
        (by_test (ltb (min w m) (cells_for n)) _
        (λ t. rw (slice-length w, t))
        (λ t. rw t (chunk_held says n few old done o g.layout.«data» (take w c) (slice-held w (ltb-false _ _ t)) q))))

    -- one request
    pub step : (r : Request) → Step m c done r
    unfolding answer_on words_after answer_by added_after
    step (start k w seed) = step_start k w seed
    step (add k w p) = step-add k w p
    step (size k w o) = (ap a_size (size_same k w o), (held, size-m))
    step (chunk k w o q) = (ap a_chunk (chunk-same k w o q), (held, size-m))
    step (read k w o q buffer) = (ap (read_answer g dump k buffer) (chunk-same k w o q), (held, size-m))
    step (part k w o q) = (ap (part_answer g dump k) (chunk-same k w o q), (held, size-m))
    step (list k w buffer) = (list_same k w buffer, (held, size-m))

    -- no request stores to a word past the index
    module _ (i : ℕ) (past : cells_for n ≤ i) where
      unchanged-past : (w : ℕ) → word (take w c ++ drop w c) i ≡ word c i
      unchanged-past w = ap (λ (v : List ℕ). word v i) (take-append-drop w c)

      back-past : (w : ℕ) (d : List ℕ) → length d ≡ length (take w c) → word d i ≡ word (take w c) i → word (d ++ drop w c) i ≡ word c i
      back-past w d e h = word_swap d (take w c) (drop w c) i e h ∙ unchanged-past w

      past-start : (k w seed : ℕ) → word (words_after g dump c (start k w seed)) i ≡ word c i
      unfolding words_after start_of start_in
      past-start k w seed =
          by_block k _
          (λ r e. rw e (unchanged-past w))
          (λ e.
          rw e
          (by_test (ltb (length (take w c)) (cells_for n)) _
          (λ t. rw t (unchanged-past w))
          (λ t.
          let h : cells_for n ≤ length (take w c) = ltb-false _ _ t in
          rw t
          (back-past w (emptied n seed (take w c))
          (simp (length-set, length-append, length-replicate, length-drop) (omega arith))
          (start_past n obj age some (take w c) seed h i past)))))

      past-add : (k w p : ℕ) → word (words_after g dump c (add k w p)) i ≡ word c i
      unfolding words_after add_of add_in
      past-add k w p =
          by_block k _
          (λ r e. rw e (unchanged-past w))
          (λ e.
          rw (e, records_any_block g k dump)
          (by_test (ltb (min w m) (cells_for n)) _
          (λ t. rw (add_short n obj age (take w c) p (rw (slice-length w) (ltb-true _ _ t))) (unchanged-past w))
          (λ t.
          let h : cells_for n ≤ length (take w c) = rw (slice-length w) (ltb-false _ _ t) in
          by_test (leb n p) _
          (λ u. rw (add_far n obj age (take w c) p h (leb-true _ _ u)) (unchanged-past w))
          (λ u.
          back-past w (add_to n obj age (take w c) p).cells (add_length n obj age (take w c) p)
          (add_past n obj age (ages_differ g dump n accepted) old done (take w c) (slice-held w (ltb-false _ _ t)) p (leb-false _ _ u) i past)))))

      pub step_past : (r : Request) → word (words_after g dump c r) i ≡ word c i
      unfolding words_after
      step_past (start k w seed) = past-start k w seed
      step_past (add k w p) = past-add k w p
      step_past (size k w o) = refl
      step_past (chunk k w o q) = refl
      step_past (read k w o q buffer) = refl
      step_past (part k w o q) = refl
      step_past (list k w buffer) = refl

  -- a list of requests
  module _ (m : ℕ) (some : 0 < n) where
    pub steps :
        (rs : List Request) (c : List ℕ) (done : ℕ → Bool) → Held n obj age done c → length c ≡ m →
        (answers_on g dump c rs ≡ answers_by g dump m done rs) × Held n obj age (added_of g dump m done rs) (words_of g dump c rs)
    unfolding answers_on answers_by added_of words_of
    steps [] c done held e = (refl, held)
    steps (r ∷ rs) c done held e =
        let s = step m some c done held e r in
        let t = steps rs (words_after g dump c r) (added_after g dump m done r) s.1.0 s.1.1 in
        (ap₂ (λ (a : Answer) (rest : List Answer). a ∷ rest) s.0 t.0, t.1)

    pub steps_past :
        (rs : List Request) (c : List ℕ) (done : ℕ → Bool) → Held n obj age done c → length c ≡ m → (i : ℕ) → cells_for n ≤ i → word (words_of g dump c rs) i ≡ word c i
    unfolding words_of
    steps_past [] c done held e i past = refl
    steps_past (r ∷ rs) c done held e i past =
        let s = step m some c done held e r in
        steps_past rs (words_after g dump c r) (added_after g dump m done r) s.1.0 s.1.1 i past ∙ step_past m some c done held e i past r
