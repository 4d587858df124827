-- Lookups by an index that holds exactly the added pages answer what the rules answer where pages not added read as blank, refusals and
-- visits included, and visit no more records than the object's added ones.
use Prim.Native.Nat.{ℕ, ◌≤◌, ◌<◌, zero-le}
use Rattle.std.specs.Prelude.{Ok}
use mathlib.Core.Bool.{Bool}
use mathlib.Core.List.{List}
use mathlib.Core.Path.{◌≡◌, refl, sym, ◌∙◌}
use native.Mathlib.Omega.{arith}
use lib.ListN.{length}
use borrow.Author.Tests.{le-ltb}
use Rattle.page.specs.Records.{record_at}
use Rattle.page.specs.Lengths.{opened_of}
use Rattle.page.specs.Numbers.{bad_object, bad_chunk}
use Rattle.page.specs.declared.record.Record.{Record}
use Rattle.page.specs.declared.geometry.Geometry.{Geometry}
use Rattle.page.proofs.Searching.{by_test}
use Rattle.page.proofs.Within.{object_within}
use Rattle.chunk.specs.Records.{age_of}
use Rattle.chunk.specs.Newest.{records}
use Rattle.chunk.specs.Lookups.{sized_of, looked_of}
use Rattle.chunk.proofs.Cases.{size_bad, size_by_file, chunk_bad_object, chunk_bad_number, chunk_by_file}
use Rattle.index.specs.Chains.{objects, top}
use Rattle.index.specs.Held.{Held}
use Rattle.index.specs.Walks.{seen_says, size_visits, chunk_visits, size_in, chunk_in, chunk_from}
use Rattle.index.proofs.Answer.Walked.{size_seen_lem, chunk_seen_lem, size_visits_seen, chunk_visits_seen}
use Rattle.index.proofs.Sorted.Order.{pages_most, ages_below}

module _
    (says : ℕ → Record) (n : ℕ) (few : n ≤ 4294967296)
    (old : (x : ℕ) → x < n → age_of says x < top)
    (added : ℕ → Bool) (o P : ℕ)
  where
    abbrev S : ℕ → Record
    S = seen_says says added

    -- by the rules
    pub size_visited : size_visits (sized_of S o n P) ≤ records S o n
    size_visited =
        by_test (bad_object o) _
        (λ t. rw (size_bad S o n P t) zero-le)
        (λ t.
        let pos : 0 < o = (object_within o t).least in
        rw (size_by_file S o n P t, ← size_seen_lem says n few old added o pos P) (size_visits_seen says n few old added o pos P))

    pub chunk_visited : (c : ℕ) → chunk_visits (looked_of S o n P c) ≤ records S o n
    chunk_visited c =
        by_test (bad_object o) _
        (λ t. rw (chunk_bad_object S o n P c t) zero-le)
        (λ t.
        by_test (bad_chunk c) _
        (λ u. rw (chunk_bad_number S o n P c t u) zero-le)
        (λ u.
        let pos : 0 < o = (object_within o t).least in
        rw (chunk_by_file S o n P c t u, ← chunk_seen_lem says n few old added o pos P c)
        (chunk_visits_seen says n few old added o pos P c)))

    -- by the index
    module _ (cells : List ℕ) (held : Held n (objects says) (age_of says) added cells) where
      pub size_held : size_in says P cells o n ≡ sized_of S o n P
      unfolding size_in
      size_held =
          rw (le-ltb _ _ held.room)
          (by_test (bad_object o) _
          (λ t. rw t (sym (size_bad S o n P t)))
          (λ t.
          let pos : 0 < o = (object_within o t).least in
          rw (t, held.chains o pos) (size_seen_lem says n few old added o pos P ∙ sym (size_by_file S o n P t))))

      pub chunk_held : (c : ℕ) → chunk_in says P cells o n c ≡ looked_of S o n P c
      unfolding chunk_in
      chunk_held c =
          rw (le-ltb _ _ held.room)
          (by_test (bad_object o) _
          (λ t. rw t (sym (chunk_bad_object S o n P c t)))
          (λ t.
          rw t
          (by_test (bad_chunk c) _
          (λ u. rw u (sym (chunk_bad_number S o n P c t u)))
          (λ u.
          let pos : 0 < o = (object_within o t).least in
          rw (u, held.chains o pos)
          (chunk_seen_lem says n few old added o pos P c ∙ sym (chunk_by_file S o n P c t u))))))

-- an accepted dump of n pages
module _
    (g : Geometry) (dump : List ℕ) (n : ℕ) (e : opened_of g (length dump) ≡ Ok n)
    (added : ℕ → Bool) (cells : List ℕ)
    (held : Held n (objects (record_at g dump)) (age_of (record_at g dump)) added cells)
    (o : ℕ)
  where
    few-pages : n ≤ 4294967296
    few-pages = omega (arith, pages_most g dump n e)

    abbrev D : ℕ → Record
    D = seen_says (record_at g dump) added

    pub chunk_from_held :
        (c : ℕ) →
        (chunk_from g dump cells o c ≡ looked_of D o n g.layout.«data» c) × (chunk_visits (chunk_from g dump cells o c) ≤ records D o n)
    unfolding chunk_from
    chunk_from_held c =
        rw (e, chunk_held (record_at g dump) n few-pages (ages_below g dump n e) added o g.layout.«data» cells held c)
        (refl, chunk_visited (record_at g dump) n few-pages (ages_below g dump n e) added o g.layout.«data» c)
