-- By its records in their order, an object has the size that the rules give, and shows the copies that their lookups answer: a walk along the list is a
-- lookup where every page reads as it is.
use Prim.Native.Nat.{ℕ, ◌≤◌, ◌<◌, zero-le}
use Rattle.std.specs.Prelude.{Ok, Err}
use mathlib.Core.Bool.{true, false}
use mathlib.Core.List.{List, [], ◌∷◌, map}
use mathlib.Core.Logic.{inl}
use mathlib.Core.Path.{◌≡◌, refl, sym, ap, ◌∙◌}
use native.Mathlib.Omega.{arith}
use lib.ListN.{length, length-map}
use Rattle.page.specs.Lengths.{opened_of}
use Rattle.page.specs.Numbers.{bad_object}
use Rattle.page.specs.Records.{record_at}
use Rattle.page.specs.declared.geometry.Geometry.{Geometry}
use Rattle.page.specs.declared.record.Record.{Record}
use Rattle.page.specs.declared.refusal.Refusal.{Refusal}
use Rattle.page.specs.declared.refusal.Refusal.TheVariants.{NoObject}
use Rattle.page.proofs.Within.{object_within}
use Rattle.sort.specs.Ascending.{In}
use Rattle.chunk.specs.Lookups.{sized_of, looked_of}
use Rattle.chunk.specs.Live.{object_at, object_ids}
use Rattle.chunk.specs.Records.{age_of}
use Rattle.chunk.specs.Sized.{Sized}
use Rattle.chunk.specs.Sized as sized
use Rattle.chunk.proofs.Cases.{size_by_file, chunk_by_file}
use Rattle.chunk.proofs.Living.{objects_in_lem, objects_of_lem}
use Rattle.index.specs.Ahead.{unvisited}
use Rattle.index.specs.Chains.{objects}
use Rattle.index.specs.Held.{from_list}
use Rattle.index.specs.Walks.{size_reached, reach, size_walk}
use Rattle.index.proofs.Answer.Walked.{size_seen_lem, chunk_seen_lem}
use Rattle.index.proofs.Sorted.Order.{pages_most, ages_below}
use Rattle.index.proofs.Sorted.Records.{recs_in, recs_of}
use Rattle.index.proofs.Walk.Ahead.{walk_ahead}
use Rattle.file.specs.Along.{copies_along}
use Rattle.file.specs.Copies.{packed_copy, copy_in, copies_to}
use Rattle.file.specs.Table.{chunks_in}
use Rattle.file.proofs.Chunks.{chunk_before}
use Rattle.file.proofs.Listing.{along_few}
use Rattle.file.proofs.Shown.{copies_same, copy_unvisited}
use Rattle.compare.specs.Prepared.{records_of, rows_of}

-- a list with a member is longer than none
in_some : (x : ℕ) (L : List ℕ) → In x L → 0 < length L
in_some x [] i = absurd i
in_some x (y ∷ L) i = omega arith

-- a list without members is empty
in_none : (L : List ℕ) → ((x : ℕ) → In x L → ⊥) → L ≡ []
in_none [] h = refl
in_none (x ∷ L) h = absurd (h x (inl refl))

-- an accepted dump of n pages
module _ (g : Geometry) (dump : List ℕ) (n : ℕ) (e : opened_of g (length dump) ≡ Ok n) where
  abbrev says : ℕ → Record
  says = record_at g dump

  -- the pages are no more than a word tells apart
  few : n ≤ 4294967296
  few = omega (arith, pages_most g dump n e)

  -- an object that may be one
  module _ (o : ℕ) (good : bad_object o ≡ false) (P : ℕ) where
    abbrev list : List ℕ
    list = records_of says n o

    -- its id is not 0
    pos : 0 < o
    pos = (object_within o good).least

    -- along its records its size is that of the lookup
    pub size_recorded : size_walk (record_at g dump) P (from_list (records_of (record_at g dump) n o)) ≡ sized_of (record_at g dump) o n P
    size_recorded = size_seen_lem says n few (ages_below g dump n e) (λ _. true) o pos P ∙ sym (size_by_file says o n P good)

    -- and the copies are those of its chunks' lookups
    pub copies_recorded :
        (z v : ℕ) → sized_of (record_at g dump) o n P ≡ sized.Size z v →
        copies_along (record_at g dump) P z (records_of (record_at g dump) n o) ≡ copies_to (looked_of (record_at g dump) o n P) (chunks_in P z)
    unfolding copies_along
    copies_recorded z v s =
        copies_same _ _ (chunks_in P z)
        (λ c h i.
        let b = chunk_before P z c h i in
        let seen = chunk_seen_lem says n few (ages_below g dump n e) (λ _. true) o pos P c ∙ sym (chunk_by_file says o n P c good b.0) in
        ap (copy_in c) (walk_ahead says P c z v b.1 (from_list list) (size_recorded ∙ s) ∙ ap unvisited seen)
        ∙ copy_unvisited c (looked_of says o n P c))

    -- the rows of a live file are those of these copies
    pub rows_sized_lem :
        (z v : ℕ) → sized_of (record_at g dump) o n P ≡ sized.Size z v →
        rows_of (record_at g dump) n P o ≡ map packed_copy (copies_along (record_at g dump) P z (records_of (record_at g dump) n o))
    rows_sized_lem z v s = rw s (ap (map packed_copy) (sym (copies_recorded z v s)))

    -- what is no live file has none
    pub rows_refused : (r : Refusal) (v : ℕ) → sized_of (record_at g dump) o n P ≡ sized.Refused r v → rows_of (record_at g dump) n P o ≡ []
    rows_refused r v s = rw s refl

    -- they are no more than its records
    pub rows_few : length (rows_of (record_at g dump) n P o) ≤ length (records_of (record_at g dump) n o)
    rows_few = go (sized_of says o n P) refl
      where
        go : (s : Sized) → sized_of says o n P ≡ s → length (rows_of says n P o) ≤ length list
        go (Err e) s = rw (rows_refused e.answer e.visits s) zero-le
        go (Ok x) s =
            rw (rows_sized_lem x.answer x.visits s) (omega (arith, length-map (copies_along says P x.answer list) packed_copy, along_few says P x.answer list))

  -- the objects that are listed have records
  pub ids_recorded : (o : ℕ) → In o (object_ids (record_at g dump) n) → 0 < length (records_of (record_at g dump) n o)
  ids_recorded o i =
      let w = (objects_of_lem says n o i).1 in
      in_some w.page (records_of says n o) (recs_in (objects says) (age_of says) o n w.page w.inside w.bears)

  -- another has none, and no size
  module _ (o : ℕ) (good : bad_object o ≡ false) (out : In o (object_ids (record_at g dump) n) → ⊥) where
    -- it has no records
    pub out_unrecorded : records_of (record_at g dump) n o ≡ []
    out_unrecorded =
        in_none (records_of says n o)
        (λ q i.
        let w = recs_of (objects says) (age_of says) o n q i in
        let some : object_at says q ≡ 0 → ⊥ = λ z. absurd (omega (arith, (object_within o good).least, w.1)) in
        out (rw w.1 at (objects_in_lem says n q w.0 some)))

    -- and its size is refused
    pub out_refused : (P : ℕ) → sized_of (record_at g dump) o n P ≡ sized.Refused NoObject 0
    unfolding size_walk size_reached reach from_list
    out_refused P = sym (size_recorded o good P) ∙ rw out_unrecorded
