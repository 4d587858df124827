-- What the call answers: the copies that lie ahead for the chunks of a file are those of the lookups, and the valid lengths of
-- an accepted dump fit a row.
use Prim.Native.Nat.{ℕ, ◌≤◌, ◌<◌}
use Rattle.std.specs.Prelude.{Ok, None}
use mathlib.Core.Bool.{Bool, true, ◌&&◌}
use mathlib.Core.List.{List, map}
use mathlib.Core.Path.{◌≡◌, sym, ap, ◌∙◌}
use native.Mathlib.Omega.{arith}
use lib.Dec.{ltb}
use lib.ListN.{length}
use borrow.Author.Tests.{lt-ltb, le-ltb}
use Rattle.page.specs.Lengths.{opened_of}
use Rattle.page.specs.Records.{record_at}
use Rattle.page.specs.declared.geometry.Geometry.{Geometry}
use Rattle.page.specs.declared.refusal.Refusal.TheVariants.{ShortBuffer, IndexDamaged}
use Rattle.page.proofs.Layouts.{listed_data}
use Rattle.page.proofs.Lengths.{opened_facts, opened_some}
use Rattle.sort.specs.Room.{in_room}
use Rattle.chunk.specs.Looked.{Looked}
use Rattle.chunk.specs.Looked as looked
use Rattle.chunk.specs.Sized as sized
use Rattle.index.specs.Slots.{first_link}
use Rattle.index.specs.Chains.{Trace, top, chain}
use Rattle.index.specs.Walks.{under, size_from, chunk_from}
use Rattle.index.specs.Ahead.{unvisited}
use Rattle.index.proofs.Slot.Search.{first_link_lem}
use Rattle.index.proofs.Walk.Ahead.{is_sized, chunk_ahead}
use Rattle.file.specs.Table.{chunks_in, all_ahead}
use Rattle.index.specs.Recorded.{is_broken}
use Rattle.file.specs.Copies.{valid_values, packed_copy, copy_in, is_refused, copies_to, any_refused, met, met_ahead, copies_ahead, room_for, copied_by, rows_by, met_from, copied_from, rows_from}
use Rattle.file.specs.Copied as copied
use Rattle.file.proofs.Chunks.{chunk_before}
use Rattle.file.proofs.Shown.{copies_same, refused_same, copy_unvisited, refused_unvisited, ahead_damaged, ahead_refused}

module _ (g : Geometry) (l n : ℕ) (e : opened_of g l ≡ Ok n) where
  pub opened_data : g.layout.«data» < valid_values
  opened_data = omega (arith, listed_data g.layout (opened_facts g l n e).listed)

module _
    (g : Geometry) (dump cells : List ℕ) (o z v n : ℕ)
    (e : opened_of g (length dump) ≡ Ok n)
    (s : size_from g dump cells o ≡ sized.Size z v)
  where
    abbrev P : ℕ
    P = g.layout.«data»

    abbrev m : ℕ
    m = chunks_in P z

    abbrev links : Trace
    links = under (record_at g dump) n cells o top (first_link n cells o)

    abbrev ahead : ℕ → Looked
    ahead = all_ahead (record_at g dump) P z n cells o (first_link n cells o)

    abbrev look : ℕ → Looked
    look = chunk_from g dump cells o

    -- how many are met
    pub met_from_lem : met_from g dump cells o z ≡ length (met (record_at g dump) P m z true None links)
    unfolding met_from chain
    met_from_lem = rw (e, first_link_lem n cells o (opened_some g (length dump) n e) (is_sized g dump cells o z v n e s).room)

    -- the copies that one walk finds are those of the lookups, and so are the chunks that it finds damaged
    pub copies_looked : copies_to ahead m ≡ copies_to look m
    copies_looked =
        copies_same ahead look m
        (λ c h i.
        let b = chunk_before P z c h i in
        ap (copy_in c) (chunk_ahead g dump cells o z v n e s c b.0 b.1) ∙ copy_unvisited c (look c))

    refused-looked : any_refused ahead m ≡ any_refused look m
    refused-looked =
        refused_same ahead look m
        (λ c h i.
        let b = chunk_before P z c h i in
        ap is_refused (chunk_ahead g dump cells o z v n e s c b.0 b.1) ∙ refused_unvisited (look c))

    -- a lookup of one of the chunks is refused for a damaged link alone
    pub refused_damaged : (c : ℕ) → 0 < c → c ≤ m → is_refused (look c) ≡ true → unvisited (look c) ≡ looked.Refused IndexDamaged 0 0
    refused_damaged c h i r =
        let b = chunk_before P z c h i in
        let same : ahead c ≡ unvisited (look c) = chunk_ahead g dump cells o z v n e s c b.0 b.1 in
        sym same ∙ ahead_damaged (record_at g dump) P m z c links true None (ap is_refused same ∙ refused_unvisited (look c) ∙ r)

    -- a walk that met so many copies from the first link on
    module _ (first copies : ℕ) (f : first ≡ first_link n cells o) (k : copies ≡ length (met_ahead (record_at g dump) P z n cells o first)) where
      counted : copies ≡ met_from g dump cells o z
      counted = k ∙ rw f (sym met_from_lem)

      -- what is answered, and left in the words
      module _ (words : List ℕ) where
        pub copies_short : (need : ℕ) → need ≡ room_for copies → length words < need → copied.Refused ShortBuffer need ≡ copied_from g dump cells o (length words)
        unfolding copied_from copied_by
        copies_short need e h = rw (s, ← counted, ← e, lt-ltb (length words) need h)

        pub copies_rows :
            room_for copies ≤ length words → (count : ℕ) (broken damaged : Bool) →
            count ≡ length (copies_ahead (record_at g dump) P z n cells o first) →
            broken ≡ is_broken (under (record_at g dump) n cells o top first) →
            damaged ≡ broken && ltb count m →
            copied.Rows z count damaged ≡ copied_from g dump cells o (length words)
        unfolding copied_from copied_by
        copies_rows h count broken damaged a b d =
            let a₁ : count ≡ length (copies_to ahead m) = rw f at a in
            let b₁ : broken ≡ is_broken links = rw f at b in
            let a₂ : count ≡ length (copies_to look m) = a₁ ∙ ap length copies_looked in
            let d₁ : damaged ≡ is_broken links && ltb (length (copies_to ahead m)) m = d ∙ rw (b₁, a₁) in
            let d₂ : damaged ≡ any_refused look m = d₁ ∙ sym (ahead_refused (record_at g dump) P m z links true None) ∙ refused-looked in
            rw (s, ← counted, le-ltb (length words) (room_for copies) h, a₂, d₂)

        pub copies_filled :
            (count : ℕ) (damaged : Bool) (left : List ℕ) →
            left ≡ in_room (map packed_copy (copies_ahead (record_at g dump) P z n cells o first)) (room_for copies) words →
            left ≡ rows_from g dump cells o words (copied.Rows z count damaged)
        unfolding rows_from rows_by
        copies_filled count damaged left h = h ∙ rw (f, counted, copies_looked)
