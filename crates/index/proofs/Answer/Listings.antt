-- Listing by cells that hold exactly the added pages gives the live objects of the dump with the other pages read as blank; and counting gives
-- the number of its objects.
--
-- The chain of an object is its added records, the newest first, so that the walk meets no damaged link and ends at the object's newest added
-- header, if it has one. So it is live by the index exactly if it is by the rules; and it counts as an object exactly if it has an added
-- record. Then its chain is not empty, and its id is the key of the slot where it is looked for; and two slots where one object is looked for
-- are the same. So the ids of the slots that are asked for are those of the objects that are, each once; both lists ascend, and are the same.
use Prim.Native.Nat.{ℕ, ◌≤◌, ◌<◌}
use Rattle.std.specs.Prelude.{Ok, Err, Option, Some, None}
use mathlib.Core.Bool.{Bool, true, false}
use mathlib.Core.List.{List, [], ◌∷◌}
use mathlib.Core.Logic.{inl}
use mathlib.Core.Path.{◌≡◌, refl, sym, ap, ◌∙◌}
use native.Mathlib.Omega.{arith}
use lib.ListN.{length}
use lib.Dec.{eqb, ltb}
use borrow.Author.Tests.{eqb-true, eqb-false, eq-eqb, ne_eqb, lt-ltb, le-ltb}
use Rattle.page.specs.Choice.{pick}
use Rattle.page.specs.Records.{is_header}
use Rattle.page.specs.Search.{count}
use Rattle.page.specs.declared.record.Record.{Record}
use Rattle.page.specs.declared.record.Record.TheVariants.{Other}
use Rattle.page.specs.declared.refusal.Refusal.TheVariants.{ShortBuffer, ShortIndex, IndexDamaged}
use Rattle.page.specs.declared.refusal.Refusal.{Refusal}
use Rattle.page.proofs.Searching.{clash, by_test, pick_cases}
use Rattle.chunk.specs.Records.{age_of, is_of, header_of, is_gone}
use Rattle.chunk.specs.Newest.{newest_header}
use Rattle.chunk.specs.Live.{live_ids, object_count, object_ids}
use Rattle.chunk.specs.Lists.{listed_by}
use Rattle.chunk.specs.Listed as listed
use Rattle.sort.specs.Ascending.{In, Ascends}
use Rattle.sort.proofs.Ascending.{same_members}
use Rattle.chunk.proofs.Records.{of_object}
use Rattle.chunk.proofs.Cases.{listed_count}
use Rattle.chunk.proofs.Meaning.{newest_found}
use Rattle.chunk.proofs.Living.{Bears, Live, ids_in_lem, ids_of_lem, ids_length, ids_ascend, count_below, live_ids_ascend, live_in, live_of, objects_ascend, objects_length, objects_in_lem, objects_of_lem}
use Rattle.index.specs.Cells.{cells_for, slots_for, keys}
use Rattle.index.specs.Slots.{slot_of}
use Rattle.index.specs.Chains.{objects, top, clean, trace, chain}
use Rattle.index.specs.Held.{seen, recs, from_list, Held}
use Rattle.index.specs.Walks.{seen_says}
use Rattle.index.specs.Listing.{is_asked, is_damaged, stands, standing_of, is_own, standing_at, asked_slot, damaged_slot, slot_ids, tally_in, list_in, objects_in}
use Rattle.index.specs.declared.list.Ask.{Ask}
use Rattle.index.specs.declared.list.Ask.TheVariants as ask
use Rattle.index.specs.declared.list.Standing.{Standing}
use Rattle.index.specs.declared.list.Standing.TheVariants as standing
use Rattle.index.proofs.Slot.Counts.{count_nothing}
use Rattle.index.proofs.Sorted.Order.{never}
use Rattle.index.proofs.Chain.Links.{trace_end}
use Rattle.index.proofs.Slot.Search.{slot_lt, first_none}
use Rattle.index.proofs.Sorted.Parting.{Parted, all, at, parted, in_at}
use Rattle.index.proofs.Walk.Walks.{headed}
use Rattle.index.proofs.Walk.Standing.{met_in, stands_none, stands_at_lem}
use Rattle.index.proofs.Sorted.Rules.{Listed, newest_none, newest_at}
use Rattle.index.proofs.Held.Calls.{held_in_lem, held_of}
use Rattle.index.proofs.Answer.Walked.{added_listed}

-- a list with a record makes a chain with one
some_chain : (x : ℕ) (L : List ℕ) → In x L → clean ≡ from_list L → ⊥
unfolding from_list
some_chain x [] i e = i
some_chain x (q ∷ L) i e = clash (cc)

-- ---- on any cells

-- what a `let .. else` on a slot that is asked for leaves: one that is not
pub else_asked : (x : Standing) → (x ≡ standing.Asked → ⊥) → is_asked x ≡ false
else_asked standing.Asked h = absurd (h refl)
else_asked standing.Damaged h = refl
else_asked standing.Other h = refl

-- a slot that is where its object is looked for
module _ (c : List ℕ) (n s : ℕ) where
  own_key : is_own c n s ≡ true → (0 < keys c s) × (slot_of n c (keys c s) ≡ s)
  own_key e =
      by_test (eqb (keys c s) 0) _
      (λ t. never (rw t at e))
      (λ t. let k : keys c s ≡ 0 → ⊥ = eqb-false _ _ t in (omega arith, eqb-true _ _ (rw t at e)))

  key_own : 0 < keys c s → slot_of n c (keys c s) ≡ s → is_own c n s ≡ true
  key_own h e = rw (ne_eqb (keys c s) 0 (λ z. absurd (omega arith))) (eq-eqb _ _ e)

module _ (a : Ask) (says : ℕ → Record) (P : ℕ) (c : List ℕ) (n : ℕ) where
  at_own : (s : ℕ) → is_own c n s ≡ true → standing_at a says P c n s ≡ standing_of a says P c n (keys c s)
  unfolding standing_at
  at_own s t = rw t

  at_other : (s : ℕ) → is_own c n s ≡ false → standing_at a says P c n s ≡ standing.Other
  unfolding standing_at
  at_other s t = rw t

  -- a free slot is no object's
  pub at_free : (s : ℕ) → keys c s ≡ 0 → standing_at a says P c n s ≡ standing.Other
  unfolding standing_at
  at_free s e = rw (eq-eqb (keys c s) 0 e)

  -- the tally: a damaged slot refuses it, and else it counts the slots asked for
  pub tally_damaged : (s : ℕ) → s < slots_for n → standing_at a says P c n s ≡ standing.Damaged → tally_in a says P c n ≡ Err IndexDamaged
  unfolding tally_in
  tally_damaged s h e =
      let k = count_below (damaged_slot a says P c n) s (slots_for n) h (rw e) in
      rw (lt-ltb 0 (count (damaged_slot a says P c n) (slots_for n)) (omega arith))

  pub tally_whole : count (damaged_slot a says P c n) (slots_for n) ≡ 0 → tally_in a says P c n ≡ Ok (count (asked_slot a says P c n) (slots_for n))
  unfolding tally_in
  tally_whole e = rw e

  -- a slot asked for is one where its object is looked for, and its object is asked for
  asked_slot_lem : (s : ℕ) → asked_slot a says P c n s ≡ true → (is_own c n s ≡ true) × (is_asked (standing_of a says P c n (keys c s)) ≡ true)
  asked_slot_lem s e =
      by_test (is_own c n s) _
      (λ t. (t, rw (at_own s t) at e))
      (λ t. never (rw (at_other s t) at e))

  -- one object is looked for in one slot
  pub slots_apart : (s s' : ℕ) → asked_slot a says P c n s ≡ true → asked_slot a says P c n s' ≡ true → keys c s ≡ keys c s' → s ≡ s'
  slots_apart s s' t u e =
      sym (own_key c n s (asked_slot_lem s t).0).1 ∙ ap (slot_of n c) e ∙ (own_key c n s' (asked_slot_lem s' u).0).1

  -- object o is the key of the slot where it is looked for, and is asked for
  abbrev Found : ℕ → Type 0
  Found o = (0 < o) × (keys c (slot_of n c o) ≡ o) × (is_asked (standing_of a says P c n o) ≡ true)

  slot_found : (o : ℕ) → 0 < n → Found o → Bears (asked_slot a says P c n) (keys c) (slots_for n) o
  slot_found o pages f =
      let s = slot_of n c o in
      let at : slot_of n c (keys c s) ≡ s = ap (slot_of n c) f.1 in
      record {
        page = s;
        inside = slot_lt n c o pages;
        passes = rw (at_own s (key_own c n s (rw f.1 f.0) at), f.1) f.2;
        bears = f.1;
      }

  -- the ids of the slots asked for are given ids that ascend, if those are the objects asked for
  slots_same :
      (ids : List ℕ) → 0 < n → Ascends 0 ids →
      ((o : ℕ) → 0 < o → is_asked (standing_of a says P c n o) ≡ true → In o ids) →
      ((o : ℕ) → In o ids → Found o) →
      slot_ids a says P c n ≡ ids
  unfolding slot_ids
  slots_same ids pages up there found =
      same_members 0 _ _
      (ids_ascend (asked_slot a says P c n) (keys c) slots_apart (slots_for n))
      up
      (λ o i.
      let w = ids_of_lem (asked_slot a says P c n) (keys c) o (slots_for n) i in
      let r = asked_slot_lem w.page w.passes in
      let pos : 0 < o = rw w.bears at (own_key c n w.page r.0).0 in
      there o pos (rw w.bears at r.1))
      (λ o i. ids_in_lem (asked_slot a says P c n) (keys c) o (slots_for n) (slot_found o pages (found o i)))

module _ (says : ℕ → Record) (P : ℕ) (c : List ℕ) (n : ℕ) where
  pub list_short : (room : ℕ) → length c < cells_for n → list_in says P c n room ≡ listed.Refused ShortIndex 0
  unfolding list_in
  list_short room h = rw (lt-ltb (length c) (cells_for n) h)

  -- what a tally of m tells of a listing into so many words
  abbrev pub Counted : ℕ → ℕ → Type 0
  Counted room m =
      (m ≡ count (asked_slot ask.Live says P c n) (slots_for n))
      × (list_in says P c n room ≡ pick (ltb room m) (listed.Refused ShortBuffer m) (listed.Ids m))

  -- where there are enough words, the calls go by the tally
  module _ (enough : cells_for n ≤ length c) where
    pub objects_tally : objects_in says P c n ≡ tally_in ask.Any says P c n
    unfolding objects_in
    objects_tally = rw (le-ltb (length c) (cells_for n) enough)

    pub list_refused : (room : ℕ) (r : Refusal) → tally_in ask.Live says P c n ≡ Err r → list_in says P c n room ≡ listed.Refused r 0
    unfolding tally_in list_in
    list_refused room r e =
        rw (le-ltb (length c) (cells_for n) enough)
        (pick_cases (ltb 0 (count (damaged_slot ask.Live says P c n) (slots_for n))) _ _ _ _ e
        (λ t q. let same : IndexDamaged ≡ r = cc in rw (t, same))
        (λ t q. clash (cc)))

    pub list_counted : (room m : ℕ) → tally_in ask.Live says P c n ≡ Ok m → Counted room m
    unfolding tally_in list_in slot_ids
    list_counted room m e =
        rw (le-ltb (length c) (cells_for n) enough, listed_count room _ _ (ids_length (asked_slot ask.Live says P c n) (keys c) (slots_for n)))
        (pick_cases (ltb 0 (count (damaged_slot ask.Live says P c n) (slots_for n))) _ _ _ _ e
        (λ t q. clash (cc))
        (λ t q. let same : m ≡ count (asked_slot ask.Live says P c n) (slots_for n) = cc in (same, rw (t, same))))

-- ---- on the chain of a list of records

module _ (says : ℕ → Record) where
  -- how an object with these records stands
  abbrev list_stands : Ask → List ℕ → Standing
  list_stands a L = stands a says false (from_list L)

  -- it is not damaged
  whole_parted : (a : Ask) (L : List ℕ) → Parted (headed says) L → is_damaged (list_stands a L) ≡ false
  whole_parted ask.Live L (all f) = rw (stands_none ask.Live says false L f)
  whole_parted ask.Any L (all f) = rw (stands_none ask.Any says false L f) (by_test (met_in false L) _ (λ t. rw t) (λ t. rw t))
  whole_parted ask.Live L (at A h B f e) = rw (stands_at_lem ask.Live says false A h B f e) (by_test (is_gone (says h)) _ (λ t. rw t) (λ t. rw t))
  whole_parted ask.Any L (at A h B f e) = rw (stands_at_lem ask.Any says false A h B f e)

  -- with a record it counts as an object, and without one it does not
  met_some : (x : ℕ) (L : List ℕ) → In x L → met_in false L ≡ true
  met_some x [] i = absurd i
  met_some x (q ∷ L) i = refl

  any_parted : (x : ℕ) (L : List ℕ) → Parted (headed says) L → In x L → is_asked (list_stands ask.Any L) ≡ true
  any_parted x L (all f) i = rw (stands_none ask.Any says false L f, met_some x L i)
  any_parted x L (at A h B f e) i = rw (stands_at_lem ask.Any says false A h B f e)

  any_none : is_asked (list_stands ask.Any []) ≡ false
  any_none = rw (stands_none ask.Any says false [] (λ x i. absurd i))

-- ---- on cells that hold exactly the added pages

module _
    (says : ℕ → Record) (P n : ℕ) (few : n ≤ 4294967296)
    (old : (x : ℕ) → x < n → age_of says x < top)
    (owned : (x : ℕ) → is_header (says x) ≡ true → 0 < objects says x)
    (added : ℕ → Bool) (c : List ℕ) (g : Held n (objects says) (age_of says) added c) (pages : 0 < n)
  where
    abbrev S : ℕ → Record
    S = seen_says says added

    abbrev R : ℕ → List ℕ
    R o = recs (seen (objects says) added) (age_of says) o n

    -- how an object stands among the live ones by its newest header
    abbrev stands_by : Option ℕ → Standing
    stands_by None = standing.Other
    stands_by (Some h) = pick (is_gone (S h)) standing.Other standing.Asked

    stands-parted : (o : ℕ) (L : List ℕ) → Parted (headed says) L → Listed says S o n top L → list_stands says ask.Live L ≡ stands_by (newest_header S o n)
    stands-parted o L (all f) l = rw (stands_none ask.Live says false L f, newest_none says S o n top L l is_header f)
    stands-parted o L (at A h B f e) l =
        rw (stands_at_lem ask.Live says false A h B f e, newest_at says S o n top A h B l is_header f e, l.same h (in_at A h B))

    -- the chain of an object is its added records
    held-stands : (a : Ask) (o : ℕ) → 0 < o → standing_of a says P c n o ≡ list_stands says a (R o)
    held-stands a o pos = ap (stands a says false) (g.chains o pos)

    live-held : (o : ℕ) → 0 < o → standing_of ask.Live says P c n o ≡ stands_by (newest_header S o n)
    live-held o pos =
        held-stands ask.Live o pos ∙ stands-parted o (R o) (parted (headed says) (R o)) (added_listed says n few old added o pos)

    -- no slot is damaged
    none-damaged : (a : Ask) (s : ℕ) → damaged_slot a says P c n s ≡ false
    none-damaged a s =
        by_test (is_own c n s) _
        (λ t.
        rw (at_own a says P c n s t, held-stands a (keys c s) (own_key c n s t).0)
        (whole_parted says a (R (keys c s)) (parted (headed says) (R (keys c s)))))
        (λ t. rw (at_other a says P c n s t))

    -- an object is live by its newest header exactly if it is by the rules
    stands_live : (o : ℕ) (r : Option ℕ) → newest_header S o n ≡ r → is_asked (stands_by r) ≡ true → Live S n o
    stands_live o None e t = never t
    stands_live o (Some h) e t =
        by_test (is_gone (S h)) _
        (λ u. never (rw u at t))
        (λ u. record { header = h; newest_header_lem = e; kept = u })

    live-stands : (o : ℕ) (w : Live S n o) → is_asked (stands_by (newest_header S o n)) ≡ true
    live-stands o w = rw (w.newest_header_lem, w.kept)

    -- a record of an object in the dump so read is one of its added records
    added-record : (o p : ℕ) → 0 < o → p < n → is_of o (S p) ≡ true → In p (R o)
    added-record o p pos h u = go (added p) refl u
      where
        go : (t : Bool) → added p ≡ t → is_of o (pick t (says p) Other) ≡ true → In p (R o)
        go true e u = held_in_lem n (objects says) (age_of says) added c g o pos p h (of_object o (says p) u) e
        go false e u = never u

    -- and the other way round
    record-added : (o p : ℕ) → 0 < o → In p (R o) → (p < n) × (objects S p ≡ o)
    record-added o p pos i = let r = held_of n (objects says) (age_of says) added c g o pos p i in (r.0, rw r.2 r.1)

    -- an object with an added record is the key of the slot where it is looked for
    key-found : (o x : ℕ) → 0 < o → In x (R o) → keys c (slot_of n c o) ≡ o
    unfolding chain
    key-found o x pos i =
        by_test (eqb (keys c (slot_of n c o)) o) _
        (λ t. eqb-true _ _ t)
        (λ t.
        absurd
        (some_chain x (R o) i
        (sym (ap (trace n (objects says) (age_of says) c o top) (first_none n c o _ refl (eqb-false _ _ t)) ∙ trace_end n (objects says) (age_of says) o c top 0 (omega arith))
        ∙ g.chains o pos)))

    -- the object of a header is not 0
    header-pos : (o h : ℕ) → header_of o (S h) ≡ true → (0 < o) × (is_of o (S h) ≡ true)
    header-pos o h u = go (added h) u
      where
        go : (t : Bool) → header_of o (pick t (says h) Other) ≡ true → (0 < o) × (is_of o (pick t (says h) Other) ≡ true)
        go true u =
            by_test (is_of o (says h)) _
            (λ t. let own : objects says h ≡ o = of_object o (says h) t in (rw own at (owned h (rw t at u)), t))
            (λ t. never (rw t at u))
        go false u = never u

    -- a live object is found in its slot: its newest header is one of its added records
    live-found : (o : ℕ) → Live S n o → Found ask.Live says P c n o
    live-found o w =
        let h = w.header in
        let f = newest_found S (header_of o) n h w.newest_header_lem in
        let r = header-pos o h f.passes in
        (r.0, key-found o h r.0 (added-record o h r.0 f.below r.1), rw (live-held o r.0) (live-stands o w))

    pub ids_same : slot_ids ask.Live says P c n ≡ live_ids S n
    ids_same =
        slots_same ask.Live says P c n (live_ids S n) pages (live_ids_ascend S n)
        (λ o pos t. live_in S n o (stands_live o _ refl (rw (live-held o pos) at t)))
        (λ o i. live-found o (live_of S n o i))

    -- what a listing answers
    pub list_held : (room : ℕ) → list_in says P c n room ≡ listed_by room (live_ids S n)
    unfolding list_in
    list_held room =
        rw (le-ltb (length c) (cells_for n) g.room, count_nothing (damaged_slot ask.Live says P c n) (slots_for n) (λ s h. none-damaged ask.Live s), ids_same)

    -- an object with an added record is one of the dump so read, and is found in its slot
    any-in : (o : ℕ) → 0 < o → is_asked (standing_of ask.Any says P c n o) ≡ true → In o (object_ids S n)
    any-in o pos t = go (R o) (λ x i. record-added o x pos i) (rw (held-stands ask.Any o pos) at t)
      where
        go : (L : List ℕ) → ((x : ℕ) → In x L → (x < n) × (objects S x ≡ o)) → is_asked (list_stands says ask.Any L) ≡ true → In o (object_ids S n)
        go [] f t = never (sym (any_none says) ∙ t)
        go (x ∷ L) f t =
            let r = f x (inl refl) in
            rw r.1 at (objects_in_lem S n x r.0 (λ z. absurd (omega (arith, r.1))))

    any_found : (o : ℕ) → In o (object_ids S n) → Found ask.Any says P c n o
    any_found o i =
        let r = objects_of_lem S n o i in
        let z = r.0 in
        let w = r.1 in
        let pos : 0 < o = omega arith in
        let k = added-record o w.page pos w.inside w.passes in
        (pos, key-found o w.page pos k, rw (held-stands ask.Any o pos) (any_parted says w.page (R o) (parted (headed says) (R o)) k))

    objects-same : slot_ids ask.Any says P c n ≡ object_ids S n
    objects-same = slots_same ask.Any says P c n (object_ids S n) pages (objects_ascend S n) any-in any_found

    -- what counting the objects answers: the number of distinct ids of the added records
    pub objects_held : objects_in says P c n ≡ Ok (object_count S n)
    unfolding slot_ids
    objects_held =
        objects_tally says P c n g.room
        ∙ tally_whole ask.Any says P c n (count_nothing (damaged_slot ask.Any says P c n) (slots_for n) (λ s h. none-damaged ask.Any s))
        ∙ ap Ok (sym (ids_length (asked_slot ask.Any says P c n) (keys c) (slots_for n)) ∙ ap length objects-same ∙ objects_length S n)
