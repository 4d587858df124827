-- A walk along the pages of a list of words, in place of a chain: word after word, and at the last one it is at its end.
use Prim.Native.Nat.{ℕ, suc, ◌+◌, ◌≤◌, ◌<◌}
use Rattle.std.specs.Prelude.{Ok, Option, None}
use mathlib.Core.Bool.{Bool, true, false}
use mathlib.Core.List.{List, [], ◌∷◌, ◌++◌, map}
use mathlib.Core.Path.{◌≡◌, refl, sym, ◌∙◌}
use native.Mathlib.Numerals.{add-one}
use native.Mathlib.Omega.{arith}
use lib.Dec.{eqb, ltb}
use lib.ListN.{length, drop, get_or, drop_of_length-le, length-map}
use lib.Seq.{drop-cons}
use borrow.Author.Tests.{eqb-true, eqb-false, ltb-true, ltb-false, lt-leb, le-ltb}
use Rattle.page.specs.Lengths.{opened_of}
use Rattle.page.specs.Numbers.{page_values}
use Rattle.page.specs.Records.{is_header, is_data, record_at}
use Rattle.page.specs.declared.geometry.Geometry.{Geometry}
use Rattle.page.specs.declared.record.Data.{Data}
use Rattle.page.specs.declared.record.Record.{Record}
use Rattle.page.specs.declared.record.Record.TheVariants as said
use Rattle.page.proofs.Lengths.{opened_pages}
use Rattle.page.proofs.Searching.{by_test, clash}
use Rattle.page.proofs.Within.{data_within, page_beyond}
use Rattle.sort.specs.Packed.{value_of}
use Rattle.sort.specs.Room.{in_room}
use Rattle.chunk.specs.Records.{chunk_of}
use Rattle.index.specs.Ahead.{still_newest}
use Rattle.index.specs.Chains.{Trace, clean, rec}
use Rattle.index.specs.Held.{from_list}
use Rattle.index.specs.Walks.{records_in, cut_by}
use Rattle.index.proofs.Walk.Visits.{length_list}
use Rattle.file.specs.Along.{met_on, copies_along, met_along, shown_by, along_on, along_left}
use Rattle.file.specs.Copies.{padded, packed_copy, room_for, met}
use Rattle.file.specs.Shows.{is_met}
use Rattle.file.specs.Table.{chunks_in}
use Rattle.file.specs.Laid.{Rows}
use Rattle.file.specs.declared.copy.Copy.{Copy}
use Rattle.file.proofs.Newest.{over, over_none, over_behind, over_same, over_before, newest_of}
use Rattle.file.proofs.Shown.{met_shown}

-- a page that is neither a header nor data is no record
pub said_other : (k : Record) → is_header k ≡ false → is_data k ≡ false → k ≡ said.Other
said_other said.Other h d = refl
said_other (said.Header x) h d = clash (cc)
said_other (said.Data x) h d = clash (cc)

-- data of an accepted dump has a page of it
pub data_few : (g : Geometry) (dump : List ℕ) (n q : ℕ) (d : Data) → opened_of g (length dump) ≡ Ok n → record_at g dump q ≡ said.Data d → q < page_values
data_few g dump n q d e k =
    by_test (ltb q n) _
    (λ t. omega (arith, ltb-true q n t, opened_pages g (length dump) n e))
    (λ t. let z : true ≡ false = sym (data_within g dump q d k).page ∙ page_beyond g dump n e q (ltb-false q n t) in clash (cc))

module _ (list : List ℕ) where
  -- the pages from word i on
  abbrev pub from : ℕ → Trace
  from i = from_list (map value_of (drop i list))

  pub from_on : (i : ℕ) → i < length list → from i ≡ rec (value_of (get_or list i 0)) (from (i + 1))
  unfolding from_list
  from_on i h = rw (drop-cons list i 0 h, add-one i)

  pub from_end : (i : ℕ) → length list ≤ i → from i ≡ clean
  unfolding from_list
  from_end i h = rw (drop_of_length-le list {i = i} h)

  pub from_count : records_in (from 0) ≡ length list
  from_count = length_list (map value_of list) ∙ length-map list value_of

-- what is gathered of all copies that are met along a list of pages
pub along_gathered :
    (says : ℕ → Record) (P size : ℕ) (pages : List ℕ) (n r : ℕ) (w v : List ℕ) →
    n ≡ length (met_on says P size pages) →
    r ≡ length (newest_of (met_on says P size pages)) →
    v ≡ padded (map packed_copy (newest_of (met_on says P size pages))) (room_for n) →
    (r ≡ length (copies_along says P size pages)) × (v ++ drop (room_for n) w ≡ in_room (map packed_copy (copies_along says P size pages)) (room_for (met_along says P size pages)) w)
unfolding copies_along met_along
along_gathered says P size pages n r w v a b d =
    let same = met_shown says P (chunks_in P size) size (from_list pages) true None in
    (b ∙ rw same, rw d (rw (a, same)))

-- a list of pages shows no more copies than it has pages: no more are met, and of those the newest are shown
over_few : (x : Copy) (L : List Copy) → length (over x L) ≤ suc (length L)
over_few x [] = rw (over_none x) (omega arith)
over_few x (y ∷ L) =
    by_test (ltb y.chunk x.chunk) _
    (λ t. rw (over_behind x y L (ltb-true _ _ t)) (omega (arith, over_few x L)))
    (λ t.
    by_test (eqb y.chunk x.chunk) _
    (λ u. rw (over_same x y L (eqb-true _ _ u)) (omega arith))
    (λ u.
    let z : y.chunk ≡ x.chunk → ⊥ = eqb-false _ _ u in
    let k : x.chunk ≤ y.chunk = ltb-false _ _ t in
    rw (over_before x y L (omega arith)) (omega arith)))

newest_few : (L : List Copy) → length (newest_of L) ≤ length L
unfolding newest_of
newest_few [] = omega arith
newest_few (x ∷ L) = omega (arith, over_few x (newest_of L), newest_few L)

module _ (says : ℕ → Record) (P size : ℕ) where
  met_few : (m : ℕ) (newest : Bool) (cut : (Option ℕ)) (pages : List ℕ) → length (met says P m size newest cut (from_list pages)) ≤ length pages
  unfolding met from_list
  met_few m newest cut [] = omega arith
  met_few m newest cut (q ∷ pages) =
      let on = met_few m (still_newest says newest q) (cut_by says newest q cut) pages in
      by_test (is_met P m cut (chunk_of (says q))) _ (λ h. rw h (omega arith)) (λ h. rw h (omega arith))

  pub along_few : (pages : List ℕ) → length (copies_along says P size pages) ≤ length pages
  unfolding copies_along
  along_few pages =
      let m = chunks_in P size in
      rw (← met_shown says P m size (from_list pages) true None)
      (omega (arith, newest_few (met says P m size true None (from_list pages)), met_few m true None pages))

-- an accepted dump, a list that is not too long, and room: nothing is refused
module _
    (g : Geometry) (dump list : List ℕ) (size n : ℕ) (words : List ℕ) (e : opened_of g (length dump) ≡ Ok n)
    (few : length list < page_values)
    (room : room_for (length list) ≤ length words)
  where
    pub along_rows : along_on g dump list size (length words) ≡ Rows (length (shown_by g dump list size))
    unfolding along_on
    along_rows = rw (e, lt-leb page_values (length list) few, le-ltb (length words) (room_for (length list)) room)

    pub along_left_lem :
        along_left g dump list size words
        ≡ in_room (map packed_copy (shown_by g dump list size)) (room_for (met_along (record_at g dump) g.layout.«data» size (map value_of list))) words
    unfolding along_left
    along_left_lem = rw (e, lt-leb page_values (length list) few, le-ltb (length words) (room_for (length list)) room)
