-- The entries of a directory stand side by side among the children's rows: from the first row whose key is not below the directory's id up to the
-- first above it. Both those rows' objects and the directory's children ascend, and they have the same members.
use Prim.Native.Nat.{ℕ, ◌+◌, ◌-◌, ◌≤◌, ◌<◌, zero-le}
use mathlib.Core.Bool.{true}
use mathlib.Core.List.{List, map}
use mathlib.Core.Logic.{⊎_elim}
use mathlib.Core.Path.{◌≡◌, sym, ap, ◌∙◌}
use native.Mathlib.Omega.{arith}
use lib.ListN.{length, take, drop, get_or, length-map, length-take, length-drop}
use lib.Seq.{get_or-take, get_or-drop}
use Rattle.page.specs.Records.{is_header}
use Rattle.page.specs.declared.record.Record.{Record}
use Rattle.page.proofs.Layouts.{and_right}
use Rattle.sort.specs.Ascending.{In, Ascends}
use Rattle.sort.specs.Packed.{word_values, packed, key_of, value_of}
use Rattle.sort.proofs.Ascending.{same_members}
use Rattle.sort.proofs.Lists.{keep_ascends}
use Rattle.sort.proofs.Making.{map_at}
use Rattle.sort.proofs.Packing.{packed_value}
use Rattle.sort.proofs.Places.{in_at, at_in, ascends_at, at_ascends}
use Rattle.text.proofs.Order.{le_or_lt}
use Rattle.chunk.specs.Live.{live_ids}
use Rattle.chunk.specs.Records.{is_gone, is_of}
use Rattle.chunk.proofs.Living.{live_of, live_ids_ascend, ids_in_lem}
use Rattle.tree.specs.Children.{is_child, child_row, child_rows}
use Rattle.tree.specs.Heads.{Heads, object_at, said_at}
use Rattle.tree.specs.Objects.{parent_of, parent_in}
use Rattle.tree.specs.Paths.{children_of}
use Rattle.tree.specs.Rows.{most_key}
use Rattle.sort.specs.Search.{Sorted, Parted}
use Rattle.tree.proofs.Entries.{children_sorted, children_ascend, child_at, is_child_lem, child_is}
use Rattle.tree.proofs.HeadRows.{parent_at, objects_rise, head_stands, row_live}
use Rattle.tree.proofs.Paths.{child_of, child_in}
use Rattle.tree.proofs.Standing.{head_below, head_of_lem, parent_head}

-- where the rows of a directory's entries begin and end, and which they are
pub record Segment (children : List ℕ) (entries : List ℕ) (object : ℕ → ℕ) (first end : ℕ) : Type 0 where
  pub order : first ≤ end
  pub inside : end ≤ length children
  pub many : length entries ≡ end - first
  pub each : (i : ℕ) → first ≤ i → i < end → get_or entries (i - first) 0 ≡ object (value_of (get_or children i 0))

module _ (says : ℕ → Record) (names : ℕ → List ℕ) (n : ℕ) (short : n < word_values) (heads : List ℕ) (w : Heads says n heads) where
  -- the children's rows
  abbrev rows : List ℕ
  rows = child_rows says heads

  module _ (d first end : ℕ) (a : Parted (packed d 0) rows first) (b : Parted (packed d most_key) rows end) where
    -- the first is not behind the end
    order : first ≤ end
    order =
        ⊎_elim (λ h. h)
        (λ (h : end < first). absurd (let l = a.low end h in let u = b.high end (omega arith) (omega (arith, a.inside)) in omega arith))
        (le_or_lt first end)

    -- a row between them has the key
    key-between : (i : ℕ) → first ≤ i → i < end → key_of (get_or rows i 0) ≡ d
    key-between i h k =
        let l = a.high i h (omega (arith, b.inside)) in
        let u = b.low i k in
        omega arith

    -- a row that has it is between them
    between-key : (i j : ℕ) → i < length rows → get_or rows i 0 ≡ packed d j → j < most_key → (first ≤ i) × (i < end)
    between-key i j h e m = (
      ⊎_elim (λ k. k) (λ (k : i < first). absurd (let l = a.low i k in omega arith)) (le_or_lt first i),
      ⊎_elim (λ (k : end ≤ i). absurd (let u = b.high i k h in omega arith)) (λ k. k) (le_or_lt end i),
    )

    -- the objects of the rows between them
    abbrev object : ℕ → ℕ
    object r = object_at heads (value_of r)

    -- the rows between them
    abbrev part : List ℕ
    part = take (end - first) (drop first rows)

    -- as many as lie between
    part_length : length part ≡ end - first
    part_length = rw (length-take (end - first) (drop first rows), length-drop first rows) (omega (arith, b.inside, order))

    -- by their places
    part_at : (i : ℕ) → i < end - first → get_or part i 0 ≡ get_or rows (first + i) 0
    part_at i h = get_or-take (end - first) (drop first rows) i 0 h ∙ get_or-drop first rows i 0

    -- as many objects
    found_length : length (map object part) ≡ end - first
    found_length = length-map part object ∙ part_length

    -- by their places
    found_at : (i : ℕ) → i < end - first → get_or (map object part) i 0 ≡ object (get_or rows (first + i) 0)
    found_at i h = map_at object i part (omega (arith, part_length)) ∙ ap object (part_at i h)

    -- they ascend
    found-ascends : Ascends 0 (map object part)
    found-ascends =
        at_ascends 0 (map object part) (λ i h. zero-le)
        (λ i j h k.
        let e : j < end - first = omega (arith, found_length) in
        let l = key-between (first + i) (omega arith) (omega arith) in
        let m = key-between (first + j) (omega arith) (omega arith) in
        let s = ascends_at 0 (first + i) (first + j) rows (children_ascend says n heads w) (omega arith) (omega (arith, b.inside)) in
        let c = child_at says n heads w (first + j) (omega (arith, b.inside)) in
        rw (found_at i (omega arith), found_at j e)
        (objects_rise says n heads w (value_of (get_or rows (first + i) 0)) (value_of (get_or rows (first + j) 0)) (omega arith) c.inside))

    -- each of them is an entry of the directory
    found-child : (o : ℕ) → In o (map object part) → In o (children_of says names n d)
    found-child o i =
        let s = in_at o (map object part) i in
        let h : s.place < end - first = omega (arith, s.inside, found_length) in
        let k = first + s.place in
        let c = child_at says n heads w k (omega (arith, b.inside)) in
        let j = value_of (get_or rows k 0) in
        let p : parent_of says n (object_at heads j) ≡ d =
        parent_at says n heads w j c.inside ∙ sym c.under ∙ key-between k (omega arith) (omega arith) in
        let live = child_is says heads j c.live in
        rw (← s.here, found_at s.place h)
        (child_in says names n d (object_at heads j)
        (row_live says n heads w (get_or heads j 0) (at_in j heads c.inside) live.1) live.0 p)

    -- the row of an entry of the directory
    record HasRow (o : ℕ) : Type 0 where
      place : ℕ
      inside : place < length heads
      here : object_at heads place ≡ o
      listed : In (packed d place) rows

    -- each has one
    entry_row : (o : ℕ) → In o (children_of says names n d) → HasRow o
    unfolding child_rows child_row
    entry_row o i =
        let c = child_of says names n d o i in
        let l = live_of says n o c.0 in
        let h = l.header in
        let e = l.newest_header_lem in
        let s = head_stands says n heads w o h e (omega (arith, head_below says n o h e)) in
        let j = s.0 in
        let said : said_at says heads j ≡ says h = ap says s.3 in
        let header : is_header (said_at says heads j) ≡ true = ap is_header said ∙ and_right (is_of o (says h)) _ (head_of_lem says n o h e) in
        let t : is_child says heads j ≡ true = is_child_lem says heads j (λ z. c.1 (sym s.2 ∙ z)) header (ap is_gone said ∙ l.kept) in
        let p : parent_in (said_at says heads j) ≡ d = ap parent_in said ∙ sym (parent_head says n o h e) ∙ c.2 in
        record {
          place = j;
          inside = s.1;
          here = s.2;
          listed =
              ids_in_lem (is_child says heads) (child_row says heads) (packed d j) (length heads)
              (record { page = j; inside = s.1; passes = t; bears = ap (λ (k : ℕ). packed k j) p });
        }

    -- so there is no other
    child-found : (o : ℕ) → In o (children_of says names n d) → In o (map object part)
    child-found o i =
        let r = entry_row o i in
        let few : r.place < most_key = omega (arith, r.inside, w.few) in
        let q = in_at (packed d r.place) rows r.listed in
        let m = between-key q.place r.place q.inside q.here few in
        let k = q.place - first in
        let v : first + k ≡ q.place = omega (arith, m.0) in
        let x : object (packed d r.place) ≡ o = ap (object_at heads) (packed_value d r.place (omega arith)) ∙ r.here in
        let e : get_or (map object part) k 0 ≡ o = found_at k (omega (arith, m.0, m.1)) ∙ rw (v, q.here) x in
        rw (← e) (at_in k (map object part) (omega (arith, m.0, m.1, found_length)))

    -- so they are the directory's entries
    found : children_of says names n d ≡ map object part
    unfolding children_of
    found =
        same_members 0 (children_of says names n d) (map object part) ascends found-ascends child-found found-child
      where
        ascends : Ascends 0 (children_of says names n d)
        ascends = keep_ascends _ 0 (live_ids says n) (live_ids_ascend says n)

    -- so the entries are side by side
    pub segment : Segment rows (children_of says names n d) (object_at heads) first end
    segment = record {
      order = order;
      inside = b.inside;
      many = ap length found ∙ found_length;
      each = λ i h k.
          let e : first + (i - first) ≡ i = omega arith in
          ap (λ (l : List ℕ). get_or l (i - first) 0) found ∙ found_at (i - first) (omega arith) ∙ rw e;
    }

  -- what a listing asks of the children's rows: they are in order
  pub rows_sorted : (children : List ℕ) → children ≡ rows → Sorted children
  rows_sorted children e = rw e (children_sorted says n heads w)

  -- each has its place among the heads
  pub row_inside : (children : List ℕ) (i : ℕ) → children ≡ rows → i < length children → value_of (get_or children i 0) < length heads
  row_inside children i e h = rw e (child_at says n heads w i (rw e at h)).inside

  -- and those of a directory are side by side
  pub row_segment :
      (children : List ℕ) (d first end x y : ℕ) → children ≡ rows → x ≡ packed d 0 → y ≡ packed d most_key → Parted x children first →
      Parted y children end → Segment children (children_of says names n d) (object_at heads) first end
  row_segment children d first end x y e a b p q = rw e (segment d first end (rw (e, a) at p) (rw (e, b) at q))
