-- The text of a tree's rows is the text of the tree. The rows go by the same recursion as the entries, so that each entry has its row at its
-- position; and a row's key leads to the row of its directory, so that the path in the rows is the path of the entry, however many steps are left
-- over. The object and the name of a row are those on its page, which is the newest header of the entry's object.
use Prim.Native.Nat.{ℕ, zero, suc, ◌+◌, ◌-◌, ◌≤◌, ◌<◌}
use mathlib.Core.Bool.{true, false}
use mathlib.Core.List.{List, [], ◌∷◌, ◌++◌, append_assoc, append-nil}
use mathlib.Core.Logic.{inl, inr}
use mathlib.Core.Path.{◌≡◌, refl, ap, subst, ◌∙◌}
use native.Mathlib.Nat.{add-zero, zero-add}
use native.Mathlib.Omega.{arith}
use borrow.Author.Tests.{ne_eqb, lt-ltb, le-ltb}
use lib.Dec.{eqb, ltb}
use lib.ListN.{length, get_or, length-append}
use Rattle.page.specs.Choice.{pick}
use Rattle.page.specs.Records.{record_at}
use Rattle.page.specs.declared.geometry.Geometry.{Geometry}
use Rattle.page.specs.declared.record.Record.{Record}
use Rattle.page.proofs.Layouts.{and_left}
use Rattle.page.proofs.Searching.{clash, by_test, count_le}
use Rattle.sort.specs.Ascending.{In}
use Rattle.sort.specs.Lists.{joined}
use Rattle.sort.specs.Packed.{word_values, packed}
use Rattle.sort.proofs.Packing.{packed_key, packed_value}
use Rattle.chunk.specs.Live.{live_ids}
use Rattle.chunk.specs.Records.{age_of, object_of, is_of, header_of}
use Rattle.chunk.specs.Takes.{seen_by}
use Rattle.chunk.specs.declared.takes.Takes.{Takes}
use Rattle.chunk.specs.declared.takes.Takes.TheVariants.{Every, Older}
use Rattle.chunk.proofs.Living.{live_of}
use Rattle.chunk.proofs.Meaning.{newest_found}
use Rattle.chunk.proofs.Records.{of_object}
use Rattle.tree.specs.Heads.{is_head}
use Rattle.tree.specs.Objects.{root, page_of, stand_of, is_standing, says_by, names_of}
use Rattle.tree.specs.Paths.{Entry, most_depth, slash, children_of, step_to, entry_of, under, listed}
use Rattle.tree.specs.Rows.{most_key, key_behind, number_of, reason_at, each_at, rows_at, rows_under, listed_rows, other_rows, tree_rows}
use Rattle.tree.specs.Rows.{name_on, object_in, path_in, path_at, row_lines, lines_to, rows_text}
use Rattle.tree.specs.Tree.{path_lines, reason_lines, others, tree_text}
use Rattle.tree.specs.Ways.{reason_of}
use Rattle.tree.specs.declared.reason.Reason.{Reason}
use Rattle.tree.specs.declared.reason.Reason.TheVariants as reason
use Rattle.tree.proofs.Both.{others_live}
use Rattle.tree.proofs.Fitting.{row_length, rows_length, listed_rows_length, other_rows_length, rows_fit}
use Rattle.tree.proofs.Paths.{child_of}
use Rattle.tree.proofs.Positions.{AllAt, StandsAt, all_join, all_left, all_right, all_so, all_at, all_given, all_stand}
use Rattle.tree.proofs.Texting.{lines_none, lines_more}

-- a reason comes back from its number
pub reason_numbered : (r : Reason) → reason_at (number_of r) ≡ r
unfolding reason_at
reason_numbered reason.TooDeep = refl
reason_numbered reason.Loop = refl
reason_numbered reason.Missing = refl
reason_numbered reason.Deleted = refl
reason_numbered reason.NonDirectory = refl

-- what a moment shows as a record of an object is one
seen_of : (t : Takes) (says : ℕ → Record) (o p : ℕ) → is_of o (seen_by t says p) ≡ true → is_of o (says p) ≡ true
seen_of Every says o p e = e
seen_of (Older b) says o p e = by_test (ltb (age_of says p) b) _ (λ u. rw u at e) (λ u. let z : false ≡ true = rw u at e in clash (cc))

module _ (g : Geometry) (dump : List ℕ) where
  -- ---- the lines of rows at positions

  -- where each of a list has its lines at its position, the lines of all are those of each
  lines_of :
      {A : Type 0} (rows : List ℕ) (m : ℕ) (f : A → List ℕ) (xs : List A) (at : ℕ) → AllAt (λ i x. row_lines g dump rows m i ≡ f x) xs at →
      lines_to g dump rows m (at + length xs) ≡ lines_to g dump rows m at ++ joined f xs
  unfolding joined
  lines_of rows m f [] at h = rw (add-zero, append-nil)
  lines_of rows m f (x ∷ xs) at h =
      let e : at + suc (length xs) ≡ at + 1 + length xs = omega arith in
      rw e (lines_of rows m f xs (at + 1) h.1 ∙ rw (lines_more g dump rows m at, h.0, append_assoc))

  module _ (t : Takes) (n : ℕ) where
    -- what the pages say, and the names on them
    abbrev says : ℕ → Record
    says = says_by g dump t

    abbrev names : ℕ → List ℕ
    names = names_of g dump

    -- ---- what an object's page tells

    -- the page of an object is in a row as it is, and has its name and its id
    record Tells (o : ℕ) : Type 0 where
      small : page_of says n o < word_values
      named : step_to says names n o ≡ slash ∷ name_on g dump (page_of says n o)
      its : object_of (record_at g dump (page_of says n o)) ≡ o

    -- that of a live object does
    live-tells : n ≤ word_values → (o : ℕ) → In o (live_ids says n) → Tells o
    unfolding step_to name_on
    live-tells few o i =
        let w = live_of says n o i in
        let h = w.header in
        let f = newest_found says (header_of o) n h w.newest_header_lem in
        record {
          small = rw w.newest_header_lem (omega (arith, f.below));
          named = rw w.newest_header_lem;
          its = rw w.newest_header_lem (of_object o (record_at g dump h) (seen_of t (record_at g dump) o h (and_left (is_of o (says h)) _ f.passes)));
        }

    -- ---- the entries of rows

    module _ (rows : List ℕ) where
      -- a key leads to a path, with so many steps or more: 0 to the empty one, and another to that of its row
      abbrev Leads : (key steps : ℕ) (path : List ℕ) → Type 0
      Leads key e path = (s : ℕ) → e ≤ s → pick (eqb key 0) [] (path_in g dump rows s (key - 1)) ≡ path

      -- the row of an object whose key leads to its directory has its path
      row-path :
          (key e o i s : ℕ) (path : List ℕ) → Tells o → get_or rows i 0 ≡ packed key (page_of says n o) → Leads key e path → e ≤ s →
          path_in g dump rows (suc s) i ≡ path ++ step_to says names n o
      unfolding path_in
      row-path key e o i s path w r l h =
          rw (r, packed_key key (page_of says n o) w.small, packed_value key (page_of says n o) w.small, l s h, w.named)

      -- so the key of what is below it leads to that path
      row-leads :
          (key e o i : ℕ) (path : List ℕ) → Tells o → get_or rows i 0 ≡ packed key (page_of says n o) → Leads key e path → i < most_key →
          Leads (key_behind i) (suc e) (path ++ step_to says names n o)
      row-leads key e o i path w r l small zero h = absurd (omega arith)
      row-leads key e o i path w r l small (suc s) h =
          let k : key_behind i ≡ i + 1 = omega arith in
          let back : i + 1 - 1 ≡ i = omega arith in
          rw (k, ne_eqb (i + 1) 0 (λ z. omega arith), back) (row-path key e o i s path w r l (omega arith))

      -- row i tells an entry
      record Told (i : ℕ) (e : Entry) : Type 0 where
        object : object_in g dump (get_or rows i 0) ≡ e.object
        path : path_in g dump rows most_depth i ≡ e.path

      -- the rows of a directory, so many steps deep, tell its entries
      abbrev TellsBelow : (depth : ℕ) → Type 0
      TellsBelow k =
          (key e d at : ℕ) (path : List ℕ) → e + k ≤ most_depth → Leads key e path →
          AllAt (StandsAt rows) (rows_under says names n k key d at) at → AllAt Told (under says names n k path d) at

      module _ (short : length rows < most_key) (k : ℕ) (below : TellsBelow k) where
        -- the rows of an object tell its entry and those below it
        entry-told :
            (key e o at : ℕ) (path : List ℕ) → e + suc k ≤ most_depth → Leads key e path → Tells o →
            AllAt (StandsAt rows) (rows_at says names n (rows_under says names n k) key at o) at →
            AllAt Told (entry_of says names n (under says names n k) path o) at
        unfolding rows_at entry_of
        entry-told key e o at path h l w r =
            let own : Told at (record { object = o; path = path ++ step_to says names n o }) =
            record {
              object = rw (r.0.here, packed_value key (page_of says n o) w.small) w.its;
              path = row-path key e o at (most_depth - 1) path w r.0.here l (omega arith);
            } in
            by_test (is_standing (stand_of says n o)) _
            (λ t.
            rw t (
              own,
              below (key_behind at) (suc e) o (at + 1) (path ++ step_to says names n o) (omega arith)
                  (row-leads key e o at path w r.0.here l (omega (arith, r.0.inside))) (rw t at r.1),
            ))
            (λ t. rw t (own, tt))

        -- and so do those of a list of objects, one behind the other
        children-told :
            (key e : ℕ) (path : List ℕ) → e + suc k ≤ most_depth → Leads key e path → (cs : List ℕ) → ((o : ℕ) → In o cs → Tells o) → (at : ℕ) →
            AllAt (StandsAt rows) (each_at (rows_at says names n (rows_under says names n k) key) at cs) at →
            AllAt Told (joined (entry_of says names n (under says names n k) path) cs) at
        unfolding each_at joined
        children-told key e path h l [] w at r = tt
        children-told key e path h l (o ∷ cs) w at r =
            let here = rows_at says names n (rows_under says names n k) key at o in
            let same : length here ≡ length (entry_of says names n (under says names n k) path o) =
            row_length says names n (rows_under says names n k) (under says names n k) (rows_length says names n k) key path at o in
            all_join Told (entry_of says names n (under says names n k) path o) _ at
            (entry-told key e o at path h l (w o (inl refl)) (all_left (StandsAt rows) here _ at r))
            (subst (λ (j : ℕ). AllAt Told (joined (entry_of says names n (under says names n k) path) cs) (at + j)) same
            (children-told key e path h l cs (λ c i. w c (inr i)) (at + length here) (all_right (StandsAt rows) here _ at r)))

      -- so each directory's rows tell its entries
      under-told : n ≤ word_values → length rows < most_key → (k : ℕ) → TellsBelow k
      unfolding rows_under under
      under-told few short zero key e d at path h l r = tt
      under-told few short (suc k) key e d at path h l r =
          children-told short k (under-told few short k) key e path h l (children_of says names n d)
          (λ o i. live-tells few o (child_of says names n d o i).0) at r

    -- ---- the rows of a tree

    -- all rows, and how many are of the first list
    abbrev rows : List ℕ
    rows = tree_rows says names n

    abbrev many : ℕ
    many = length (listed_rows says names n)

    -- a dump has fewer pages
    module _ (few : n < most_key) where
      -- so the rows' numbers are keys, and the pages' values
      rows_short : length rows < most_key
      rows_short = omega (arith, rows_fit says names n, count_le (is_head says) n)

      pages_few : n ≤ word_values
      pages_few = omega arith

      -- the first rows tell the entries of the first list
      listed-told : AllAt (Told rows) (listed says names n) 0
      unfolding tree_rows listed_rows listed
      listed-told =
          under-told rows pages_few rows_short most_depth 0 0 root 0 [] (omega arith) (λ s h. refl)
          (all_left (StandsAt rows) (listed_rows says names n) (other_rows says names n) 0 (all_stand [] rows))

      -- the others stand behind them
      others-stand : AllAt (λ i o. StandsAt rows i (packed (number_of (reason_of says n o)) (page_of says n o)) × Tells o) (others says names n) many
      unfolding tree_rows other_rows
      others-stand =
          all_given (StandsAt rows) Tells _ (others says names n) many (λ o i. live-tells pages_few o (others_live says names n o i).0)
          (rw zero-add at (all_right (StandsAt rows) (listed_rows says names n) (other_rows says names n) 0 (all_stand [] rows)))

      -- so the lines of each are those of its entry or of its object
      listed-lines : AllAt (λ i e. row_lines g dump rows many i ≡ path_lines e.object e.path) (listed says names n) 0
      unfolding row_lines
      listed-lines =
          all_so (Told rows) _ 0 many (λ i e l h w. rw (lt-ltb i many h, w.object, w.path)) (listed says names n) 0 (omega arith)
          (omega (arith, listed_rows_length says names n)) listed-told

      other-lines : AllAt (λ i o. row_lines g dump rows many i ≡ reason_lines o (reason_of says n o)) (others says names n) many
      unfolding row_lines
      other-lines =
          all_so _ _ many (many + length (others says names n))
          (λ i o l h w.
          let r = w.0.here in
          let p = page_of says n o in
          let k = number_of (reason_of says n o) in
          rw (le-ltb i many l, r, packed_value k p w.1.small, packed_key k p w.1.small, w.1.its, reason_numbered (reason_of says n o)))
          (others says names n) many (omega arith) (omega arith) others-stand

      -- and the text of all rows is the document's
      pub rows_text_lem : rows_text g dump rows many ≡ tree_text says names n
      unfolding tree_text tree_rows
      rows_text_lem =
          let all : length rows ≡ many + length (others says names n) =
          length-append (listed_rows says names n) (other_rows says names n) ∙ ap (λ (k : ℕ). many + k) (other_rows_length says names n) in
          let first : many ≡ 0 + length (listed says names n) = omega (arith, listed_rows_length says names n) in
          let front : lines_to g dump rows many many ≡ joined (λ e. path_lines e.object e.path) (listed says names n) =
          ap (lines_to g dump rows many) first ∙ lines_of rows many _ (listed says names n) 0 listed-lines ∙ rw (lines_none g dump rows many) in
          ap (lines_to g dump rows many) all ∙ lines_of rows many _ (others says names n) many other-lines ∙ rw front

      -- the path of a listed row is that of its entry
      pub path_at_lem : (i : ℕ) (none : Entry) → i < many → path_at g dump rows i ≡ (get_or (listed says names n) i none).path
      unfolding path_at tree_rows
      path_at_lem i none h =
          let w = all_at (Told rows) none (listed says names n) 0 i (omega (arith, listed_rows_length says names n)) listed-told in
          let inside : i < length rows = omega (arith, length-append (listed_rows says names n) (other_rows says names n)) in
          rw (lt-ltb i (length rows) inside) (rw zero-add at w.path)
