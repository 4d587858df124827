-- The rows of the first list, one entry after the other. A position that stopped counting gives the same keys as the true one, so that it may stand
-- for it.
use Prim.Native.Nat.{ℕ, zero, suc, ◌+◌, ◌-◌, ◌≤◌, ◌<◌}
use mathlib.Core.Bool.{Bool, true, false}
use mathlib.Core.List.{List, [], ◌∷◌, ◌++◌, append-nil, append_assoc}
use mathlib.Core.Path.{◌≡◌, refl, sym, ap, ◌∙◌}
use native.Mathlib.Nat.{add-zero, le_refl}
use native.Mathlib.Numerals.{sub-one}
use native.Mathlib.Omega.{arith}
use lib.ListN.{length, take, get_or, length-append}
use lib.Seq.{take-suc, take_all}
use Rattle.page.specs.Choice.{pick}
use Rattle.page.specs.declared.record.Record.{Record}
use Rattle.sort.specs.Packed.{packed, key_of, value_of}
use Rattle.text.specs.Put.{most, counted, Put}
use Rattle.text.proofs.Putting.{also, nothing}
use Rattle.tree.specs.Heads.{Heads, object_at}
use Rattle.tree.specs.Objects.{stand_by, is_standing}
use Rattle.tree.specs.Paths.{children_of}
use Rattle.tree.specs.Rows.{key_behind, each_at, rows_at, entry_rows, rows_under}
use Rattle.tree.proofs.HeadRows.{page_at_lem, stand_at}
use Rattle.tree.proofs.Segments.{Segment}

-- ---- positions

-- two positions that count alike do so behind as many more
count_same : (a b l : ℕ) → counted a ≡ counted b → counted (a + l) ≡ counted (b + l)
unfolding counted
count_same a b l e = omega arith

-- and give the same key
key_same : (a b : ℕ) → counted a ≡ counted b → key_behind a ≡ key_behind b
unfolding counted
key_same a b e = omega arith

-- a position that was counted counts as it is
count_twice : (a : ℕ) → counted (counted a) ≡ counted a
unfolding counted
count_twice a = omega arith

-- ---- what each of a list gives where it comes to stand

module _ (f : (at x : ℕ) → List ℕ) where
  -- of none nothing
  each_none : (at : ℕ) → each_at f at [] ≡ []
  unfolding each_at
  each_none at = refl

  -- of one more what it gives behind the others
  each_more : (at x : ℕ) (L : List ℕ) → each_at f at (L ++ (x ∷ [])) ≡ each_at f at L ++ f (at + length (each_at f at L)) x
  unfolding each_at
  each_more at x [] = rw (add-zero at) (append-nil (f at x))
  each_more at x (y ∷ L) =
      let here = f at y in
      let rest = each_at f (at + length here) L in
      let e : at + length here + length rest ≡ at + length (here ++ rest) = rw (length-append here rest) (omega arith) in
      ap (λ (l : List ℕ). here ++ l) (each_more (at + length here) x L) ∙ sym (append_assoc here rest _) ∙ rw e

  -- from two positions that count alike the same, if each does
  each_same : ((a b x : ℕ) → counted a ≡ counted b → f a x ≡ f b x) → (a b : ℕ) (L : List ℕ) → counted a ≡ counted b → each_at f a L ≡ each_at f b L
  unfolding each_at
  each_same g a b [] e = refl
  each_same g a b (x ∷ L) e =
      let l = length (f b x) in
      rw (g a b x e) (ap (λ (r : List ℕ). f b x ++ r) (each_same g (a + l) (b + l) L (count_same a b l e)))

module _ (says : ℕ → Record) (names : ℕ → List ℕ) (n : ℕ) where
  -- ---- rows from positions that count alike

  -- those of an object are the same, if those below it are
  at_same :
      (below : (key object at : ℕ) → List ℕ) → ((key d a b : ℕ) → counted a ≡ counted b → below key d a ≡ below key d b) →
      (key a b o : ℕ) → counted a ≡ counted b → rows_at says names n below key a o ≡ rows_at says names n below key b o
  unfolding rows_at
  at_same below g key a b o e = rw (key_same a b e, g (key_behind b) o (a + 1) (b + 1) (count_same a b 1 e))

  -- so those of a directory are
  under_same : (k key d a b : ℕ) → counted a ≡ counted b → rows_under says names n k key d a ≡ rows_under says names n k key d b
  unfolding rows_under
  under_same zero key d a b e = refl
  under_same (suc k) key d a b e =
      each_same (entry_rows says names n k key) (at_same (rows_under says names n k) (under_same k) key) a b (children_of says names n d) e

  -- ---- a directory, so many steps deep

  -- no step makes no rows
  pub no_level : (k key d at : ℕ) → k ≡ 0 → rows_under says names n k key d at ≡ []
  unfolding rows_under
  no_level k key d at e = rw e

  -- some make those of the entries, with one step less
  a_level :
      (k key d at : ℕ) → (k ≡ 0 → ⊥) → rows_under says names n k key d at ≡ each_at (entry_rows says names n (k - 1) key) at (children_of says names n d)
  unfolding rows_under
  a_level zero key d at f = absurd (f refl)
  a_level (suc k) key d at f = rw (sub-one (suc k))

  module _ (heads children : List ℕ) (k key d at : ℕ) (before : List ℕ) where
    -- its entries, and what the first of them give
    abbrev entries : List ℕ
    entries = children_of says names n d

    abbrev made : (count : ℕ) → List ℕ
    made m = each_at (entry_rows says names n (k - 1) key) at (take m entries)

    -- the rows of its entries up to row i of the children were put
    pub record Done (first end : ℕ) (rows : List ℕ) (next i : ℕ) : Type 0 where
      pub from : first ≤ i
      pub to : i ≤ end
      pub segment : Segment children (children_of says names n d) (object_at heads) first end
      pub put : Put (each_at (entry_rows says names n (k - 1) key) at (take (i - first) (children_of says names n d))) before at rows next

    module _ (first end : ℕ) where
      -- none was
      pub done_none :
          Segment children (children_of says names n d) (object_at heads) first end → length before < most → at ≤ most → Done first end before at first
      done_none s h g =
          let e : first - first ≡ 0 = omega arith in
          record {
            from = le_refl first;
            to = s.order;
            segment = s;
            put = rw (e, each_none (entry_rows says names n (k - 1) key) at) (nothing before at h g);
          }

      module _ (rows : List ℕ) (next i : ℕ) (q : Done first end rows next i) where
        -- those of one entry more are
        pub done_more :
            (after : List ℕ) (last : ℕ) → i < end →
            Put (entry_rows says names n (k - 1) key next (object_at heads (value_of (get_or children i 0)))) rows next after last →
            Done first end after last (i + 1)
        done_more after last l p =
            let one = entry_rows says names n (k - 1) key in
            let m = i - first in
            let o = object_at heads (value_of (get_or children i 0)) in
            let j : i + 1 - first ≡ suc m = omega (arith, q.from) in
            let c : counted next ≡ counted (at + length (made m)) = ap counted q.put.behind ∙ count_twice (at + length (made m)) in
            let e : one next o ≡ one (at + length (made m)) o = at_same (rows_under says names n (k - 1)) (under_same (k - 1)) key _ _ o c in
            let t : take (suc m) entries ≡ take m entries ++ (o ∷ []) =
            take-suc entries m 0 (omega (arith, q.from, q.segment.many))
            ∙ ap (λ (x : ℕ). take m entries ++ (x ∷ [])) (q.segment.each i q.from l) in
            let f : made (i + 1 - first) ≡ made m ++ one next o =
            rw (j, t) (each_more one at o (take m entries) ∙ ap (λ (r : List ℕ). made m ++ r) (sym e)) in
            record { from = omega (arith, q.from); to = omega arith; segment = q.segment; put = rw f (also q.put p) }

        -- all were
        pub done_all : (k ≡ 0 → ⊥) → end ≤ i → Put (rows_under says names n k key d at) before at rows next
        done_all f h =
            let e : take (i - first) entries ≡ entries = take_all (i - first) entries (omega (arith, q.segment.many)) in
            rw (a_level k key d at f) (rw e at q.put)

  -- ---- an entry

  -- what the code learns of row i of the children: its place among the heads, its page, what that says, its row, and whether it stands as a directory
  pub record Learnt (heads children : List ℕ) (i key place page : ℕ) (said : Record) (row : ℕ) (stands : Bool) : Type 0 where
    pub inside : place < length heads
    pub its_place : place ≡ value_of (get_or children i 0)
    pub its_page : page ≡ value_of (get_or heads place 0)
    pub its_words : said ≡ says page
    pub its_row : row ≡ packed key page
    pub tested : stands ≡ is_standing (stand_by said)

  module _ (heads children : List ℕ) (w : Heads says n heads) (i key place page : ℕ) (said : Record) (row : ℕ) (stands : Bool)
      (q : Learnt heads children i key place page said row stands) (k at : ℕ) (rows mid : List ℕ) (next : ℕ)
      (p : Put (row ∷ []) rows at mid next) where
    -- the rows of its object
    abbrev entry : List ℕ
    entry = entry_rows says names n k key at (object_at heads (value_of (get_or children i 0)))

    -- are its own, and those below it if it stands
    entry-is :
        entry ≡ row ∷ pick stands (rows_under says names n k (key_behind at) (object_at heads place) (at + 1)) []
    unfolding rows_at
    entry-is =
        rw (
          ← q.its_place,
          page_at_lem says n heads w place q.inside,
          stand_at says n heads w place q.inside,
          q.tested,
          q.its_words,
          q.its_row,
          q.its_page,
        )

    -- where it does not, they were put
    pub plain_put : stands ≡ false → Put entry rows at mid next
    plain_put e = rw (entry-is, e) p

    -- where it does, they are when those below it are put behind
    pub standing_put :
        (object below : ℕ) (after : List ℕ) (last : ℕ) → stands ≡ true → object ≡ key_of (get_or heads place 0) → below ≡ key_behind at →
        Put (rows_under says names n k below object next) mid next after last → Put entry rows at after last
    standing_put object below after last e o b u =
        let c : counted next ≡ counted (at + 1) = ap counted p.behind ∙ count_twice (at + 1) in
        let f = under_same k (key_behind at) (object_at heads place) next (at + 1) c in
        rw (entry-is, e, ← f, ← o, ← b) (also p u)
