-- The children's rows: a row for each place of an object that is live and not the root, and for no other. No two are the same, since each has its
-- place as its value; so they ascend when they are sorted.
use Prim.Native.Nat.{ℕ, ◌<◌}
use mathlib.Core.Bool.{Bool, true, false, not, ◌&&◌}
use mathlib.Core.List.{List}
use mathlib.Core.Path.{◌≡◌, refl, sym, ap, ◌∙◌}
use native.Mathlib.Nat.{le_refl}
use native.Mathlib.Omega.{arith}
use borrow.Author.Tests.{eqb-false, eq-eqb, ne_eqb, not-true}
use lib.Dec.{eqb}
use lib.ListN.{length, get_or}
use Rattle.page.specs.Records.{is_header}
use Rattle.page.specs.declared.record.Record.{Record}
use Rattle.page.specs.declared.record.Record.TheVariants.{Header}
use Rattle.page.specs.declared.record.Header as header
use Rattle.page.proofs.Layouts.{and_left, and_right}
use Rattle.sort.specs.Ascending.{Ascends}
use Rattle.sort.specs.Packed.{word_values, packed, key_of, value_of}
use Rattle.sort.proofs.Packing.{packed_key, packed_value}
use Rattle.sort.proofs.Places.{at_in, arranged_sorted}
use Rattle.chunk.specs.Live.{passed, ids_of}
use Rattle.chunk.specs.Records.{is_gone}
use Rattle.chunk.proofs.Living.{ids_of_lem, ids_ascend_below}
use Rattle.tree.specs.Children.{is_child, child_row, child_rows}
use Rattle.tree.specs.Heads.{Heads, object_at, said_at}
use Rattle.tree.specs.Objects.{root, parent_in}
use Rattle.sort.specs.Search.{Sorted}

module _ (says : ℕ → Record) (heads : List ℕ) (j : ℕ) where
  -- the root is passed over
  pub root_no_child : object_at heads j ≡ root → is_child says heads j ≡ false
  unfolding is_child
  root_no_child e = rw (eq-eqb (object_at heads j) root e)

  -- where the second of three tests fails, they do
  other_no_child : (b c : Bool) → (b && (false && c)) ≡ false
  other_no_child true c = refl
  other_no_child false c = refl

  -- and where the third does
  gone_no_child : (b c : Bool) → (b && (c && false)) ≡ false
  gone_no_child true true = refl
  gone_no_child true false = refl
  gone_no_child false c = refl

  -- a page that is no header is passed over
  pub page_no_child : is_header (said_at says heads j) ≡ false → is_child says heads j ≡ false
  unfolding is_child
  page_no_child e = rw e (other_no_child (not (eqb (object_at heads j) root)) (not (is_gone (said_at says heads j))))

  -- and so is a deleted object
  pub deleted_no_child : is_gone (said_at says heads j) ≡ true → is_child says heads j ≡ false
  unfolding is_child
  deleted_no_child e = rw e (gone_no_child (not (eqb (object_at heads j) root)) (is_header (said_at says heads j)))

  -- every other is a child
  pub is_child_lem :
      (object_at heads j ≡ root → ⊥) → is_header (said_at says heads j) ≡ true → is_gone (said_at says heads j) ≡ false → is_child says heads j ≡ true
  unfolding is_child
  is_child_lem f h e = rw (ne_eqb (object_at heads j) root f, h, e)

  -- and a child is so
  pub child_is : is_child says heads j ≡ true → (object_at heads j ≡ root → ⊥) × (is_gone (said_at says heads j) ≡ false)
  unfolding is_child
  child_is t =
      let below = not (eqb (object_at heads j) root) in (
        eqb-false (object_at heads j) root (not-true _ (and_left below _ t)),
        not-true _ (and_right (is_header (said_at says heads j)) _ (and_right below _ t)),
      )

  -- its row has the parent that its header names, and its place
  pub child_row_lem : (h : header.Header) → said_at says heads j ≡ Header h → child_row says heads j ≡ packed h.parent.0 j
  unfolding child_row
  child_row_lem h e = rw e

-- the children of n pages with these newest headers
module _ (says : ℕ → Record) (n : ℕ) (heads : List ℕ) (w : Heads says n heads) where
  -- they are in order
  pub children_sorted : Sorted (child_rows says heads)
  unfolding child_rows ids_of
  children_sorted = arranged_sorted (passed (is_child says heads) (child_row says heads) (length heads))

  -- no row of theirs is there twice
  pub children_ascend : Ascends 0 (child_rows says heads)
  unfolding child_rows child_row
  children_ascend = ids_ascend_below (is_child says heads) (child_row says heads) (length heads) apart (length heads) (le_refl _)
    where
      apart :
          (p q : ℕ) → p < length heads → q < length heads → is_child says heads p ≡ true → is_child says heads q ≡ true →
          child_row says heads p ≡ child_row says heads q → p ≡ q
      apart p q h k t u e =
          let a = packed_value (parent_in (said_at says heads p)) p (omega (arith, w.few)) in
          let b = packed_value (parent_in (said_at says heads q)) q (omega (arith, w.few)) in
          sym a ∙ ap value_of e ∙ b

  -- a child's row: its place, and that it is one of these
  pub record Child (row : ℕ) : Type 0 where
    pub inside : value_of row < length heads
    pub live : is_child says heads (value_of row) ≡ true
    pub under : key_of row ≡ parent_in (said_at says heads (value_of row))

  -- each row of theirs is one
  pub child_at : (i : ℕ) → i < length (child_rows says heads) → Child (get_or (child_rows says heads) i 0)
  unfolding child_rows child_row
  child_at i h =
      let r = get_or (child_rows says heads) i 0 in
      let b = ids_of_lem (is_child says heads) (child_row says heads) r (length heads) (at_in i (child_rows says heads) h) in
      let p = parent_in (said_at says heads b.page) in
      let few : b.page < word_values = omega (arith, b.inside, w.few) in
      let v : value_of r ≡ b.page = ap value_of (sym b.bears) ∙ packed_value p b.page few in
      let k : key_of r ≡ p = ap key_of (sym b.bears) ∙ packed_key p b.page few in
      record { inside = rw v b.inside; live = rw v b.passes; under = rw v k }
