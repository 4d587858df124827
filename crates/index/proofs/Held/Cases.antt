-- What a start and an addition answer and store, case by case, for the code and for the laws of what the cells hold.
use Prim.Native.Nat.{ℕ, ◌≤◌, ◌<◌}
use Rattle.std.specs.Prelude.{Result, Ok, Err}
use mathlib.Core.Bool.{true, false}
use mathlib.Core.List.{List}
use mathlib.Core.Path.{◌≡◌, refl}
use lib.ListN.{length, set}
use borrow.Author.Tests.{lt-ltb, le-ltb, le-leb, lt-leb, eq-eqb, ne_eqb}
use Rattle.page.specs.declared.refusal.Refusal.{Refusal}
use Rattle.page.specs.declared.refusal.Refusal.TheVariants.{ShortIndex, BadPage, AlreadyAdded}
use Rattle.index.specs.Cells.{cells_for, link_at, first_at, is_marked, last, linked, claimed}
use Rattle.index.specs.Slots.{slot_of, first_in, first}
use Rattle.index.specs.Chains.{top, trace, chain}
use Rattle.index.specs.Places.{place_of}
use Rattle.index.specs.Additions.{outcome, refused, emptied, start_in, add_other, add_at, add_record, add_to}

module _ (n : ℕ) (c : List ℕ) (seed : ℕ) where
  pub start_done : cells_for n ≤ length c → start_in (Ok n) seed c ≡ outcome (Ok tt) (emptied n seed c)
  unfolding start_in
  start_done h = simp (le-ltb (length c) (cells_for n) h)

module _ (c : List ℕ) (p : ℕ) where
  pub other_marked : is_marked c p ≡ true → add_other c p ≡ refused AlreadyAdded c
  unfolding add_other
  other_marked m = rw m refl

  pub other_new : is_marked c p ≡ false → add_other c p ≡ outcome (Ok tt) (set c (link_at p) last)
  unfolding add_other
  other_new m = rw m refl

  pub at_refused : (o s : ℕ) (r : Refusal) → add_at c p o s (Err r) ≡ refused r c
  unfolding add_at
  at_refused o s r = refl

  pub at_new : (o s at : ℕ) → is_marked c p ≡ false → add_at c p o s (Ok at) ≡ outcome (Ok tt) (linked (claimed c s o) p at)
  unfolding add_at
  at_new o s at m = rw m refl

module _ (n : ℕ) (obj age : ℕ → ℕ) (c : List ℕ) (p : ℕ) where
  pub add_short : length c < cells_for n → add_to n obj age c p ≡ refused ShortIndex c
  unfolding add_to
  add_short h = simp (lt-ltb (length c) (cells_for n) h)

  module _ (room : cells_for n ≤ length c) where
    pub add_far : n ≤ p → add_to n obj age c p ≡ refused BadPage c
    unfolding add_to
    add_far h = simp (le-ltb (length c) (cells_for n) room, le-leb n p h)

    module _ (inside : p < n) where
      pub add_other_lem : obj p ≡ 0 → add_to n obj age c p ≡ add_other c p
      unfolding add_to
      add_other_lem z = simp (le-ltb (length c) (cells_for n) room, lt-leb n p inside, eq-eqb (obj p) 0 z)

      pub add_record_lem : (obj p ≡ 0 → ⊥) → add_to n obj age c p ≡ add_record n obj age c p
      unfolding add_to
      add_record_lem z = simp (le-ltb (length c) (cells_for n) room, lt-leb n p inside, ne_eqb (obj p) 0 z)

  -- a record goes by its place in its object's chain
  pub record_at_lem :
      (s o : ℕ) (r : (Result ℕ Refusal)) →
      s ≡ slot_of n c o →
      o ≡ obj p →
      r ≡ place_of age p (trace n obj age c o top (first_in c s o)) (first_at s) →
      add_at c p o s r ≡ add_record n obj age c p
  unfolding add_record chain first
  record_at_lem s o r e f g = rw (g, e, f) refl
