-- Where the words of the table of objects stand: behind the shared words, at no page's link, each at a place of its own, and within the words
-- of the index.
use Prim.Native.Nat.{ℕ, ◌+◌, ◌*◌, ◌/◌, ◌%◌, ◌≤◌, ◌<◌, ◌^◌}
use mathlib.Core.List.{List}
use mathlib.Core.Path.{◌≡◌}
use native.Mathlib.Nat.{mod-lt, div-add-mod', div-mul-le_self}
use native.Mathlib.Omega.{arith}
use lib.ListN.{length}
use Rattle.index.specs.Cells.{shared, cells_for, slots_for, link_at, table_at, key_at, first_at, seed_at, InTable}

-- three words to a page
module _ (u : ℕ) where
  thirds : (u / 3 * 3 + u % 3 ≡ u) × (u % 3 < 3)
  thirds = (div-add-mod' u 3, mod-lt u (omega arith))

  pub table_behind : shared < table_at u
  unfolding table_at
  table_behind = omega arith

  pub table_link : (p : ℕ) → table_at u ≡ link_at p → ⊥
  unfolding table_at
  table_link p e = absurd (omega (arith, thirds.0, thirds.1))

  pub table_inside : (n : ℕ) → u < 3 * n → table_at u < cells_for n
  unfolding table_at
  table_inside n h = omega (arith, thirds.0, thirds.1)

  pub table_seed : seed_at ≡ table_at u → ⊥
  table_seed e = absurd (omega (arith, table_behind))

pub table_same : (u v : ℕ) → table_at u ≡ table_at v → u ≡ v
unfolding table_at
table_same u v e = omega (arith, (thirds u).0, (thirds u).1, (thirds v).0, (thirds v).1)

-- two words to a slot
module _ (s t : ℕ) where
  pub key_same : key_at s ≡ key_at t → s ≡ t
  key_same e = omega (arith, table_same (2 * s) (2 * t) e)

  pub first_same : first_at s ≡ first_at t → s ≡ t
  first_same e = omega (arith, table_same (2 * s + 1) (2 * t + 1) e)

  pub key_first : key_at s ≡ first_at t → ⊥
  key_first e = absurd (omega (arith, table_same (2 * s) (2 * t + 1) e))

-- a slot of an index of n pages
module _ (n s : ℕ) (h : s < slots_for n) where
  pub first_inside : first_at s < cells_for n
  first_inside = table_inside (2 * s + 1) n (omega (arith, div-mul-le_self n 2))

  pub key_inside : key_at s < cells_for n
  key_inside = table_inside (2 * s) n (omega (arith, div-mul-le_self n 2))

  pub slot_in : (c : List ℕ) → n < 2 ^ 32 → cells_for n ≤ length c → InTable c s
  slot_in c few room = record { few = omega (arith, div-mul-le_self n 2); room = omega (arith, first_inside) }

-- the key stands before the first link
key_before : (s : ℕ) → key_at s < first_at s
unfolding table_at
key_before s = omega (arith, (thirds (2 * s)).0, (thirds (2 * s)).1, (thirds (2 * s + 1)).0, (thirds (2 * s + 1)).1)

pub key_room : (c : List ℕ) (s : ℕ) → InTable c s → key_at s < length c
key_room c s h = omega (arith, h.room, key_before s)

-- some pages have some slots
pub slots_some : (n : ℕ) → 0 < n → 0 < slots_for n
slots_some n h = omega arith

-- and where there is a slot there is a page
pub slots_pages : (n s : ℕ) → s < slots_for n → 0 < n
slots_pages n s h = omega (arith, div-mul-le_self n 2)

-- there is a slot for every page, and more
pub slots_most : (n : ℕ) → n ≤ slots_for n
slots_most n = omega arith
