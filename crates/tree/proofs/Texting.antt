-- Laws for the functions that put the text of rows: how far a name goes, what a path is by its row's key, and what one row more adds.
use Prim.Native.Nat.{ℕ, zero, suc, ◌+◌, ◌-◌, ◌≤◌}
use mathlib.Core.Bool.{Bool, true, false, cond}
use mathlib.Core.List.{List, [], ◌∷◌, ◌++◌}
use mathlib.Core.Path.{◌≡◌, refl, sym, ap, ◌∙◌}
use native.Mathlib.Numerals.{add-one}
use native.Mathlib.Omega.{arith}
use borrow.Author.Tests.{eq-eqb, ne_eqb, ltb-false}
use lib.Dec.{eqb, ltb}
use lib.ListN.{length, get_or, take, length-take}
use Rattle.std.specs.Prelude.{Option, Some, None}
use Rattle.std.specs.List.{position_or_len}
use Rattle.std.specs.Option.{unwrap_or}
use Rattle.page.specs.Choice.{pick}
use Rattle.page.proofs.Searching.{by_test}
use Rattle.page.specs.declared.geometry.Geometry.{Geometry}
use Rattle.sort.specs.Packed.{key_of, value_of}
use Rattle.tree.specs.Objects.{names_of}
use Rattle.tree.specs.Paths.{slash, up_to_zero}
use Rattle.tree.specs.Rows.{name_on, path_in, row_lines, lines_to}

-- a name goes to the first zero byte, or to the end
pub name_long : (L : List ℕ) → length (up_to_zero L) ≡ position_or_len (λ (x : ℕ). eqb x 0) L
unfolding up_to_zero
name_long [] = refl
name_long (x ∷ L) = by_test (eqb x 0) _ (λ t. rw t) (λ t. rw t (omega (arith, name_long L)))

-- a name stands in front of its bytes
pub name_in_front : (L : List ℕ) → take (length (up_to_zero L)) L ≡ up_to_zero L
unfolding up_to_zero
name_in_front [] = refl
name_in_front (x ∷ L) = by (eqb x 0) (name_in_front L)
  where
    by : (t : Bool) → take (length (up_to_zero L)) L ≡ up_to_zero L → take (length (pick t [] (x ∷ up_to_zero L))) (x ∷ L) ≡ pick t [] (x ∷ up_to_zero L)
    by true e = refl
    by false e = ap (λ (l : List ℕ). x ∷ l) e

-- so it is no longer than they are
pub name_within : (L : List ℕ) → length (up_to_zero L) ≤ length L
name_within L = let h = simp length-take at (ap length (name_in_front L)) in omega arith

-- where a search for a zero byte ends is its length
pub name_found : (L : List ℕ) (r : Option ℕ) (n : ℕ) → let k = position_or_len (λ (x : ℕ). eqb x 0) L in
    r ≡ cond (ltb k (length L)) (Some k) None → n ≡ unwrap_or r (length L) → n ≡ length (up_to_zero L)
name_found L r n e u =
    let l = name_long L in
    by_test (ltb (position_or_len (λ (x : ℕ). eqb x 0) L) (length L)) _
    (λ t. u ∙ rw (e, t) (sym l))
    (λ t. u ∙ rw (e, t) (omega (arith, ltb-false _ _ t, name_within L, l)))

module _ (g : Geometry) (dump : List ℕ) where
  -- so the bytes that are put are the name
  pub name_put : (p : ℕ) {L : List ℕ} {n : ℕ} → L ≡ names_of g dump p → n ≡ length (up_to_zero L) → take n L ≡ name_on g dump p
  unfolding name_on
  name_put p {L} {n} e h = rw (h, name_in_front, e)

  module _ (rows : List ℕ) where
    -- no steps make no path
    pub path_none : (steps i : ℕ) → steps ≡ 0 → path_in g dump rows steps i ≡ []
    unfolding path_in
    path_none steps i e = rw e

    -- a row of the root has its own step
    pub path_first : {row key : ℕ} (steps i : ℕ) → (steps ≡ 0 → ⊥) → row ≡ get_or rows i 0 → key ≡ key_of row → key ≡ 0
        → path_in g dump rows steps i ≡ slash ∷ name_on g dump (value_of row)
    unfolding path_in
    path_first zero i h r e z = absurd (h refl)
    path_first (suc k) i h r e z = rw (← r, ← e, eq-eqb _ _ z)

    -- another has its directory's path before that
    pub path_next : {row key : ℕ} (steps i : ℕ) → (steps ≡ 0 → ⊥) → row ≡ get_or rows i 0 → key ≡ key_of row → (key ≡ 0 → ⊥)
        → path_in g dump rows steps i ≡ path_in g dump rows (steps - 1) (key - 1) ++ (slash ∷ name_on g dump (value_of row))
    unfolding path_in
    path_next zero i h r e z = absurd (h refl)
    path_next (suc k) i h r e z = let less : suc k - 1 ≡ k = omega arith in rw (← r, ← e, ne_eqb _ _ z, less)

    -- no row has no lines
    pub lines_none : (listed : ℕ) → lines_to g dump rows listed 0 ≡ []
    unfolding lines_to
    lines_none m = refl

    -- one row more adds its own
    pub lines_more : (listed i : ℕ) → lines_to g dump rows listed (i + 1) ≡ lines_to g dump rows listed i ++ row_lines g dump rows listed i
    unfolding lines_to
    lines_more m i = rw add-one
