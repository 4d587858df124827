-- Rows in order of which the newest of each object is kept, in place: what was kept so far stands in front, the newest row so far of the object that
-- the scan is at is at hand, and the rows not yet read are as they were.
use Prim.Native.Nat.{ℕ, suc, ◌+◌, ◌≤◌, ◌<◌}
use mathlib.Core.List.{List, [], ◌∷◌, ◌++◌}
use mathlib.Core.Path.{◌≡◌, refl, sym, ap, ◌∙◌}
use native.Mathlib.Nat.{add-zero, not-suc-le-zero}
use native.Mathlib.Numerals.{add-one}
use native.Mathlib.Omega.{arith}
use borrow.Author.Tests.{eq-eqb, ne_eqb}
use lib.ListN.{length, take, drop, set, get_or, length-set, drop_of_length-le}
use lib.Seq.{drop-cons, get_or-drop, drop-set-lt, take-suc-set, append_snoc}
use Rattle.page.specs.declared.record.Record.{Record}
use Rattle.sort.specs.Packed.{key_of}
use Rattle.tree.specs.Heads.{newer_row, newest_from, newest_each}

module _ (says : ℕ → Record) where
  -- one row more, of the same object
  pub newest_same : (b x : ℕ) (L : List ℕ) → key_of b ≡ key_of x → newest_from says b (x ∷ L) ≡ newest_from says (newer_row says b x) L
  unfolding newest_from
  newest_same b x L e = rw (eq-eqb (key_of b) (key_of x) e)

  -- or of another
  pub newest_other : (b x : ℕ) (L : List ℕ) → (key_of b ≡ key_of x → ⊥) → newest_from says b (x ∷ L) ≡ b ∷ newest_from says x L
  unfolding newest_from
  newest_other b x L f = rw (ne_eqb (key_of b) (key_of x) f)

  -- and none more
  pub newest_last : (b : ℕ) → newest_from says b [] ≡ b ∷ []
  unfolding newest_from
  newest_last b = refl

  module _ (L : List ℕ) where
    -- so many rows were kept, and the rows before i read
    pub record Kept (rows : List ℕ) (best at i : ℕ) : Type 0 where
      pub order : at < i
      pub inside : i ≤ length L
      pub long : length rows ≡ length L
      pub rest : drop i rows ≡ drop i L
      pub made : take at rows ++ newest_from says best (drop i L) ≡ newest_each says L

  -- none was kept, and the first is at hand
  pub kept_none : (L : List ℕ) → 0 < length L → Kept L L (get_or L 0 0) 0 1
  kept_none [] h = absurd (not-suc-le-zero h)
  kept_none (x ∷ L) h = record { order = omega arith; inside = omega arith; long = refl; rest = refl; made = refl }

  module _ (L rows : List ℕ) (best at i : ℕ) (k : Kept L rows best at i) where
    module _ (h : i < length L) where
      -- the next row is as it was
      next_row : get_or rows i 0 ≡ get_or L i 0
      next_row =
          let a : get_or (drop i rows) 0 0 ≡ get_or rows i 0 = get_or-drop i rows 0 0 ∙ ap (λ (j : ℕ). get_or rows j 0) (add-zero i) in
          let b : get_or (drop i L) 0 0 ≡ get_or L i 0 = get_or-drop i L 0 0 ∙ ap (λ (j : ℕ). get_or L j 0) (add-zero i) in
          sym a ∙ ap (λ (l : List ℕ). get_or l 0 0) k.rest ∙ b

      -- so that the rows left begin with it
      left : drop i L ≡ get_or rows i 0 ∷ drop (i + 1) L
      left = drop-cons L i 0 h ∙ rw (next_row, add-one i)

      -- and those behind it are as they were
      rest-on : drop (i + 1) rows ≡ drop (i + 1) L
      rest-on =
          let a : drop i rows ≡ get_or rows i 0 ∷ drop (suc i) rows = drop-cons rows i 0 (omega (arith, k.long)) in
          let e : get_or rows i 0 ∷ drop (suc i) rows ≡ get_or rows i 0 ∷ drop (i + 1) L = sym a ∙ k.rest ∙ left in
          rw (add-one i) (ap (λ (l : List ℕ). drop 1 l) e ∙ rw (add-one i))

      -- where it is of the same object, the newer is at hand then
      pub kept_same : key_of best ≡ key_of (get_or rows i 0) → Kept L rows (newer_row says best (get_or rows i 0)) at (i + 1)
      kept_same e = record {
        order = omega (arith, k.order);
        inside = omega arith;
        long = k.long;
        rest = rest-on;
        made =
            ap (λ (l : List ℕ). take at rows ++ l)
            (sym (newest_same best (get_or rows i 0) (drop (i + 1) L) e) ∙ ap (newest_from says best) (sym left))
            ∙ k.made;
      }

      -- where it is of another, the one at hand is kept
      pub kept_other : (key_of best ≡ key_of (get_or rows i 0) → ⊥) → Kept L (set rows at best) (get_or rows i 0) (at + 1) (i + 1)
      kept_other f = record {
        order = omega (arith, k.order);
        inside = omega arith;
        long = length-set rows at best ∙ k.long;
        rest = drop-set-lt (i + 1) rows at best (omega (arith, k.order)) ∙ rest-on;
        made =
            rw (add-one at, take-suc-set rows at best (omega (arith, k.order, k.long)))
            (append_snoc (take at rows) best (newest_from says (get_or rows i 0) (drop (i + 1) L))
            ∙ ap (λ (l : List ℕ). take at rows ++ l)
            (sym (newest_other best (get_or rows i 0) (drop (i + 1) L) f) ∙ ap (newest_from says best) (sym left))
            ∙ k.made);
      }

    -- all rows are read
    pub kept_end : length L ≤ i → take (at + 1) (set rows at best) ≡ newest_each says L
    kept_end h =
        let e : drop i L ≡ [] = drop_of_length-le L h in
        rw (add-one at, take-suc-set rows at best (omega (arith, k.order, k.long, k.inside)))
        (ap (λ (l : List ℕ). take at rows ++ l) (sym (newest_last best) ∙ ap (newest_from says best) (sym e)) ∙ k.made)

-- no rows are kept of none
pub newest_none : (says : ℕ → Record) (L : List ℕ) → length L ≡ 0 → newest_each says L ≡ []
newest_none says [] e = refl
newest_none says (x ∷ L) e = absurd (omega arith)
