-- A layout named by its number: the table's row where there is one, else sizes of 0, which the table lacks.
use Prim.Native.Nat.{ℕ, ◌≤◌}
use Rattle.std.specs.Prelude.{Ok, Err}
use mathlib.Core.Path.{◌≡◌}
use lib.ListN.{get_or-eq_default}
use lib.Dec.{leb}
use borrow.Author.Tests.{leb-true}
use Rattle.page.specs.Layouts.{data_sizes, spare_sizes, tag_offsets, layout_of, layout_at, by_number}
use Rattle.page.specs.declared.layout.Layout.{Layout}
use Rattle.page.specs.declared.refusal.Refusal.{Refusal}
use Rattle.page.proofs.Searching.{clash, pick_cases}

pub numbered_layout : (n : ℕ) (l : Layout) → by_number n ≡ Ok l → l ≡ layout_at n
unfolding by_number
numbered_layout n l e =
    pick_cases (leb 13 n) _ _ _ _ e (λ _ q. clash (cc)) (λ _ q. cc)

-- past the table's end every column reads 0
pub beyond : (n : ℕ) → 13 ≤ n → layout_at n ≡ layout_of 0 0 0
unfolding layout_at data_sizes spare_sizes tag_offsets
beyond n h =
    rw (get_or-eq_default data_sizes 0 {n = n} h, get_or-eq_default spare_sizes 0 {n = n} h, get_or-eq_default tag_offsets 0 {n = n} h)

pub numbered_none : (n : ℕ) (r : Refusal) → by_number n ≡ Err r → layout_at n ≡ layout_of 0 0 0
unfolding by_number
numbered_none n r e =
    pick_cases (leb 13 n) _ _ _ _ e (λ t _. beyond n (leb-true _ _ t)) (λ _ q. clash (cc))
