-- The lines of what passes a test, one number after the other: one more number adds its own lines, or none.
use Prim.Native.Nat.{ℕ, ◌+◌}
use mathlib.Core.Bool.{Bool}
use mathlib.Core.List.{List, [], ◌∷◌, ◌++◌, map, append-nil, append_assoc, map-append}
use mathlib.Core.Path.{◌≡◌, refl, sym}
use Rattle.page.specs.Choice.{pick}
use Rattle.page.proofs.Searching.{by_test}
use Rattle.sort.specs.Lists.{joined}
use Rattle.chunk.specs.Live.{passed}
use Rattle.chunk.proofs.Living.{passed_none, passed_skip, passed_take}

-- what two lists give, one behind the other
pub joined_append : {A : Type 0} (f : A → List ℕ) (L M : List A) → joined f (L ++ M) ≡ joined f L ++ joined f M
unfolding joined
joined_append f [] M = refl
joined_append f (x ∷ L) M = rw (joined_append f L M) (sym (append_assoc (f x) (joined f L) (joined f M)))

-- the lines of each that passes
module _ {A : Type 0} (lines : A → List ℕ) (of : ℕ → A) (test : ℕ → Bool) (id : ℕ → ℕ) where
  abbrev pub lines_to : ℕ → List ℕ
  lines_to n = joined lines (map of (passed test id n))

  -- none has no lines
  pub lines_none : lines_to 0 ≡ []
  unfolding joined
  lines_none = rw (passed_none test id)

  -- the lines of one alone
  one : (x : A) → joined lines (x ∷ []) ≡ lines x
  unfolding joined
  one x = append-nil (lines x)

  -- one number more adds its lines where it passes
  pub lines_more : (n : ℕ) → lines_to (n + 1) ≡ lines_to n ++ pick (test n) (lines (of (id n))) []
  lines_more n =
      by_test (test n) _
      (λ t.
      rw (t, passed_take test id n t, map-append of (passed test id n) (id n ∷ []), joined_append lines (map of (passed test id n)) (of (id n) ∷ []), one (of (id n))))
      (λ t. rw (t, passed_skip test id n t) (sym (append-nil (lines_to n))))
