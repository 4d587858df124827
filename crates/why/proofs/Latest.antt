-- The newest of some pages, kept with its age while more pages come: a page that is not older than the one kept takes its place, and another leaves it.
use Rattle.std.specs.Prelude.{Some}
use Prim.Native.Nat.{ℕ, ◌≤◌, ◌<◌}
use mathlib.Core.Path.{◌≡◌, refl}
use mathlib.Core.Logic.{◌⊎◌, ⊎_elim}
use native.Mathlib.Nat.{le_refl, le_trans}
use native.Mathlib.Omega.{arith}
use lib.Dec.{leb}
use borrow.Author.Tests.{leb-true, leb-false}
use Rattle.page.specs.declared.record.Record.{Record}
use Rattle.page.proofs.Searching.{by_test}
use Rattle.chunk.specs.Records.{age_of}
use Rattle.chunk.specs.Scans.{later_in}
use Rattle.chunk.specs.Aged.{Newest}
use Rattle.chunk.specs.Aged.{Nothing}

module _ (says : ℕ → Record) where
  -- what is kept is the newest of the pages of which something holds: one of them, with its age, and none is newer; or there is none
  abbrev pub Latest : (among : ℕ → Type 0) → Newest → Type 0
  Latest A Nothing = (p : ℕ) → A p → ⊥
  Latest A (Some x) = A x.page.0 × (x.age ≡ age_of says x.page.0) × ((q : ℕ) → A q → age_of says q ≤ x.age)

  -- one page more
  pub latest_more :
      (A B : ℕ → Type 0) (s : Newest) (p : ℕ) →
      Latest A s → B p → ((q : ℕ) → A q → B q) → ((q : ℕ) → B q → (q ≡ p) ⊎ A q) → Latest B (later_in s p (age_of says p))
  latest_more A B Nothing p l b f g = (b, refl, λ q w. ⊎_elim (λ (e : q ≡ p). rw e (le_refl _)) (λ a. absurd (l q a)) (g q w))
  latest_more A B (Some y) p l b f g =
      by_test (leb y.age (age_of says p)) _
      (λ t. rw t (b, refl, λ r w. ⊎_elim (λ (e : r ≡ p). rw e (le_refl _)) (λ x. le_trans (l.2 r x) (leb-true _ _ t)) (g r w)))
      (λ t.
      let k : age_of says p < y.age = leb-false _ _ t in
      rw t (f y.page.0 l.0, l.1, λ r w. ⊎_elim (λ (e : r ≡ p). rw e (omega (arith, k))) (λ x. l.2 r x) (g r w)))

  -- of the same pages
  pub latest_same : (A B : ℕ → Type 0) (s : Newest) → Latest A s → ((q : ℕ) → A q → B q) → ((q : ℕ) → B q → A q) → Latest B s
  latest_same A B Nothing l f g = λ p b. l p (g p b)
  latest_same A B (Some x) l f g = (f x.page.0 l.0, l.1, λ r b. l.2 r (g r b))
