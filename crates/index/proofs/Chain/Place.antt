-- The place of a page in a chain, one record at a time: what a walk along the chain learns from each link.
use Prim.Native.Nat.{ℕ, ◌≤◌, ◌<◌}
use Rattle.std.specs.Prelude.{Ok, Err}
use mathlib.Core.Path.{◌≡◌, refl}
use borrow.Author.Tests.{le-leb, lt-leb, eq-eqb, ne_eqb}
use Rattle.page.specs.declared.refusal.Refusal.TheVariants.{IndexDamaged, AlreadyAdded}
use Rattle.index.specs.Cells.{link_at}
use Rattle.index.specs.Chains.{Trace, clean, broken, rec}
use Rattle.index.specs.Places.{place_of}

module _ (age : ℕ → ℕ) (p : ℕ) (t : Trace) (at : ℕ) where
  pub place_end : t ≡ clean → place_of age p t at ≡ Ok at
  unfolding place_of
  place_end e = rw e refl

  pub place_broken : t ≡ broken → place_of age p t at ≡ Err IndexDamaged
  unfolding place_of
  place_broken e = rw e refl

  module _ (q : ℕ) (rest : Trace) (e : t ≡ rec q rest) where
    pub place_itself : age q ≤ age p → q ≡ p → place_of age p t at ≡ Err AlreadyAdded
    unfolding place_of
    place_itself h i = rw e (simp (le-leb (age q) (age p) h, eq-eqb q p i))

    pub place_here : age q ≤ age p → (q ≡ p → ⊥) → place_of age p t at ≡ Ok at
    unfolding place_of
    place_here h i = rw e (simp (le-leb (age q) (age p) h, ne_eqb q p i))

    pub place_on : age p < age q → place_of age p t at ≡ place_of age p rest (link_at q)
    unfolding place_of
    place_on h = rw e (simp (lt-leb (age q) (age p) h))
