-- What a cut hides, the lower of two hides: so the lowest of many hides exactly what one of them does. And how many bytes a cut leaves.
use Prim.Native.Nat.{ℕ, ◌≤◌, ◌<◌, min}
use Rattle.std.specs.Prelude.{Option, Some, None}
use mathlib.Core.Bool.{true, false}
use mathlib.Core.Path.{◌≡◌, refl, ap}
use native.Mathlib.Omega.{arith}
use borrow.Author.Tests.{le-leb, lt-leb, leb-true, leb-false}
use Rattle.page.proofs.Searching.{clash}
use Rattle.chunk.specs.Cuts.{lower, hides, leaves}

-- in whatever order
pub lower_swap : (a b x : (Option ℕ)) → lower a (lower b x) ≡ lower b (lower a x)
lower_swap None b x = refl
lower_swap (Some a) None x = refl
lower_swap (Some a) (Some b) None = ap Some (omega arith)
lower_swap (Some a) (Some b) (Some x) = ap Some (omega arith)

module _ (place : ℕ) where
  -- a cut that hides a place still does after another, and so does the other
  pub lower_hides : (a b : (Option ℕ)) → hides a place ≡ true → hides (lower a b) place ≡ true
  lower_hides None b h = clash (cc)
  lower_hides (Some a) None h = h
  lower_hides (Some a) (Some b) h = le-leb (min a b) place (omega (arith, leb-true a place h))

  pub lower_still : (a b : (Option ℕ)) → hides b place ≡ true → hides (lower a b) place ≡ true
  lower_still None b h = h
  lower_still (Some a) None h = clash (cc)
  lower_still (Some a) (Some b) h = le-leb (min a b) place (omega (arith, leb-true b place h))

  -- and where neither does, the lower does not
  pub lower_leaves : (a b : (Option ℕ)) → hides a place ≡ false → hides b place ≡ false → hides (lower a b) place ≡ false
  lower_leaves None b h k = k
  lower_leaves (Some a) None h k = h
  lower_leaves (Some a) (Some b) h k = lt-leb (min a b) place (omega (arith, leb-false a place h, leb-false b place k))

-- a cut that does not hide a place leaves some of the bytes from there on, if there are any
pub leaves_some : (a : (Option ℕ)) (place bytes : ℕ) → hides a place ≡ false → 0 < bytes → 0 < leaves a place bytes
leaves_some None place bytes h k = k
leaves_some (Some a) place bytes h k = omega (arith, leb-false a place h)

-- and never more than there are
pub leaves_most : (a : (Option ℕ)) (place bytes : ℕ) → leaves a place bytes ≤ bytes
leaves_most None place bytes = omega arith
leaves_most (Some a) place bytes = omega arith
