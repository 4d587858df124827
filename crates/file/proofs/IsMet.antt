-- What is met is a chunk of the file that is not hidden.
use Prim.Native.Nat.{ℕ, ◌≤◌, ◌<◌}
use Rattle.std.specs.Prelude.{Option}
use mathlib.Core.Bool.{Bool, true, false, ◌||◌}
use mathlib.Core.Path.{◌≡◌, refl}
use native.Mathlib.Omega.{arith}
use lib.Dec.{eqb, ltb}
use borrow.Author.Tests.{eqb-false, ne_eqb, ltb-false, le-ltb, not-true}
use Rattle.page.proofs.Searching.{clash}
use Rattle.chunk.specs.Records.{base_of}
use Rattle.chunk.specs.Cuts.{hides}
use Rattle.file.specs.Shows.{is_met}

or_false : (a b : Bool) → a || b ≡ false → (a ≡ false) × (b ≡ false)
or_false true b e = clash (cc)
or_false false b e = (refl, e)

module _ (P m : ℕ) (cut : (Option ℕ)) (c : ℕ) where
  pub met_in_lem : is_met P m cut c ≡ true → (0 < c) × (c ≤ m) × (hides cut (base_of P c) ≡ false)
  met_in_lem e =
      let a = or_false (eqb c 0 || ltb m c) (hides cut (base_of P c)) (not-true _ e) in
      let b = or_false (eqb c 0) (ltb m c) a.0 in
      let z : c ≡ 0 → ⊥ = eqb-false c 0 b.0 in
      (omega arith, ltb-false m c b.1, a.1)

  pub is_met_lem : 0 < c → c ≤ m → hides cut (base_of P c) ≡ false → is_met P m cut c ≡ true
  is_met_lem h i b = rw (ne_eqb c 0 (λ z. absurd (omega arith)), le-ltb m c i, b) refl
