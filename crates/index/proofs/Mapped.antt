-- A value passes through `map_err`.
use mathlib.Core.Path.{◌≡◌}
use Rattle.std.specs.Prelude.{Result, Ok, Err, MatchResult, IsErrAnd}

module _ {A E D : Type 0} (Post : E → D → Type 0) where
  -- the mapped result
  abbrev pub Mapped : Result A E → Result A D → Type 0
  Mapped r s = MatchResult r (λ x. s ≡ Ok x) (λ e. IsErrAnd s (Post e))

  pub value_kept : (r : Result A E) (s : Result A D) (x : A) → Mapped r s → s ≡ Ok x → r ≡ Ok x
  value_kept (Ok y) s x m e = let h : s ≡ Ok y = m in cc
  value_kept (Err y) s x m e = absurd (rw e at m)
