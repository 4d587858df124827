-- A slice copied to the begin of another, one element after the other.
use Prim.Native.Nat.{ℕ, suc, ◌+◌, ◌<◌}
use mathlib.Core.List.{List, [], ◌∷◌, ◌++◌}
use mathlib.Core.Path.{◌≡◌, sym, ap, ◌∙◌}
use native.Mathlib.Numerals.{add-one}
use native.Mathlib.Omega.{arith}
use lib.ListN.{length, take, drop, get_or, set}
use lib.Seq.{take-suc, drop-cons, append_snoc, set_at, length-take-le}

module _ {A : Type 0} (f d : List A) where
  -- the first i in front
  abbrev pub copied : ℕ → List A
  copied i = take i f ++ drop i d

  -- the store of a turn copies one more
  pub copied_more : (i : ℕ) (x : A) → i < length d → i < length f → x ≡ get_or f i x → set (copied i) i x ≡ copied (i + 1)
  copied_more i x hd hf e =
      ap (λ (r : List A). set (take i f ++ r) i x) (drop-cons d i x hd)
      ∙ set_at (take i f) (get_or d i x) (drop (suc i) d) x i (length-take-le i f (omega arith))
      ∙ sym (append_snoc (take i f) x (drop (suc i) d))
      ∙ ap (λ (r : List A). r ++ drop (suc i) d) (ap (λ (y : A). take i f ++ (y ∷ [])) e ∙ sym (take-suc f i x hf))
      ∙ rw add-one
