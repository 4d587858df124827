-- Words of which the front is put. A text that is put at position 0 and has room is what the words begin with, so that sorting as many words sorts
-- the text.
use Prim.Native.Nat.{ℕ, ◌≤◌}
use mathlib.Core.List.{List, ◌++◌, append-nil}
use mathlib.Core.Path.{◌≡◌, sym, ap, ◌∙◌}
use native.Mathlib.Nat.{zero-add}
use native.Mathlib.Omega.{arith}
use lib.ListN.{length, take, drop, drop_of_length-le}
use lib.Seq.{take_at}
use Rattle.sort.specs.Arranged.{arranged}
use Rattle.sort.proofs.Arranging.{arranged_length}
use Rattle.text.specs.Put.{counted, Put}
use Rattle.text.proofs.Putting.{whole, exact}

module _ {text before after : List ℕ} {next : ℕ} (p : Put text before 0 after next) where
  -- where a text has room, the position behind it is its length
  pub put_length : length text ≤ length before → next ≡ length text
  put_length h = p.behind ∙ ap counted (zero-add (length text)) ∙ exact (length text) (omega (arith, p.short))

  -- one that fills all words is what they hold
  pub put_filled : length text ≡ length before → after ≡ text
  put_filled e = whole p (omega arith) ∙ rw (drop_of_length-le before {i = length text} (omega arith)) (append-nil text)

  -- and words of which as many are sorted begin with it sorted
  pub put_sorted : (v : List ℕ) → length text ≤ length before → v ≡ arranged (take next after) ++ drop next after → take next v ≡ arranged text
  put_sorted v h e =
      let n = put_length h in
      let f : take next after ≡ text = ap (take next) (whole p h) ∙ take_at text (drop (length text) before) next (sym n) in
      ap (take next) e ∙ rw f (take_at (arranged text) (drop next after) next (arranged_length text ∙ sym n))
