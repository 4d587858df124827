use Prim.Native.Nat.{ℕ}
use mathlib.Core.List.{List, map}
use mathlib.Core.Path.{◌≡◌, sym}
use native.Mathlib.Omega.{arith}
use lib.ListN.{get_or, get_or-map}
use Rattle.text.proofs.Putting.{nothing, also}
use Rattle.compare.specs.Fields.{place_of, length_of, field_places, field_lengths}
use Rattle.compare.specs.Lines.{field_lines}
use Rattle.compare.specs.Report.{lines_of}
use Rattle.compare.proofs.PassedLines.{lines_none, lines_more}
use Rattle.compare.proofs.fields.put_fields.Goals as goal

-- the places of a table of pairs are a list of their own, and so are the lengths
places : (T : List (ℕ × ℕ)) (i : ℕ) → (get_or T i (0, 0)).0 ≡ get_or (map (λ x. x.0) T) i 0
places T i = sym (get_or-map (λ x. x.0) T i (0, 0))

lengths : (T : List (ℕ × ℕ)) (i : ℕ) → (get_or T i (0, 0)).1 ≡ get_or (map (λ x. x.1) T) i 0
lengths T i = sym (get_or-map (λ x. x.1) T i (0, 0))

pub loop-place-init : goal.loop-place-init
loop-place-init c = rw lines_none (nothing _ _ (omega arith) (omega arith))

pub loop-place-preserved : goal.loop-place-preserved
unfolding field_lines lines_of place_of length_of field_places field_lengths
loop-place-preserved c = rw lines_more (also c.loop-place.invariant (rw (places, lengths) at c.put_field-next.ensures))
