-- The span that a position lies in, one row after the other: the first that begins behind the position ends it. And the byte of a page that is shown: a
-- data byte of a page in the dump lies in the dump.
use Prim.Native.Nat.{ℕ, ◌+◌, ◌*◌, ◌≤◌, ◌<◌}
use mathlib.Core.Bool.{true}
use mathlib.Core.List.{List, [], ◌∷◌}
use mathlib.Core.Path.{◌≡◌, refl, sym, ap, ◌∙◌}
use native.Mathlib.Omega.{arith}
use borrow.Author.Tests.{lt-ltb, le-ltb}
use lib.Dec.{ltb}
use lib.ListN.{length, drop, get_or}
use lib.Seq.{get_or-take, get_or-drop}
use Rattle.page.specs.Layouts.{page_len}
use Rattle.page.specs.Lengths.{page_in}
use Rattle.page.specs.Pages.{page_at}
use Rattle.page.specs.declared.geometry.Geometry.{Geometry}
use Rattle.page.proofs.Lengths.{page_within}
use Rattle.page.proofs.Pages.{page_front}
use Rattle.page.proofs.Searching.{by_test}
use Rattle.why.specs.Codes.{code_values, from_of, code_in}
use Rattle.why.specs.Answers.{found_in}

module _ (x end : ℕ) where
  -- no row left; one that begins behind the position; and one that does not
  pub found_end : (code : ℕ) → found_in x end code [] ≡ record { code = code; until = end }
  unfolding found_in
  found_end code = refl

  pub found_here : (code row : ℕ) (rows : List ℕ) → x < from_of row → found_in x end code (row ∷ rows) ≡ record { code = code; until = from_of row }
  unfolding found_in
  found_here code row rows h = rw (lt-ltb x (from_of row) h)

  pub found_on : (code row : ℕ) (rows : List ℕ) → from_of row ≤ x → found_in x end code (row ∷ rows) ≡ found_in x end (code_in row) rows
  unfolding found_in
  found_on code row rows h = rw (le-ltb x (from_of row) h)

  -- what is found is a code
  pub found_below : (code : ℕ) (rows : List ℕ) → code < code_values → (found_in x end code rows).code < code_values
  unfolding found_in
  found_below code [] h = h
  found_below code (row ∷ rows) h = by_test (ltb x (from_of row)) _ (λ t. rw t h) (λ t. rw t (found_below (code_in row) rows (omega arith)))

-- a data byte of a page that lies in the dump
module _ (g : Geometry) (dump : List ℕ) (p at : ℕ) (h : page_in g (length dump) p ≡ true) (b : at < g.layout.«data») where
  pub byte_inside : p * page_len g.layout + at < length dump
  byte_inside = omega (arith, (page_within g (length dump) p h).ends)

  -- and is the byte of the dump there
  pub byte_there : get_or (page_at g dump p) at 0 ≡ get_or dump (p * page_len g.layout + at) 0
  byte_there =
      sym (get_or-take (at + 1) (page_at g dump p) at 0 (omega arith))
      ∙ ap (λ (r : List ℕ). get_or r at 0) (page_front g dump p (at + 1) (omega arith))
      ∙ get_or-take (at + 1) (drop (p * page_len g.layout) dump) at 0 (omega arith)
      ∙ get_or-drop (p * page_len g.layout) dump at 0
