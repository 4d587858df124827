-- Laws of the bytes of a page.
use Prim.Native.Nat.{ℕ, ◌-◌, ◌*◌, ◌≤◌}
use mathlib.Core.Bool.{true}
use mathlib.Core.List.{List}
use mathlib.Core.Path.{◌≡◌}
use lib.ListN.{length, take, drop, length-drop}
use lib.Seq.{take_all, take-take, length-take-le}
use native.Mathlib.Omega.{arith}
use Rattle.page.specs.Layouts.{page_len}
use Rattle.page.specs.Lengths.{page_in}
use Rattle.page.specs.Pages.{page_at}
use Rattle.page.specs.declared.geometry.Geometry.{Geometry}
use Rattle.page.proofs.Lengths.{page_within}

-- a part that goes to the end is what is left behind its start
pub suffix : (s : List ℕ) (d : ℕ) → take (length s - d) (drop d s) ≡ drop d s
suffix s d = take_all (length s - d) (drop d s) (simp length-drop (omega arith))

-- a page that lies in the dump is as long as its layout says
pub page_length : (g : Geometry) (dump : List ℕ) (i : ℕ) → page_in g (length dump) i ≡ true → length (page_at g dump i) ≡ page_len g.layout
unfolding page_at
page_length g dump i h = let w = page_within g (length dump) i h in length-take-le _ _ (simp length-drop (omega arith))

-- the first bytes of a page are the dump's from where the page begins
pub page_front : (g : Geometry) (dump : List ℕ) (i v : ℕ) → v ≤ page_len g.layout → take v (page_at g dump i) ≡ take v (drop (i * page_len g.layout) dump)
unfolding page_at
page_front g dump i v h = take-take v (page_len g.layout) (drop (i * page_len g.layout) dump) h
