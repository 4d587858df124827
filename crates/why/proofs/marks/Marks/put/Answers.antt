-- Each arm of the match stores the marks of its case, one after the other.
use mathlib.Core.Path.{refl}
use native.Mathlib.Omega.{arith}
use lib.ListN.{length-set}
use native.Mathlib.Numerals.{towards_suc}
use Rattle.why.proofs.marks.Marks.put.Goals as goal

pub bounds-rows-at : goal.bounds-rows-at
bounds-rows-at c = let h = rw c.in-One.is at c.requires in omega (arith, h)

pub bounds-rows-at-in-Two : goal.bounds-rows-at-in-Two
bounds-rows-at-in-Two c = let h = rw c.in-Two.is at c.requires in omega (arith, h)

pub bounds-rows-at-in-Two-2 : goal.bounds-rows-at-in-Two-2
bounds-rows-at-in-Two-2 c = let h = rw c.in-Two.is at c.requires in simp length-set (omega (arith, h))

pub bounds-rows-at-in-Three : goal.bounds-rows-at-in-Three
bounds-rows-at-in-Three c = let h = rw c.in-Three.is at c.requires in omega (arith, h)

pub bounds-rows-at-in-Three-2 : goal.bounds-rows-at-in-Three-2
bounds-rows-at-in-Three-2 c = let h = rw c.in-Three.is at c.requires in simp length-set (omega (arith, h))

pub bounds-rows-at-in-Three-3 : goal.bounds-rows-at-in-Three-3
bounds-rows-at-in-Three-3 c = let h = rw c.in-Three.is at c.requires in simp length-set (omega (arith, h))

pub returns-in-Nothing : goal.returns-in-Nothing
returns-in-Nothing c = rw c.in-Nothing.is record { value = omega arith; rows_after = refl }

pub returns-in-One : goal.returns-in-One
returns-in-One c = rw c.in-One.is record { value = omega arith; rows_after = refl }

pub returns-in-Two : goal.returns-in-Two
returns-in-Two c = rw c.in-Two.is record { value = omega arith; rows_after = simp towards_suc }

pub returns-in-Three : goal.returns-in-Three
returns-in-Three c = rw c.in-Three.is record { value = omega arith; rows_after = simp towards_suc }
