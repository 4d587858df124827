-- The loop's invariant: the search from the first slot on answers as the search from here on.
use mathlib.Core.Path.{◌≡◌}
use Rattle.index.specs.Cells.{keys}
use Rattle.index.specs.Slots.{down}
use Rattle.index.proofs.slots.slot_below.Given as goal

abbrev pub invariant-loop-s : goal.invariant-loop-s
invariant-loop-s l = down (keys l.cells) l.o.0 l.m ≡ down (keys l.cells) l.o.0 l.s
