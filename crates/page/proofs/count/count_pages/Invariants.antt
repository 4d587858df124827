-- The loop's invariant: the counts of the pages passed.
use mathlib.Core.Path.{◌≡◌}
use Rattle.page.specs.Counts.{counts_below}
use Rattle.page.proofs.count.count_pages.Given as goal

abbrev pub invariant-loop-i : goal.invariant-loop-i
invariant-loop-i l = l.c ≡ counts_below l.g l.dump l.i
