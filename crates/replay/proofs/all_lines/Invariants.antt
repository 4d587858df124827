-- The loop's invariant: what was passed lies in the input, and has no fewer bytes than vectors. What is left of it is the measure.
use Rattle.std.proofs.Common.{◌-◌, ◌≤◌, length}
use Rattle.replay.proofs.all_lines.Given as goal

abbrev pub invariant-loop-at : goal.invariant-loop-at
invariant-loop-at g l = record { in_input : l.at ≤ length l.input; no_fewer : l.number ≤ l.at }

abbrev pub decreases-loop-at : goal.decreases-loop-at
decreases-loop-at g l = length l.input - l.at
