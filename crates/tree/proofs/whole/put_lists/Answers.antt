-- The rows of the first list, and behind them those of the second: they fit, since they are no more than the headers.
use mathlib.Core.Path.{ap₂}
use native.Mathlib.Omega.{arith}
use Rattle.tree.specs.Objects.{says_by, names_of}
use Rattle.tree.specs.Grown.{Rows}
use Rattle.tree.proofs.Joined.{Joined, joined}
use Rattle.tree.proofs.whole.put_lists.Goals as goal
use Rattle.tree.proofs.whole.put_lists.Goals.{After-second_list-all}

-- both lists were put
put : (c : After-second_list-all) → let a = c.args in
    Joined (says_by a.g a.dump.now a.t) (names_of a.g a.dump.now) a.pages a.rows.now c.second_list-all.new.rows
    c.first_list-listed.result c.second_list-all.result
put c = joined _ _ _ _ _ _ _ _ c.first_list-listed.ensures c.second_list-all.ensures c.requires.pages_in_bounds

pub overflow_sub-others : goal.overflow_sub-others
overflow_sub-others c = let j = put (goal.at.overflow_sub-others c).After-second_list-all in omega (arith, j.first, j.both)

pub overflow_cast-result : goal.overflow_cast-result
overflow_cast-result c = let j = put (goal.at.overflow_cast-result c).After-second_list-all in record { fits = omega (arith, j.first, j.both, j.few, c.ranges.pages) }

pub overflow_cast-result-2 : goal.overflow_cast-result-2
overflow_cast-result-2 c = let j = put (goal.at.overflow_cast-result-2 c).After-second_list-all in record { fits = omega (arith, j.first, j.both, j.few, c.ranges.pages) }

pub returns : goal.returns
returns c = let j = put (goal.at.returns c).After-second_list-all in record { value = ap₂ Rows j.first j.second; rows_after = j.front }
