-- The words are filled with the first step of each way, and then go up for as many steps as there are pages.
use native.Mathlib.Omega.{arith}
use Rattle.tree.specs.Climbs.{Ways}
use Rattle.tree.specs.Objects.{says_by}
use Rattle.tree.proofs.Climbing.{ways_some}
use Rattle.tree.proofs.HeadRows.{heads_sorted}
use Rattle.tree.proofs.climb.find_ways.Goals as goal
use Rattle.tree.proofs.climb.find_ways.Goals.{After-fill_ways}

pub fill_ways-requires : goal.fill_ways-requires
fill_ways-requires c = record { sorted = heads_sorted _ _ _ c.requires.heads; heads_len_bound = c.requires.heads_len_bound; ways_len = c.requires.ways_len }

-- the words as they are filled
filled : (c : After-fill_ways) → let a = c.args in
    Ways (says_by a.g a.dump.now a.t) a.pages a.heads.now (λ i. 0) c.fill_ways.new.ways
filled c = c.fill_ways.ensures c.args.pages record { small = omega (arith, c.ranges.pages); right = c.requires.heads }

pub climb-requires : goal.climb-requires
climb-requires c = ways_some _ _ _ 0 _ (filled (goal.at.climb-requires c).After-fill_ways)

pub returns : goal.returns
returns c = c.climb.ensures _ _ _ (filled (goal.at.returns c).After-fill_ways)
