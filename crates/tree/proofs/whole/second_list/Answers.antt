-- The ways up of all objects, and then the listing of those that no path leads to.
use Rattle.tree.proofs.Climbing.{ways_some}
use Rattle.tree.proofs.whole.second_list.Goals as goal

pub list_others-requires : goal.list_others-requires
list_others-requires c =
    let w = c.find_ways.ensures in
    record { some_ways = ways_some _ _ _ _ _ w; ways_len = w.long }
