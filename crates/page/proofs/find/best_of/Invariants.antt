-- The inner loop goes through a candidate's blocks while it is not lost; the outer one keeps the candidate that leads. A candidate that is lost
-- changes nothing, and one that has been gone through without being lost leads.
use Prim.Native.Nat.{◌-◌, ◌^◌, ◌<◌, ◌≤◌}
use Rattle.page.specs.Find.{candidate_score}
use Rattle.page.specs.Leaving.{in_turn}
use Rattle.page.proofs.Leading.{Leads}
use Rattle.page.proofs.Leaving.{Underway}
use Rattle.page.proofs.find.best_of.Given as goal

abbrev pub invariant-blocks-2 : goal.invariant-blocks-2
invariant-blocks-2 l =
    Underway l.dump l.k l.n l.g l.pages l.next l.score l.marked

abbrev pub decreases-blocks-2 : goal.decreases-blocks-2
decreases-blocks-2 l = l.pages - l.next

abbrev pub invariant-candidates : goal.invariant-candidates
invariant-candidates l =
    (l.turn ≤ 13) × (l.best < 2 ^ 31) × Leads (candidate_score l.dump l.k) (in_turn l.first) l.turn l.best l.found

abbrev pub decreases-candidates : goal.decreases-candidates
decreases-candidates l = 13 - l.turn
