-- Why an object is not in the first list (document 02, item 13): where the way up its parents stops.
use Rattle.std.specs.Prelude.{ℕ, zero, suc, Bool, false, not, ◌&&◌, ◌||◌, eqb}
use Rattle.page.specs.Choice.{pick}
use Rattle.page.specs.Search.{first_from}
use Rattle.page.specs.declared.record.Record.{Record}
use Rattle.tree.specs.Objects.{Stand, missing, deleted, non_directory, directory, root, parent_of, stand_of, is_standing}
use Rattle.tree.specs.declared.reason.Reason.{Reason}
use Rattle.tree.specs.declared.reason.Reason.TheVariants as reason

-- whether a number below k passes a test
unfoldable pub any_below : (test : ℕ → Bool) (k : ℕ) → Bool
any_below test zero = false
any_below test (suc k) = test k || any_below test k

-- the reason of a way that stops at a parent which is no live directory
abbrev pub reason_by : Stand → Reason
reason_by missing = reason.Missing
reason_by deleted = reason.Deleted
reason_by non_directory = reason.NonDirectory
reason_by directory = reason.NonDirectory

-- a dump of n pages
module _ (says : ℕ → Record) (n : ℕ) where
  -- whether a way goes on from an object: it is not the root, and stands as a directory
  abbrev pub goes_on : (object : ℕ) → Bool
  goes_on x = not (eqb x root) && is_standing (stand_of says n x)

  -- where so many steps up from object o lead
  unfoldable pub up : (steps object : ℕ) → ℕ
  up zero o = o
  up (suc k) o = parent_of says n (up k o)

  -- whether step k comes to the start or to one met before
  unfoldable pub met_at : (object step : ℕ) → Bool
  met_at o k = any_below (λ j. eqb (up j o) (up k o)) k

  -- whether the way up stops at step k: at the root, at the start or one met before, or at a parent that is missing, deleted or no directory
  unfoldable pub stops_at : (object step : ℕ) → Bool
  stops_at o k = eqb (up k o) root || (met_at o k || not (is_standing (stand_of says n (up k o))))

  -- the first step at which it does; there are no more directories to meet than pages
  unfoldable pub stop_of : (object : ℕ) → ℕ
  stop_of o = first_from (stops_at o) 1 n

  -- why an object is not in the first list: where its way stops, by the first match
  unfoldable pub reason_of : (object : ℕ) → Reason
  reason_of o =
      let k = stop_of o in
      pick (eqb (up k o) root) reason.TooDeep
      (pick (met_at o k) reason.Loop
      (reason_by (stand_of says n (up k o))))
