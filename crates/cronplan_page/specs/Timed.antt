-- Starts and changes of the clock of a plan, with what its clocks show then. Source: this crate's documentation.
use Rattle.std.specs.Prelude.{◌≡◌, pos, ◌-ℤ◌, true, List, map}
use Rattle.std.specs.List.{All}
use Rattle.croner_base.specs.Table.{is_table_second}
use Rattle.croner_base.specs.Zone.{Zone}
use Rattle.cronplan.specs.declared.changes.ClockChange.{ClockChange}
use Rattle.cronplan.specs.declared.start.JobStart.{JobStart}
use Rattle.cronplan_forms.specs.declared.view.View.{View}
use Rattle.cronplan_forms.specs.Besides.{IsShownTime}
use Rattle.cronplan_forms.specs.Clocks.{IsClockAt}
use Rattle.cronplan_page.specs.declared.timed.TimedChange.{TimedChange}
use Rattle.cronplan_page.specs.declared.timed.TimedStart.{TimedStart}

-- a start, with what the clocks show then
pub record IsTimedStart (v : View) (t : TimedStart) : Type 0 where
  pub time_is : IsShownTime v t.start.second t.time

-- these starts, in this order
pub record AreTimedStarts (v : View) (starts : List JobStart) (timed : List TimedStart) : Type 0 where
  pub starts_are : map (λ (t : TimedStart). t.start) timed ≡ starts
  pub times_are : All (IsTimedStart v) timed

-- a change of the clock, with what that shows then, and the second before
pub record IsTimedChange (z : Zone) (t : TimedChange) : Type 0 where
  pub shown_is : IsClockAt z t.change.second t.shown
  pub before_is : is_table_second t.change.second ≡ true → IsClockAt z (t.change.second -ℤ pos 1) t.before

pub record AreTimedChanges (z : Zone) (changes : List ClockChange) (timed : List TimedChange) : Type 0 where
  pub changes_are : map (λ (t : TimedChange). t.change) timed ≡ changes
  pub times_are : All (IsTimedChange z) timed
