-- Moments and windows of a plan, with what its clocks show then. Source: this crate's documentation.
use Rattle.std.specs.Prelude.{◌≡◌, List, map}
use Rattle.std.specs.List.{All}
use Rattle.cronplan.specs.declared.moments.Moment.{Moment}
use Rattle.cronplan.specs.declared.windows.Window.{Window}
use Rattle.cronplan_forms.specs.declared.timed.TimedMoment.{TimedMoment}
use Rattle.cronplan_forms.specs.declared.timed.TimedWindow.{TimedWindow}
use Rattle.cronplan_forms.specs.declared.view.View.{View}
use Rattle.cronplan_forms.specs.Besides.{IsShownTime}

-- a moment, with what the clocks show then
pub record IsTimedMoment (v : View) (t : TimedMoment) : Type 0 where
  pub time_is : IsShownTime v t.moment.second t.time

-- these moments, in this order
pub record AreTimedMoments (v : View) (moments : List Moment) (timed : List TimedMoment) : Type 0 where
  pub moments_are : map (λ (t : TimedMoment). t.moment) timed ≡ moments
  pub times_are : All (IsTimedMoment v) timed

-- a window, with what the clocks show where it begins and where it ends
pub record IsTimedWindow (v : View) (t : TimedWindow) : Type 0 where
  pub from_is : IsShownTime v t.window.from.second t.from
  pub until_is : IsShownTime v t.window.until.second t.until

-- these windows, in this order
pub record AreTimedWindows (v : View) (windows : List Window) (timed : List TimedWindow) : Type 0 where
  pub windows_are : map (λ (t : TimedWindow). t.window) timed ≡ windows
  pub times_are : All (IsTimedWindow v) timed
