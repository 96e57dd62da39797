-- Moments up to a place of the starts.
use Rattle.std.specs.Prelude.{◌≡◌, ℕ, ℤ, ◌<ℤ◌, List, take}
use Rattle.std.specs.List.{All, AllPairs, Contains}
use Rattle.cronplan.specs.declared.moments.Moment.{Moment}
use Rattle.cronplan.specs.declared.start.JobStart.{JobStart}
use Rattle.cronplan.specs.Counts.{count_of}
use Rattle.cronplan.specs.Moments.{IsMoment, at_second, moment_seconds}
use Rattle.cronplan.specs.Starts.{seconds_of}

-- all starts at a second, of which none stands before a place
pub record IsNewGroup (starts : List JobStart) (place : ℕ) (i : ℤ) (group : List JobStart) : Type 0 where
  pub group_is : group ≡ at_second i starts
  pub earlier : All (λ s. s.second <ℤ i) (take place starts)

-- the moment of a start, at whose second these are all
abbrev pub moment_of : JobStart → List JobStart → Moment
moment_of start group = record { second = start.second; wall = start.wall; starts = count_of group }

-- the moments of starts before a place
pub record AreMomentsUntil (place : ℕ) (starts : List JobStart) (moments : List Moment) : Type 0 where
  pub each : All (IsMoment starts) moments
  pub rise : AllPairs (λ i j. i <ℤ j) (moment_seconds moments)
  pub complete : All (λ s. Contains (moment_seconds moments) s.second) (take place starts)
  pub had : All (λ m. Contains (seconds_of (take place starts)) m.second) moments
