-- The dates of a plan, hour by hour. Source: this crate's documentation.
use Rattle.std.specs.Prelude.{◌≡◌, ℕ, ℤ, pos, ◌+◌, ◌+ℤ◌, ◌-ℤ◌, ◌*ℤ◌, ◌<◌, ◌&&◌, ◌||◌, Bool, int_lt, nat_le, unsigned_abs, if◌then◌else◌, List, length, fold, slice_index_or, Option, Some, None}
use Rattle.std.specs.Int.{int_min, int_max}
use Rattle.std.specs.Ordering.{int_eq}
use Rattle.croner_base.specs.Zone.{Zone}
use Rattle.cronplan.specs.declared.changes.ClockChange.{ClockChange}
use Rattle.cronplan.specs.declared.counts.Unit.TheVariants as units
use Rattle.cronplan.specs.declared.days.Day.{Day}
use Rattle.cronplan.specs.declared.days.HourCell.{HourCell}
use Rattle.cronplan.specs.declared.days.ShownHours.{ShownHours}
use Rattle.cronplan.specs.declared.moments.Moment.{Moment}
use Rattle.cronplan.specs.declared.span.Span.{Span}
use Rattle.cronplan.specs.declared.start.JobStart.{JobStart}
use Rattle.cronplan.specs.Changes.{changes_in, skips_hour, repeats_hour}
use Rattle.cronplan.specs.Counts.{date_of, hour_of, starts_at}
use Rattle.cronplan.specs.Moments.{AreMoments}
use Rattle.cronplan.specs.OtherClock.{all_shown_on}

-- ---- the hours that a clock shows in a span, from the least to the greatest

-- those at the first and the last second of the span
abbrev pub shown_at_ends : Zone → Span → ShownHours
shown_at_ends z span = record { first = hour_of (z.reads span.first); last = hour_of (z.reads (span.end -ℤ pos 1)) }

-- the least of these hours, and of that to which a change puts the clock
abbrev pub first_with : ShownHours → ClockChange → ℤ
first_with shown c = if int_lt (hour_of c.shown) shown.first then hour_of c.shown else shown.first

-- the greatest of these hours, and of that from which a change puts the clock, if the span has the second before it
abbrev pub last_with : Span → ShownHours → ClockChange → ℤ
last_with span shown c = if int_lt span.first c.second && int_lt shown.last (hour_of c.before) then hour_of c.before else shown.last

-- the hours with those to which and from which a change puts the clock
abbrev pub widened_hours : Span → ShownHours → ClockChange → ShownHours
widened_hours span shown c = record { first = first_with shown c; last = last_with span shown c }

-- between its changes a clock goes forward, so that it shows its least hour at the first second or at a change, and its greatest one at the last
-- second or before a change
abbrev pub shown_hours : Zone → Span → List ClockChange → ShownHours
shown_hours z span changes = fold (widened_hours span) (shown_at_ends z span) changes

-- an hour lies before or after these
abbrev pub is_outside : ShownHours → ℤ → Bool
is_outside shown hour = int_lt hour shown.first || int_lt shown.last hour

-- ---- dates

-- an hour of a date, counted from 1970-01-01T00: how many starts there are in it, whether a change of the clock skips or repeats it, and whether
-- it lies outside of what the clock shows in the span
abbrev pub cell_of : List JobStart → List ClockChange → ShownHours → ℤ → HourCell
cell_of starts changes shown hour = record {
  starts = starts_at units.Hour hour starts;
  skipped = skips_hour hour changes;
  repeated = repeats_hour hour changes;
  outside = is_outside shown hour;
}

-- the 24 hours of a date
abbrev pub AreHours : List JobStart → List ClockChange → ShownHours → ℤ → List HourCell → Type 0
AreHours starts changes shown date cells =
    (length cells ≡ 24) × ((hour : ℕ) (d : HourCell) → hour < 24 → slice_index_or cells hour d ≡ cell_of starts changes shown (date *ℤ pos 24 +ℤ pos hour))

-- a moment takes the place of another, if it lies on the date and has more starts
abbrev pub or_fuller : Option Moment → Moment → Option Moment
or_fuller None m = Some m
or_fuller (Some other) m = if nat_le m.starts other.starts then Some other else Some m

abbrev pub fuller_moment : ℤ → Option Moment → Moment → Option Moment
fuller_moment date fullest m = if int_eq (date_of m.wall) date then or_fuller fullest m else fullest

-- the moment on a date that has most starts, and of equal ones the first
abbrev pub fullest_on : ℤ → List Moment → Option Moment
fullest_on date moments = fold (fuller_moment date) None moments

-- a date, with how many starts there are on it
pub record IsDay (starts : List JobStart) (moments : List Moment) (changes : List ClockChange) (shown : ShownHours) (date : ℤ) (day : Day) : Type 0 where
  pub date_is : day.date ≡ date
  pub hours_are : AreHours starts changes shown date day.hours.items
  pub starts_are : day.starts ≡ starts_at units.Day date starts
  pub fullest_is : day.fullest ≡ fullest_on date moments

-- the first date: the least of the one at the first second of the span and those of the starts
abbrev pub first_date : Zone → Span → List JobStart → ℤ
first_date z span starts = fold (λ date s. int_min date (date_of s.wall)) (date_of (z.reads span.first)) starts

-- the last date: the greatest of the one at the last second of the span and those of the starts
abbrev pub last_date : Zone → Span → List JobStart → ℤ
last_date z span starts = fold (λ date s. int_max date (date_of s.wall)) (date_of (z.reads (span.end -ℤ pos 1))) starts

-- how many dates there are from one to another
abbrev pub dates_between : ℤ → ℤ → ℕ
dates_between first last = if int_lt last first then 0 else unsigned_abs (last -ℤ first) + 1

-- the dates of starts in a span, on the clock of a zone with these changes, which shows their walls: from the first to the last, none left out
pub record AreShownDays (z : Zone) (table : List (ℤ × ℤ)) (span : Span) (starts : List JobStart) (days : List Day) (changes : List ClockChange) : Type 0 where
  pub changes_are : changes ≡ changes_in z span table
  pub moments : List Moment
  pub are_moments : AreMoments starts moments
  pub count : length days ≡ dates_between (first_date z span starts) (last_date z span starts)
  pub each : (k : ℕ) (d : Day) → k < length days → IsDay starts moments changes (shown_hours z span changes) (first_date z span starts +ℤ pos k) (slice_index_or days k d)

-- the dates of a plan's starts in a span, each start where the clock of the zone shows it, whatever clock the plan is on
abbrev pub AreDays : Zone → List (ℤ × ℤ) → Span → List JobStart → List Day → List ClockChange → Type 0
AreDays z table span starts days changes = AreShownDays z table span (all_shown_on z starts) days changes
