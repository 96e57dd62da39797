-- The jobs of a plan by the dates on which they start. Source: this crate's documentation of `JobDates`.
use Rattle.std.specs.Prelude.{◌≡◌, ◌==◌, ◌&&◌, not, ℕ, ℤ, pos, ◌+ℤ◌, ◌-ℤ◌, int_le, nat_le, Bool, if◌then◌else◌, List, [], ◌∷◌, ◌++◌, fold, map, filter, count_by}
use Rattle.std.specs.List.{list_any}
use Rattle.std.specs.Ordering.{int_eq}
use Rattle.croner_base.specs.Zone.{Zone}
use Rattle.cronplan.specs.declared.job_dates.DateRange.{DateRange}
use Rattle.cronplan.specs.declared.job_dates.JobDates.{JobDates}
use Rattle.cronplan.specs.declared.span.Span.{Span}
use Rattle.cronplan.specs.declared.start.JobStart.{JobStart}
use Rattle.cronplan.specs.Counts.{date_of}
use Rattle.cronplan.specs.Days.{first_date, last_date, dates_between}
use Rattle.cronplan.specs.OtherClock.{all_shown_on}

-- ---- dates

-- the dates on which a plan tells of starts: from the first to the last of its days
abbrev pub dates_of : Zone → Span → List JobStart → DateRange
dates_of z span starts = record { first = first_date z span starts; last = last_date z span starts }

-- the dates that lie wholly in a span: those after the date that the clock shows the second before it, up to the one before the date that it
-- shows at its end
abbrev pub whole_dates : Zone → Span → DateRange
whole_dates z span = record { first = date_of (z.reads (span.first -ℤ pos 1)) +ℤ pos 1; last = date_of (z.reads span.end) -ℤ pos 1 }

-- a date is one of these
abbrev pub has_date : DateRange → ℤ → Bool
has_date dates date = int_le dates.first date && int_le date dates.last

-- how many these are
abbrev pub count_of_dates : DateRange → ℕ
count_of_dates dates = dates_between dates.first dates.last

-- ---- first starts

-- a start is one of the job of another, on the date of that one
abbrev pub is_same_day : JobStart → JobStart → Bool
is_same_day other s = int_eq (date_of s.wall) (date_of other.wall) && s.job == other.job

-- it is one of that job
abbrev pub is_same_job : JobStart → JobStart → Bool
is_same_job other s = s.job == other.job

-- a start after those that were found, if none of these is like it
abbrev pub with_new : (JobStart → JobStart → Bool) → List JobStart → JobStart → List JobStart
with_new like found s = if list_any (like s) found then found else found ++ s ∷ []

-- of starts, in their order, each that is like none before it
abbrev pub first_ones : (JobStart → JobStart → Bool) → List JobStart → List JobStart
first_ones like starts = fold (with_new like) [] starts

-- ---- daily jobs

-- a start is one of a job on one of these dates
abbrev pub is_of_job : DateRange → ℕ → JobStart → Bool
is_of_job dates job s = s.job == job && has_date dates (date_of s.wall)

-- on how many of these dates a job starts
abbrev pub dates_with : DateRange → ℕ → List JobStart → ℕ
dates_with dates job starts = count_by (is_of_job dates job) (first_ones is_same_day starts)

-- so many of these dates are all of them, which are two or more
abbrev pub are_all : ℕ → ℕ → Bool
are_all dates with_job = nat_le 2 dates && with_job == dates

-- a job is daily that starts on each of these dates
abbrev pub is_daily : DateRange → List JobStart → ℕ → Bool
is_daily whole starts job = are_all (count_of_dates whole) (dates_with whole job starts)

-- the daily jobs of starts, in the order of their first ones
abbrev pub daily_jobs : DateRange → List JobStart → List ℕ
daily_jobs whole starts = map (λ s. s.job) (filter (λ s. is_daily whole starts s.job) (first_ones is_same_job starts))

-- of the other jobs the first start on each date
abbrev pub rarer_starts : DateRange → List JobStart → List JobStart
rarer_starts whole starts = filter (λ s. not (is_daily whole starts s.job)) (first_ones is_same_day starts)

-- those of starts in a span, on the clock of a zone, which shows their walls
pub record AreShownJobDates (z : Zone) (span : Span) (starts : List JobStart) (r : JobDates) : Type 0 where
  pub dates_are : r.dates ≡ dates_of z span starts
  pub daily_are : r.daily.items ≡ daily_jobs (whole_dates z span) starts
  pub rarer_are : r.rarer.items ≡ rarer_starts (whole_dates z span) starts

-- those of a plan's starts in a span, each start where the clock of the zone shows it, whatever clock the plan is on
abbrev pub AreJobDates : Zone → Span → List JobStart → JobDates → Type 0
AreJobDates z span starts r = AreShownJobDates z span (all_shown_on z starts) r
