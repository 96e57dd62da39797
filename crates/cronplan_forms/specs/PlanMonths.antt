-- The months of a plan. Source: this crate's documentation of `months_text`.
use Rattle.std.specs.Prelude.{◌≡◌, ◌==◌, ◌<◌, ◌+◌, ◌%◌, ℕ, ℤ, pos, ◌+ℤ◌, ◌-ℤ◌, ◌*ℤ◌, unsigned_abs, List, [], ◌∷◌, ◌++◌, codes, length, map, filter, slice_get, slice_index_or, Option, Some, None, if◌then◌else◌}
use Rattle.std.specs.Fmt.{signed_decimal}
use Rattle.std.specs.Int.{int_div_euclid, int_rem_euclid}
use Rattle.std.specs.List.{flat_map}
use Rattle.std.specs.Ordering.{int_eq}
use Rattle.jiff_core.specs.Calendar.{days_in_month}
use Rattle.croner_base.specs.declared.time.civil.CivilDateTime.{CivilDateTime}
use Rattle.croner_base.specs.Calendar.{day_number, weekday_of_day}
use Rattle.croner_base.specs.TableZone.{table_zone}
use Rattle.cronplan.specs.declared.job_dates.DateRange.{DateRange}
use Rattle.cronplan.specs.declared.job_dates.JobDates.{JobDates}
use Rattle.cronplan.specs.declared.start.JobStart.{JobStart}
use Rattle.cronplan.specs.Counts.{date_of}
use Rattle.cronplan.specs.Days.{dates_between}
use Rattle.cronplan.specs.JobDates.{AreJobDates, has_date}
use Rattle.cronplan_forms.specs.declared.date_name.DateName.{DateName}
use Rattle.cronplan_forms.specs.declared.job.Job.{Job}
use Rattle.cronplan_forms.specs.declared.month.Daily.{Daily}
use Rattle.cronplan_forms.specs.declared.month.Month.{Month}
use Rattle.cronplan_forms.specs.declared.month.MonthDay.{MonthDay}
use Rattle.cronplan_forms.specs.declared.month.Titled.{Titled}
use Rattle.cronplan_forms.specs.declared.view.View.{View}
use Rattle.cronplan_forms.specs.DateNames.{IsDateName}

-- ---- months, counted from January of year 0

abbrev pub year_of : ℤ → ℤ
year_of month = int_div_euclid month (pos 12)

-- which one of its year a month is, from 1
abbrev pub place_in_year : ℤ → ℕ
place_in_year month = unsigned_abs (int_rem_euclid month (pos 12)) + 1

-- its first date, counted from 1970-01-01, and how many days it has
abbrev pub first_of : ℤ → ℤ
first_of month = day_number (year_of month) (place_in_year month) 1

abbrev pub days_of : ℤ → ℕ
days_of month = days_in_month (year_of month) (place_in_year month)

-- the month of a date and time; January of year 0 where there is none
abbrev pub month_of : Option CivilDateTime → ℤ
month_of None = pos 0
month_of (Some c) = c.date.year *ℤ pos 12 +ℤ pos c.date.month -ℤ pos 1

-- the name of a month of a year
abbrev pub month_name : ℕ → List ℕ
month_name n =
    if n == 1 then codes "January"
    else if n == 2 then codes "February"
    else if n == 3 then codes "March"
    else if n == 4 then codes "April"
    else if n == 5 then codes "May"
    else if n == 6 then codes "June"
    else if n == 7 then codes "July"
    else if n == 8 then codes "August"
    else if n == 9 then codes "September"
    else if n == 10 then codes "October"
    else if n == 11 then codes "November"
    else codes "December"

-- the same with the year, as `March 2027`
abbrev pub name_text : ℤ → List ℕ
name_text month = month_name (place_in_year month) ++ (32 ∷ signed_decimal (year_of month))

-- ---- what stands on a day

-- what is told of jobs: the title, and the times in words
abbrev pub told_of : List Job → List (List ℕ × List ℕ)
told_of jobs = map (λ j. (j.title.now, j.words.now)) jobs

-- the same as a grid has it
abbrev pub shown_title : Titled → ℤ × List ℕ
shown_title t = (t.date, t.title.now)

abbrev pub shown_daily : Daily → List ℕ × List ℕ
shown_daily d = (d.title.now, d.words.now)

-- a title on a date, where there is a job
abbrev pub dated : ℤ → Option (List ℕ × List ℕ) → List (ℤ × List ℕ)
dated date None = []
dated date (Some told) = (date, told.0) ∷ []

-- that of a start
abbrev pub titled : List (List ℕ × List ℕ) → JobStart → List (ℤ × List ℕ)
titled told s = dated (date_of s.wall) (slice_get told s.job)

-- what is told of the job at a place, if there is one
abbrev pub if_there : Option (List ℕ × List ℕ) → List (List ℕ × List ℕ)
if_there None = []
if_there (Some told) = told ∷ []

abbrev pub told_at : List (List ℕ × List ℕ) → ℕ → List (List ℕ × List ℕ)
told_at told k = if_there (slice_get told k)

-- ---- grids

-- a day: of titles those on its date, and whether that is one of the plan
pub record IsMonthDay (dates : DateRange) (titles : List Titled) (date : ℤ) (d : MonthDay) : Type 0 where
  pub titles_are : d.titles.now ≡ filter (λ t. int_eq t.date date) titles
  pub in_plan : d.is_in_plan ≡ has_date dates date

-- so many days from a date on
pub record AreMonthDays (dates : DateRange) (titles : List Titled) (first : ℤ) (count : ℕ) (days : List MonthDay) : Type 0 where
  pub count_is : length days ≡ count
  pub each : (k : ℕ) (d : MonthDay) → k < length days → IsMonthDay dates titles (first +ℤ pos k) (slice_index_or days k d)

-- a month: its name, the weekday of its first day, from 0 for Monday, and all of its days
pub record IsMonth (dates : DateRange) (titles : List Titled) (month : ℤ) (m : Month) : Type 0 where
  pub name_is : m.name.now ≡ name_text month
  pub weekday_is : m.first_weekday ≡ (weekday_of_day (first_of month) + 6) % 7
  pub days_are : AreMonthDays dates titles (first_of month) (days_of month) m.days.now

-- so many months from one on
pub record AreMonths (dates : DateRange) (titles : List Titled) (first : ℤ) (count : ℕ) (months : List Month) : Type 0 where
  pub count_is : length months ≡ count
  pub each : (k : ℕ) (m : Month) → k < length months → IsMonth dates titles (first +ℤ pos k) (slice_index_or months k m)

-- the months of the dates of a plan, with the titles of those jobs that aren't daily, and these
pub record ArePlanMonths (v : View) (months : List Month) (daily : List Daily) : Type 0 where
  pub jobs : JobDates
  pub are_jobs : AreJobDates (table_zone v.table.now) v.plan.now.span v.plan.now.starts.items jobs
  pub titles : List Titled
  pub titles_are : map shown_title titles ≡ flat_map (titled (told_of v.jobs.now)) jobs.rarer.items
  pub first : DateName
  pub first_is : IsDateName jobs.dates.first first
  pub last : DateName
  pub last_is : IsDateName jobs.dates.last last
  pub are_months : AreMonths jobs.dates titles (month_of first.civil) (dates_between (month_of first.civil) (month_of last.civil)) months
  pub daily_are : map shown_daily daily ≡ flat_map (told_at (told_of v.jobs.now)) jobs.daily.items
