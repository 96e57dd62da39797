-- Worked rows of jobs by their dates, computed from the definitions: a plan over four dates, of which the second and the third lie wholly in it.
use Rattle.std.proofs.Common.{◌≡◌, ◌+◌, ◌*◌, ℕ, pos, true, false, List, [], ◌∷◌, map, refl}
use Rattle.croner_base.specs.TableZone.{clock}
use Rattle.cronplan.specs.declared.job_dates.DateRange.{DateRange}
use Rattle.cronplan.specs.declared.span.Span.{Span}
use Rattle.cronplan.specs.declared.start.JobStart.{JobStart}
use Rattle.cronplan.specs.JobDates.{count_of_dates, daily_jobs, dates_with, first_ones, has_date, is_daily, is_same_day, is_same_job, rarer_starts, whole_dates}

-- a start on a clock that shows UTC, on a date and at an hour of it
abbrev start : ℕ → ℕ → ℕ → JobStart
start job date hour = record { second = pos (86_400 * date + 3_600 * hour); job = job; count = 1; wall = pos (86_400 * date + 3_600 * hour) }

-- the span begins at noon of the first date and ends at noon of the fourth
abbrev whole : DateRange
whole = record { first = pos 20_900; last = pos 20_901 }

-- job 1 starts at 13:00 on each date but the first; job 0 twice on the second date; job 2 on the first and the last one, where it isn't daily
abbrev starts : List JobStart
starts = start 2 20_899 14 ∷ start 0 20_900 8 ∷ start 0 20_900 9 ∷ start 1 20_900 13 ∷ start 1 20_901 13 ∷ start 2 20_902 10 ∷ []

abbrev span : Span
span = record { first = pos 1_805_716_800; end = pos 1_805_976_000; held = refl }

on_the_clock : whole_dates (clock (pos 0) []) span ≡ whole
unfolding clock
on_the_clock = refl

-- from midnight to midnight the first date is a whole one too, and the last one that has a second in it
from_midnight : whole_dates (clock (pos 0) []) (record { first = pos 1_805_673_600; end = pos 1_805_932_800; held = refl }) ≡ record { first = pos 20_899; last = pos 20_901 }
unfolding clock
from_midnight = refl

-- two dates, the second and the third
dates : (count_of_dates whole ≡ 2) × (has_date whole (pos 20_899) ≡ false) × (has_date whole (pos 20_900) ≡ true) × (has_date whole (pos 20_902) ≡ false)
dates = (refl, refl, refl, refl)

-- a job stands once on each date, and once in all
firsts : (first_ones is_same_day starts ≡ start 2 20_899 14 ∷ start 0 20_900 8 ∷ start 1 20_900 13 ∷ start 1 20_901 13 ∷ start 2 20_902 10 ∷ [])
    × (map (λ (s : JobStart). s.job) (first_ones is_same_job starts) ≡ 2 ∷ 0 ∷ 1 ∷ [])
firsts = (refl, refl)

-- job 1 alone is daily, though it doesn't start on the first date, of which a half is in the span
counts : (dates_with whole 0 starts ≡ 1) × (dates_with whole 1 starts ≡ 2) × (dates_with whole 2 starts ≡ 0)
counts = (refl, refl, refl)

daily : daily_jobs whole starts ≡ 1 ∷ []
daily = refl

rarer : rarer_starts whole starts ≡ start 2 20_899 14 ∷ start 0 20_900 8 ∷ start 2 20_902 10 ∷ []
rarer = refl

-- of a plan of one whole date no job is daily
one_date : (daily_jobs (record { first = pos 20_900; last = pos 20_900 }) starts ≡ []) × (is_daily (record { first = pos 20_900; last = pos 20_900 }) starts 1 ≡ false)
one_date = (refl, refl)
