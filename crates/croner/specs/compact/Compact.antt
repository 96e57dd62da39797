-- What a job in few words means, and when two timetables are alike.
use Rattle.std.specs.Prelude.{◌≡◌, ◌↔◌, ℤ, false, []}
use Rattle.croner_pattern.specs.Meaning.{Meaning}
use Rattle.croner_pattern.specs.Shapes.{sixty_shape, hour_shape, month_shape}
use Rattle.croner.specs.compact.WordFields.{plain_field, day_field, week_field, years_field}
use Rattle.croner.specs.declared.compact.CompactCron.{CompactCron}
use Rattle.croner.specs.search.Runs.{Timetable}

-- the pattern that it stands for, without a text
abbrev pub compact_meaning : CompactCron → Meaning
compact_meaning c = record {
  seconds = plain_field sixty_shape c.is_fixed_time c.seconds;
  minutes = plain_field sixty_shape c.is_fixed_time c.minutes;
  hours = plain_field hour_shape c.is_fixed_time c.hours;
  days = day_field c.days c.nearest_days c.last_day;
  months = plain_field month_shape false c.months;
  days_of_week = week_field c.weekdays;
  years = years_field c.years;
  star_day = c.star_day;
  star_weekday = c.star_weekday;
  and = c.day_and_weekday;
  text = [];
}

-- the same seconds are scheduled, the same dates match, and the kind of job is the same
pub record IsAlike (a b : Timetable) : Type 0 where
  pub scheduled : (w : ℤ) → a.scheduled w ↔ b.scheduled w
  pub date_matches : (w : ℤ) → a.date_matches w ↔ b.date_matches w
  pub fixed_time : a.fixed_time ≡ b.fixed_time
