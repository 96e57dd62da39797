-- What a pattern means: its seven fields, its three flags and its text.
use Rattle.std.specs.Prelude.{ℕ, Bool, List}
use Rattle.croner_base.specs.Field.{Field}
use Rattle.croner_pattern.specs.declared.pattern.CronPattern.{CronPattern}

-- whether the day of month and the weekday were written as `*` (star_day, star_weekday), and whether a day has to
-- match both (both). The text is what the pattern prints.
pub record Meaning : Type 0 where
  pub seconds : Field
  pub minutes : Field
  pub hours : Field
  pub days : Field
  pub months : Field
  pub days_of_week : Field
  pub years : Field
  pub star_day : Bool
  pub star_weekday : Bool
  pub and : Bool
  pub text : List ℕ

-- what contracts see of a pattern
abbrev pub meaning_of : CronPattern → Meaning
meaning_of p = record {
  seconds = p.seconds;
  minutes = p.minutes;
  hours = p.hours;
  days = p.days;
  months = p.months;
  days_of_week = p.days_of_week;
  years = p.years;
  star_day = p.star_day;
  star_weekday = p.star_weekday;
  and = p.day_and_weekday;
  text = p.text;
}
