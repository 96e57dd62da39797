-- English: the text of each function, and the forms that another language may keep.
use Rattle.std.specs.Prelude.{ℕ, nat_eq, List, [], ◌∷◌, ◌++◌, codes, decimal, if◌then◌else◌}
use Rattle.croner_words.specs.Numbers.{clock_text}
use Rattle.croner_words.specs.Wording.{Wording}

-- the end of an ordinal
abbrev pub suffix : ℕ → List ℕ
suffix n =
    if nat_eq n 1 then codes "st"
    else (if nat_eq n 2 then codes "nd" else (if nat_eq n 3 then codes "rd" else codes "th"))

-- a repetition past the hours in which it comes
abbrev pub past : List ℕ → List ℕ → List ℕ
past every hours = every ++ (codes " past " ++ hours)

-- the hours in which something repeats
abbrev pub past_hour : List ℕ → List ℕ
past_hour hours = codes "hour " ++ hours

-- every so many months
abbrev pub every_months : ℕ → List ℕ
every_months step = codes "every " ++ (decimal step ++ codes " months")

-- `every` and the step, which `year_phrase` makes the years of
abbrev pub every_step : ℕ → List ℕ
every_step step = codes "every " ++ decimal step

-- every so many years, over a language's own years
abbrev pub every_years : (List ℕ → List ℕ) → ℕ → List ℕ
every_years year_phrase step = year_phrase (every_step step)

abbrev pub with_year : List ℕ → List ℕ
with_year years = codes "year " ++ years

-- the words of English
abbrev pub english : Wording
english = record {
  every_minute = codes "Every minute";
  every_second_phrase = codes "Every second";
  every_x_minutes = λ step. codes "every " ++ (decimal step ++ codes " minutes");
  every_x_seconds = λ step. codes "every " ++ (decimal step ++ codes " seconds");
  every_x_hours = λ step. codes "of every " ++ (decimal step ++ codes " hours");
  every_minute_of_every_x_hours = λ step. codes "Every minute, of every " ++ (decimal step ++ codes " hours");
  at_time = λ time. codes "At " ++ time;
  at_time_and_every_x_seconds = λ time step. codes "At " ++ (time ++ (codes ", every " ++ (decimal step ++ codes " seconds")));
  at_time_at_second = λ time seconds. codes "At " ++ (time ++ (codes ", at second " ++ seconds));
  at_phrase = λ phrase. codes "At " ++ phrase;
  on_phrase = λ phrase. codes "on " ++ phrase;
  in_phrase = λ phrase. codes "in " ++ phrase;
  second_phrase = λ seconds. codes "second " ++ seconds;
  minute_phrase = λ minutes. codes "minute " ++ minutes;
  minute_past_every_hour_phrase = λ minutes. minutes ++ codes " past every hour";
  hour_phrase = λ hours. codes "of hour " ++ hours;
  year_phrase = with_year;
  day_phrase = λ days. codes "day " ++ days;
  the_last_day_of_the_month = codes "the last day of the month";
  the_weekday_nearest_day = λ days. codes "the weekday nearest day " ++ days;
  the_last_weekday_of_the_month = λ names. codes "the last " ++ (names ++ codes " of the month");
  the_nth_weekday_of_the_month = λ n names. codes "the " ++ (decimal n ++ (suffix n ++ (codes " " ++ (names ++ codes " of the month"))));
  dom_and_dow_if_also = λ weekdays. codes "(if it is also " ++ (weekdays ++ codes ")");
  dom_and_dow_if_also_one_of = λ weekdays. codes "(if it is also one of: " ++ (weekdays ++ codes ")");
  list_conjunction_and = codes "and";
  list_conjunction_or = codes "or";
  list_conjunction_and_comma = codes ", and";
  day_of_week_names = codes "Sunday" ∷ codes "Monday" ∷ codes "Tuesday" ∷ codes "Wednesday" ∷ codes "Thursday" ∷ codes "Friday" ∷ codes "Saturday" ∷ [];
  month_names = codes "January" ∷ codes "February" ∷ codes "March" ∷ codes "April" ∷ codes "May" ∷ codes "June" ∷ codes "July" ∷ codes "August" ∷ codes "September" ∷ codes "October" ∷ codes "November" ∷ codes "December" ∷ [];
  time_of_day = clock_text;
  every_past_phrase = past;
  past_hour_phrase = past_hour;
  every_x_months = every_months;
  every_x_years = every_years with_year;
}
