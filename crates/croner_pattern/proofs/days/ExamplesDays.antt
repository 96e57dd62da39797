-- Worked days, computed from the definitions.
use Rattle.std.proofs.Common.{◌≡◌, ℕ, Bool, true, false, List, [], ◌∷◌, refl, pos}
use Rattle.std.specs.Prelude.{codes}
use Rattle.std.specs.List.{filter, list_any}
use Rattle.std.specs.Str.{trim_start, trim_end, chars}
use Rattle.jiff_core.specs.Calendar.{days_of_months}
use Rattle.croner_base.specs.Calendar.{day_number, weekday_of_day, year_start, days_since_zero}
use Rattle.croner_base.specs.Field.{Shape, Field, empty_field}
use Rattle.croner_base.specs.Part.{field_of}
use Rattle.croner_base.specs.Reading.{applied}
use Rattle.croner_pattern.specs.Days.{days_of}
use Rattle.croner_pattern.specs.Meaning.{Meaning}
use Rattle.croner_pattern.specs.Shapes.{day_shape, weekday_shape, sixty_shape}
use Rattle.croner_pattern.specs.Schedule.{is_day_matching, first_weekday}

-- a field read from its text
abbrev read : Shape → List ℕ → Field
read shape text = applied (field_of shape text).done (empty_field shape)

-- a pattern whose two day fields are these texts
abbrev of_days : List ℕ → Bool → List ℕ → Bool → Bool → Meaning
of_days days star_day weekdays star_weekday and = record {
  seconds = empty_field sixty_shape;
  minutes = empty_field sixty_shape;
  hours = empty_field sixty_shape;
  days = read day_shape days;
  months = empty_field sixty_shape;
  days_of_week = read (weekday_shape 0) weekdays;
  years = empty_field sixty_shape;
  star_day = star_day;
  star_weekday = star_weekday;
  and = and;
  text = [];
}

-- days alone, weekdays alone, and either of both
abbrev day : List ℕ → Meaning
day text = of_days text false (codes "*") true false

abbrev weekday : List ℕ → Meaning
weekday text = of_days (codes "*") true text false false

-- the days of a month that match
abbrev matching : Meaning → ℕ → ℕ → List ℕ
matching m len first = filter (is_day_matching m len first) (days_of len)

-- the weekdays of the firsts of some months
may_2024 : first_weekday (pos 2024) 5 ≡ 3
unfolding day_number weekday_of_day year_start days_since_zero days_of_months
may_2024 = refl

november_2025 : first_weekday (pos 2025) 11 ≡ 6
unfolding day_number weekday_of_day year_start days_since_zero days_of_months
november_2025 = refl

february_2024 : first_weekday (pos 2024) 2 ≡ 4
unfolding day_number weekday_of_day year_start days_since_zero days_of_months
february_2024 = refl

-- the last Friday, in three ways of writing: 31 May 2024, and not the 10th
last_friday : matching (weekday (codes "5#2L")) 31 3 ≡ 31 ∷ []
unfolding trim_start trim_end chars lib.Utf8.encode
last_friday = refl

last_friday_twice : matching (weekday (codes "5LL")) 31 3 ≡ 31 ∷ []
unfolding trim_start trim_end chars lib.Utf8.encode
last_friday_twice = refl

-- what follows the W is passed over: 14 June 2024 is the Friday next to Saturday the 15th
nearest_to_15 : matching (day (codes "15W20")) 30 6 ≡ 14 ∷ []
unfolding trim_start trim_end chars lib.Utf8.encode
nearest_to_15 = refl

nearest_to_15_alike : matching (day (codes "15W")) 30 6 ≡ 14 ∷ []
unfolding trim_start trim_end chars lib.Utf8.encode
nearest_to_15_alike = refl

-- Saturday the 1st goes to Monday the 3rd, and Sunday the 31st to Friday the 29th
nearest_to_first : matching (day (codes "1W")) 30 6 ≡ 3 ∷ []
unfolding trim_start trim_end chars lib.Utf8.encode
nearest_to_first = refl

nearest_to_last : matching (day (codes "31W")) 31 5 ≡ 29 ∷ []
unfolding trim_start trim_end chars lib.Utf8.encode
nearest_to_last = refl

-- a month of 30 days has no day 31, and one of 28 no day 30
nearest_to_none : matching (day (codes "31W")) 30 1 ≡ []
unfolding trim_start trim_end chars lib.Utf8.encode
nearest_to_none = refl

nearest_to_none_in_february : matching (day (codes "30W")) 28 3 ≡ []
unfolding trim_start trim_end chars lib.Utf8.encode
nearest_to_none_in_february = refl

nearest_to_none_from_a_sunday : matching (day (codes "30W")) 28 0 ≡ []
unfolding trim_start trim_end chars lib.Utf8.encode
nearest_to_none_from_a_sunday = refl

-- Saturday the 29th, of which the nearest working day would be the 28th, isn't in a month of 28 days
nearest_to_none_behind_the_end : matching (day (codes "29W")) 28 6 ≡ []
unfolding trim_start trim_end chars lib.Utf8.encode
nearest_to_none_behind_the_end = refl

-- two stars: every day, the leap day among them
every_day : is_day_matching (of_days (codes "*") true (codes "*") true false) 29 4 29 ≡ true
unfolding trim_start trim_end chars lib.Utf8.encode
every_day = refl

every_day_of_31 : matching (of_days (codes "*") true (codes "*") true false) 31 0 ≡ days_of 31
unfolding trim_start trim_end chars lib.Utf8.encode
every_day_of_31 = refl

every_day_of_28 : matching (of_days (codes "*") true (codes "*") true false) 28 0 ≡ days_of 28
unfolding trim_start trim_end chars lib.Utf8.encode
every_day_of_28 = refl

-- the second Sunday and the last one of September 2024
second_sunday : matching (weekday (codes "0#2")) 30 0 ≡ 8 ∷ []
unfolding trim_start trim_end chars lib.Utf8.encode
second_sunday = refl

last_sunday : matching (weekday (codes "0L")) 30 0 ≡ 29 ∷ []
unfolding trim_start trim_end chars lib.Utf8.encode
last_sunday = refl

-- the second of each of Monday to Friday
second_of_each : matching (weekday (codes "1-5#2")) 30 0 ≡ 9 ∷ 10 ∷ 11 ∷ 12 ∷ 13 ∷ []
unfolding trim_start trim_end chars lib.Utf8.encode
second_of_each = refl

-- where L and LW both stand, LW alone counts: Friday 30 August 2024, and not Saturday the 31st
last_working_alone : matching (day (codes "L,LW")) 31 4 ≡ 30 ∷ []
unfolding trim_start trim_end chars lib.Utf8.encode
last_working_alone = refl

last_day : matching (day (codes "L")) 31 4 ≡ 31 ∷ []
unfolding trim_start trim_end chars lib.Utf8.encode
last_day = refl

last_working_day : matching (day (codes "LW")) 30 5 ≡ 29 ∷ []
unfolding trim_start trim_end chars lib.Utf8.encode
last_working_day = refl

-- where the last day is a Sunday, it is two days before
last_working_day_on_friday : matching (day (codes "LW")) 30 6 ≡ 28 ∷ []
unfolding trim_start trim_end chars lib.Utf8.encode
last_working_day_on_friday = refl

-- a lone L among the weekdays names nothing, in each kind of month
lone_last : list_any (λ len. list_any (λ first. list_any (is_day_matching (weekday (codes "L")) len first) (days_of len)) (0 ∷ 1 ∷ 2 ∷ 3 ∷ 4 ∷ 5 ∷ 6 ∷ [])) (28 ∷ 29 ∷ 30 ∷ 31 ∷ []) ≡ false
unfolding trim_start trim_end chars lib.Utf8.encode
lone_last = refl

-- the fifth Monday
fifth_monday : matching (weekday (codes "1#5")) 31 1 ≡ 29 ∷ []
unfolding trim_start trim_end chars lib.Utf8.encode
fifth_monday = refl

no_fifth_monday : matching (weekday (codes "1#5")) 28 1 ≡ []
unfolding trim_start trim_end chars lib.Utf8.encode
no_fifth_monday = refl

-- either side, both sides under the AND flag, and no star where a list or a range names every value
either_side : matching (of_days (codes "13") false (codes "5") false false) 30 0 ≡ 6 ∷ 13 ∷ 20 ∷ 27 ∷ []
unfolding trim_start trim_end chars lib.Utf8.encode
either_side = refl

both_sides : matching (of_days (codes "L") false (codes "5#L") false true) 30 4 ≡ 30 ∷ []
unfolding trim_start trim_end chars lib.Utf8.encode
both_sides = refl

both_sides_of_the_thirteenth : matching (of_days (codes "13") false (codes "5") false true) 30 0 ≡ 13 ∷ []
unfolding trim_start trim_end chars lib.Utf8.encode
both_sides_of_the_thirteenth = refl

every_weekday_named : matching (of_days (codes "13") false (codes "*/1") false false) 28 0 ≡ days_of 28
unfolding trim_start trim_end chars lib.Utf8.encode
every_weekday_named = refl

-- 14 June 2024, counted as if it were a Monday: its month would begin on a Tuesday
counted_from_the_weekday : is_day_matching (weekday (codes "1#2")) 30 2 14 ≡ true
unfolding trim_start trim_end chars lib.Utf8.encode
counted_from_the_weekday = refl
