-- What the description of a pattern says, over the meaning of a language: for each of its functions a text.
use Rattle.std.specs.Prelude.{ℕ, ◌%◌, ◌-◌, nat_lt, Bool, false, not, ◌&&◌, ◌==◌, List, [], ◌∷◌, ◌++◌, map, length, codes, slice_index, slice_index_or, Some, None, if◌then◌else◌}
use Rattle.std.specs.Char.{to_ascii_uppercase}
use Rattle.std.specs.List.{filter, flat_map, list_all}
use Rattle.std.specs.Str.{bytes_eq}
use Rattle.croner_base.specs.Field.{plain_bit, last_bit, nearest_bit, Field, has_all, marked_values, values_between}
use Rattle.croner_words.specs.Wording.{Wording}
use Rattle.croner_pattern.specs.Lists.{joined, text_list, number_list}
use Rattle.croner_pattern.specs.Meaning.{Meaning}
use Rattle.croner_pattern.specs.Schedule.{bit_of_nth, is_plain}

-- the plain values of a field, in ascending order
abbrev pub plain_values : Field → List ℕ
plain_values f = marked_values plain_bit f

-- step 1, and every value from the least to the greatest is plain
abbrev pub is_all : Field → Bool
is_all f = f.step == 1 && list_all (is_plain f) (values_between f.shape.min f.shape.max)

-- the list is this value alone, has one value, begins with this value
abbrev pub is_only : ℕ → List ℕ → Bool
is_only value [] = false
is_only value (only ∷ []) = only == value
is_only value (one ∷ two ∷ more) = false

abbrev pub is_one : List ℕ → Bool
is_one values = length values == 1

abbrev pub begins_with : ℕ → List ℕ → Bool
begins_with value [] = false
begins_with value (first ∷ more) = first == value

-- step 1, and 0 is the one value
abbrev pub is_zero : Field → Bool
is_zero f = f.step == 1 && is_only 0 (plain_values f)

-- a step above 1, some value, and the first value is the least that the field may hold
abbrev pub is_stepped : Field → Bool
is_stepped f = nat_lt 1 f.step && begins_with f.shape.min (plain_values f)

-- step 1 and one value
abbrev pub is_one_value : Field → Bool
is_one_value f = f.step == 1 && is_one (plain_values f)

-- the first value, where there is one
abbrev pub first_value : Field → ℕ
first_value f = slice_index (plain_values f) 0

-- a number list and a text list, with the language's word
abbrev pub numbers : Wording → List ℕ → List ℕ
numbers w values = number_list w.list_conjunction_and values

abbrev pub texts : Wording → List (List ℕ) → List ℕ
texts w items = text_list w.list_conjunction_and items

-- the hours in which something repeats
abbrev pub past_hours : Wording → Field → List ℕ
past_hours w hours =
    if is_stepped hours then w.every_x_hours hours.step
    else w.past_hour_phrase (numbers w (plain_values hours))

-- the seconds at one hour and one minute
abbrev pub at_one_minute : Wording → Field → ℕ → ℕ → List ℕ
at_one_minute w seconds hour minute =
    if is_zero seconds then w.at_time (w.time_of_day hour minute None)
    else (if is_stepped seconds then w.at_time_and_every_x_seconds (w.time_of_day hour minute None) seconds.step
    else (if is_one (plain_values seconds) then w.at_time (w.time_of_day hour minute (Some (first_value seconds)))
    else w.at_time_at_second (w.time_of_day hour minute None) (numbers w (plain_values seconds))))

-- the parts of a time that has no form of its own: the seconds, the minutes and the hours, each a part or none
abbrev pub seconds_part : Wording → Field → List (List ℕ)
seconds_part w seconds =
    if is_all seconds then (w.every_second_phrase ∷ [])
    else (if is_zero seconds then []
    else (if is_stepped seconds then (w.every_x_seconds seconds.step ∷ [])
    else (w.second_phrase (numbers w (plain_values seconds)) ∷ [])))

abbrev pub minutes_text : Wording → Field → Bool → List ℕ
minutes_text w minutes each_hour =
    if each_hour then w.minute_past_every_hour_phrase (w.minute_phrase (numbers w (plain_values minutes)))
    else w.minute_phrase (numbers w (plain_values minutes))

abbrev pub minutes_part : Wording → Field → Field → List (List ℕ)
minutes_part w minutes hours =
    if is_stepped minutes then (w.every_x_minutes minutes.step ∷ [])
    else (if is_all minutes then []
    else (minutes_text w minutes (is_all hours) ∷ []))

abbrev pub hours_part : Wording → Field → List (List ℕ)
hours_part w hours =
    if is_all hours then []
    else (if is_stepped hours then (w.every_x_hours hours.step ∷ [])
    else (w.hour_phrase (numbers w (plain_values hours)) ∷ []))

abbrev pub time_parts : Wording → Meaning → List (List ℕ)
time_parts w m = seconds_part w m.seconds ++ (minutes_part w m.minutes m.hours ++ hours_part w m.hours)

-- more than one part, and the first is each second
abbrev pub stand_alone : Wording → List (List ℕ) → Bool
stand_alone w parts = nat_lt 1 (length parts) && bytes_eq (slice_index_or parts 0 []) w.every_second_phrase

-- no part is every minute, parts after each second stand as they are, and others have a phrase before them
abbrev pub parts_text : Wording → List (List ℕ) → List ℕ
parts_text w parts =
    if length parts == 0 then w.every_minute
    else (if stand_alone w parts then joined (codes ", ") parts
    else w.at_phrase (joined (codes ", ") parts))

-- the time, by the first case that holds
abbrev pub times_text : Wording → Meaning → List ℕ
times_text w m =
    if is_all m.seconds && (is_all m.minutes && is_all m.hours) then w.every_second_phrase
    else (if is_zero m.seconds && (is_all m.minutes && is_all m.hours) then w.every_minute
    else (if is_zero m.seconds && (is_stepped m.minutes && is_all m.hours) then w.at_phrase (w.every_x_minutes m.minutes.step)
    else (if not (is_all m.seconds) && (is_one_value m.hours && is_one_value m.minutes) then at_one_minute w m.seconds (first_value m.hours) (first_value m.minutes)
    else (if is_zero m.seconds && (is_all m.minutes && not (is_all m.hours)) then w.every_past_phrase w.every_minute (past_hours w m.hours)
    else (if is_all m.seconds && (is_all m.minutes && not (is_all m.hours)) then w.every_past_phrase w.every_second_phrase (past_hours w m.hours)
    else parts_text w (time_parts w m))))))

-- a text over some values, where there are any
abbrev pub where_any : List ℕ → List ℕ → List (List ℕ)
where_any values text = if length values == 0 then [] else (text ∷ [])

-- the days of the month: plain ones, the last (LAST_BIT is enabled), and those whose nearest weekday is meant
abbrev pub day_parts : Wording → Field → List (List ℕ)
day_parts w days =
    where_any (plain_values days) (w.day_phrase (numbers w (plain_values days)))
    ++ ((if has_all days.enabled last_bit then (w.the_last_day_of_the_month ∷ []) else [])
    ++ where_any (marked_values nearest_bit days) (w.the_weekday_nearest_day (numbers w (marked_values nearest_bit days))))

abbrev pub days_text : Wording → Field → List ℕ
days_text w days = texts w (day_parts w days)

-- the name at a place; after the last name the first comes again, so that weekday 7 is Sunday as 0 is
abbrev pub cyclic_name : List (List ℕ) → ℕ → List ℕ
cyclic_name names place = slice_index_or names (place % length names) []

-- the names of weekdays, of which the first is 0, and of months, of which the first is 1
abbrev pub weekday_names : Wording → List ℕ → List ℕ
weekday_names w weekdays = texts w (map (λ weekday. cyclic_name w.day_of_week_names weekday) weekdays)

abbrev pub month_names : Wording → List ℕ → List ℕ
month_names w months = texts w (map (λ month. cyclic_name w.month_names (month - 1)) months)

-- the weekdays: the last of the month, the first to the fifth, and plain ones
abbrev pub last_weekdays : Wording → Field → List (List ℕ)
last_weekdays w weekdays =
    where_any (marked_values last_bit weekdays) (w.the_last_weekday_of_the_month (weekday_names w (marked_values last_bit weekdays)))

abbrev pub nth_weekdays : Wording → Field → ℕ → List (List ℕ)
nth_weekdays w weekdays n =
    where_any (marked_values (bit_of_nth n) weekdays) (w.the_nth_weekday_of_the_month n (weekday_names w (marked_values (bit_of_nth n) weekdays)))

abbrev pub plain_weekdays : Wording → Field → List (List ℕ)
plain_weekdays w weekdays = where_any (plain_values weekdays) (weekday_names w (plain_values weekdays))

abbrev pub weekday_parts : Wording → Field → List (List ℕ)
weekday_parts w weekdays =
    last_weekdays w weekdays ++ (flat_map (nth_weekdays w weekdays) (1 ∷ 2 ∷ 3 ∷ 4 ∷ 5 ∷ []) ++ plain_weekdays w weekdays)

-- days that have to be such weekdays too
abbrev pub if_also : Wording → List (List ℕ) → List ℕ
if_also w parts =
    if nat_lt 1 (length parts) then w.dom_and_dow_if_also_one_of (texts w parts)
    else w.dom_and_dow_if_also (texts w parts)

-- the days, by the two star flags and the AND flag
abbrev pub day_text : Wording → Meaning → List ℕ
day_text w m =
    if m.star_day then (if m.star_weekday then [] else w.on_phrase (texts w (weekday_parts w m.days_of_week)))
    else (if m.star_weekday then w.on_phrase (days_text w m.days)
    else (if m.and then w.on_phrase (days_text w m.days) ++ (codes " " ++ if_also w (weekday_parts w m.days_of_week))
    else w.on_phrase (days_text w m.days) ++ (codes " " ++ (w.list_conjunction_or ++ (codes " " ++ texts w (weekday_parts w m.days_of_week))))))

-- the months and the years
abbrev pub month_text : Wording → Field → List ℕ
month_text w months =
    if is_all months then []
    else (if nat_lt 1 months.step then w.in_phrase (w.every_x_months months.step)
    else w.in_phrase (month_names w (plain_values months)))

abbrev pub years_text : Wording → Field → List ℕ
years_text w years =
    if is_all years then []
    else (if nat_lt 1 years.step then w.in_phrase (w.every_x_years years.step)
    else w.in_phrase (w.year_phrase (numbers w (plain_values years))))

-- the first letter becomes a capital, where it is an ASCII letter, and a full stop is added
abbrev pub sentence : List ℕ → List ℕ
sentence [] = []
sentence (first ∷ more) = to_ascii_uppercase first ∷ (more ++ codes ".")

abbrev pub is_some_text : List ℕ → Bool
is_some_text text = nat_lt 0 (length text)

-- the texts that aren't empty, joined by commas
abbrev pub description : Wording → Meaning → List ℕ
description w m =
    sentence (joined (codes ", ") (filter is_some_text (times_text w m ∷ day_text w m ∷ month_text w m.months ∷ years_text w m.years ∷ [])))
