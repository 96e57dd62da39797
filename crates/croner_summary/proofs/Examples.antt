-- Worked examples of what pieces name, of how they stand, and of their words, computed from the definitions.
use Rattle.std.specs.Prelude.{◌≡◌, true, false, [], ◌∷◌, ◌++◌, codes}
use Rattle.std.specs.Fmt.{digits}
use Rattle.std.proofs.Common.{refl}
use Rattle.croner_summary.specs.declared.days.FromEnd.TheVariants.{LastDay, LastWorkingDay}
use Rattle.croner_summary.specs.declared.language.SummaryLanguage.TheVariants.{English, Swedish}
use Rattle.croner_summary.specs.declared.phrase.Piece.TheVariants.{Every, EveryNth, One, Range, RangeNth}
use Rattle.croner_summary.specs.Order.{beside_step, is_of_field, rise_from, times_named}
use Rattle.croner_summary.specs.Says.{is_in, is_in_some, is_from_end}
use Rattle.croner_summary.specs.Swedish.{month}
use Rattle.croner_summary.specs.MonthWords.{months_case, months_text, years_case, years_text}
use Rattle.croner_summary.specs.Texts.{whole_style}
use Rattle.croner_summary.specs.Words.{list_text, month_name, ordinal, ordinal_end, span_text, term_text}
use Rattle.croner_summary.specs.DayWords.{having_text, late_text}

-- `*/5,9` of the minutes: 10 and 9 are named, 12 and 14 aren't
fifth_minutes : is_in_some 0 59 (EveryNth 5 ∷ One 9 ∷ []) 10 ≡ true
fifth_minutes = refl

ninth_minute : is_in_some 0 59 (EveryNth 5 ∷ One 9 ∷ []) 9 ≡ true
ninth_minute = refl

no_minute : is_in_some 0 59 (EveryNth 5 ∷ One 9 ∷ []) 14 ≡ false
no_minute = refl

-- each 7th of the minutes is none: 7 doesn't divide 60. `*/7` is from 0 to 56
no_seventh : is_in 0 59 (EveryNth 7) 7 ≡ false
no_seventh = refl

stepped_to_the_last : is_in 0 59 (RangeNth 0 56 7) 56 ≡ true
stepped_to_the_last = refl

stepped_between : is_in 0 59 (RangeNth 0 56 7) 50 ≡ false
stepped_between = refl

-- each 3rd month is one from January on: April is one, March isn't
april : is_in 1 12 (EveryNth 3) 4 ≡ true
april = refl

not_march : is_in 1 12 (EveryNth 3) 3 ≡ false
not_march = refl

-- a step of 0 names nothing
no_step : is_in 0 59 (RangeNth 0 59 0) 0 ≡ false
no_step = refl

a_range : is_in 0 23 (Range 9 17) 17 ≡ true
a_range = refl

-- a phrase without a piece names nothing
nothing : is_in_some 0 59 [] 0 ≡ false
nothing = refl

-- in a month of 30 days whose 1st is a Saturday, the 30th is a Sunday: the last day is the 30th, the last working day the 28th
last_day : is_from_end LastDay 30 6 30 ≡ true
last_day = refl

last_working_day : is_from_end LastWorkingDay 30 6 28 ≡ true
last_working_day = refl

not_the_last : is_from_end LastWorkingDay 30 6 30 ≡ false
not_the_last = refl

-- ---- order

-- weekday 9 is no value of the week, nor month 0 one of the year
no_weekday : is_of_field 0 6 (One 9) ≡ false
no_weekday = refl

no_month : is_of_field 1 12 (One 0) ≡ false
no_month = refl

saturday : is_of_field 0 6 (One 6) ≡ true
saturday = refl

-- a range has two values at least, and ends within the field
whole_range : is_of_field 0 23 (Range 0 23) ≡ true
whole_range = refl

one_value : is_of_field 0 23 (Range 9 9) ≡ false
one_value = refl

falling_range : is_of_field 0 23 (Range 17 9) ≡ false
falling_range = refl

range_beyond : is_of_field 0 23 (Range 20 24) ≡ false
range_beyond = refl

-- `*/7` of the minutes ends at 56
reached : is_of_field 0 59 (RangeNth 0 56 7) ≡ true
reached = refl

not_reached : is_of_field 0 59 (RangeNth 0 59 7) ≡ false
not_reached = refl

-- a step of the whole field divides it, and has two values at least
fifth : is_of_field 0 59 (EveryNth 5) ≡ true
fifth = refl

seventh : is_of_field 0 59 (EveryNth 7) ≡ false
seventh = refl

sixtieth : is_of_field 0 59 (EveryNth 60) ≡ false
sixtieth = refl

-- `*/5,9`: 10 is named once; with 10 beside it would be named twice
once : times_named 0 59 (EveryNth 5 ∷ One 9 ∷ []) 10 ≡ 1
once = refl

twice : times_named 0 59 (EveryNth 5 ∷ One 10 ∷ []) 10 ≡ 2
twice = refl

-- `0-2` and Sunday: Sunday is named twice
sunday_twice : times_named 0 6 (Range 0 2 ∷ One 0 ∷ []) 0 ≡ 2
sunday_twice = refl

-- each Tuesday, Thursday, Saturday and Sunday
sunday_last : rise_from 0 6 0 (One 2 ∷ One 4 ∷ One 6 ∷ One 0 ∷ []) ≡ true
sunday_last = refl

sunday_first : rise_from 0 6 0 (One 0 ∷ One 2 ∷ []) ≡ false
sunday_first = refl

-- Sunday to Tuesday and Thursday
from_sunday : rise_from 0 6 0 (Range 0 2 ∷ One 4 ∷ []) ≡ true
from_sunday = refl

-- minute 0 comes first
minutes_rise : rise_from 0 59 0 (One 0 ∷ Range 10 20 ∷ One 45 ∷ []) ≡ true
minutes_rise = refl

minutes_fall : rise_from 0 59 0 (Range 10 20 ∷ One 0 ∷ []) ≡ false
minutes_fall = refl

ranges_meet : rise_from 0 59 0 (Range 10 20 ∷ Range 20 30 ∷ []) ≡ false
ranges_meet = refl

-- a step of the whole field comes first, and nothing beside each value
step_first : rise_from 0 59 0 (beside_step (EveryNth 5 ∷ One 9 ∷ [])) ≡ true
step_first = refl

step_later : rise_from 0 59 0 (beside_step (One 9 ∷ EveryNth 5 ∷ [])) ≡ false
step_later = refl

beside_each : rise_from 0 59 0 (beside_step (Every ∷ One 9 ∷ [])) ≡ false
beside_each = refl

-- ---- words

-- which months have a day stands in brackets, whatever comes after it
with_31st : late_text English (One 31 ∷ []) ≡ codes " (in months that have a 31st)"
unfolding late_text having_text ordinal ordinal_end term_text digits
with_31st = refl

with_31st_in_swedish : late_text Swedish (One 31 ∷ []) ≡ codes " (i " ++ (month ++ codes "er som har en 31:a dag)")
unfolding late_text having_text ordinal ordinal_end term_text digits
with_31st_in_swedish = refl

with_the_day : late_text English (One 10 ∷ One 29 ∷ []) ≡ codes " (in months that have the day)"
unfolding late_text having_text term_text
with_the_day = refl

-- what a date says of months and years
in_may : months_text (whole_style English) (One 5 ∷ []) ≡ codes " in May"
unfolding months_text months_case list_text month_name term_text
in_may = refl

in_summer : months_text (whole_style Swedish) (Range 6 8 ∷ []) ≡ codes ", juni till augusti"
unfolding months_text months_case span_text month_name term_text
in_summer = refl

in_a_year : years_text (whole_style English) (One 2026 ∷ []) ≡ codes ", in 2026"
unfolding years_text years_case list_text term_text digits
in_a_year = refl
