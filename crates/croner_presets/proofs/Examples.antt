-- Worked rows, computed from the definitions: the parts with their nearest neighbours, and a text of each program.
use Rattle.std.proofs.Common.{◌≡◌, [], ◌∷◌, true, false, refl}
use Rattle.std.specs.Prelude.{codes, filter}
use Rattle.croner_presets.specs.declared.difference.Difference.TheVariants as its
use Rattle.croner_presets.specs.declared.part.Form.TheVariants as forms
use Rattle.croner_presets.specs.declared.preset.Preset.TheVariants as presets
use Rattle.croner_presets.specs.Parts.{is_of, has_part}
use Rattle.croner_presets.specs.Presets.{differences_looked_for}
use Rattle.croner_presets.specs.Differences.{holds, is_frequent_by}

-- ---- parts

seven_at_the_end_of_a_range : has_part forms.Seven (codes "1,5-7") ≡ true
seven_at_the_end_of_a_range = refl

a_step_of_seven_is_none : has_part forms.Seven (codes "*/7,1-6/7") ≡ false
a_step_of_seven_is_none = refl

monday_to_sunday : is_of forms.ToSunday (codes "MON-SUN") ≡ true
monday_to_sunday = refl

sunday_to_sunday_is_none : is_of forms.ToSunday (codes "0-SUN") ≡ false
sunday_to_sunday_is_none = refl

the_name_of_july_has_no_last_day : is_of forms.Modified (codes "JUL") ≡ false
the_name_of_july_has_no_last_day = refl

a_nearest_weekday : is_of forms.Modified (codes "15W") ≡ true
a_nearest_weekday = refl

from_the_winter_on : is_of forms.Down (codes "NOV-FEB") ≡ true
from_the_winter_on = refl

a_range_of_one_day_does_not_go_down : is_of forms.Down (codes "5-5") ≡ false
a_range_of_one_day_does_not_go_down = refl

a_step_of_the_greatest_value : is_of (forms.StepAbove 23) (codes "0/23") ≡ false
a_step_of_the_greatest_value = refl

a_step_above_it : is_of (forms.StepAbove 23) (codes "*/24") ≡ true
a_step_above_it = refl

the_step_of_a_range_is_free : is_of (forms.StepAbove 23) (codes "1-5/24") ≡ false
the_step_of_a_range_is_free = refl

a_long_name : is_of forms.LongName (codes "MONDAY") ≡ true
a_long_name = refl

the_last_monday_is_no_long_name : is_of forms.LongName (codes "MONL") ≡ false
the_last_monday_is_no_long_name = refl

every_value_by_a_step_of_one : is_of forms.All (codes "*/1") ≡ true
every_value_by_a_step_of_one = refl

every_second_value : is_of forms.All (codes "*/2") ≡ false
every_second_value = refl

from_monday_to_the_next_sunday : is_of forms.ReachesSeven (codes "MON/2") ≡ true
from_monday_to_the_next_sunday = refl

from_tuesday_past_it : is_of forms.ReachesSeven (codes "2/2") ≡ false
from_tuesday_past_it = refl

the_last_friday_by_a_hash : is_of forms.LastByHash (codes "FRI#L") ≡ true
the_last_friday_by_a_hash = refl

the_last_of_each_day_of_a_range : is_of forms.LastByHash (codes "MON-FRI#L") ≡ false
the_last_of_each_day_of_a_range = refl

a_hash_behind_a_range : is_of forms.NthOfRange (codes "MON-FRI#2") ≡ true
a_hash_behind_a_range = refl

a_hash_in_front_of_a_dash : is_of forms.NthOfRange (codes "2#2-3") ≡ false
a_hash_in_front_of_a_dash = refl

a_range_to_a_nearest_weekday : is_of forms.RangeModified (codes "1-5W") ≡ true
a_range_to_a_nearest_weekday = refl

a_range_to_a_last_friday : is_of forms.RangeModified (codes "MON-FRIL") ≡ true
a_range_to_a_last_friday = refl

days_before_the_last_are_no_range : is_of forms.RangeModified (codes "L-3W") ≡ false
days_before_the_last_are_no_range = refl

the_last_weekday_ends_no_range : is_of forms.RangeModified (codes "1-LW") ≡ false
the_last_weekday_ends_no_range = refl

a_last_of_each_day_of_a_range : is_of forms.RangeModified (codes "MON-FRI#L") ≡ false
a_last_of_each_day_of_a_range = refl

every_second_year : is_of forms.YearStep (codes "/2") ≡ true
every_second_year = refl

every_second_year_from_one : is_of forms.YearStep (codes "2027/2") ≡ false
every_second_year_from_one = refl

each_year : is_of forms.YearStep (codes "*/1") ≡ false
each_year = refl

every_eleventh_year_is_the_same : is_of forms.YearStep (codes "*/11") ≡ false
every_eleventh_year_is_the_same = refl

from_a_number_to_a_name_with_a_hash : is_of forms.Mixed (codes "2-FRI#5") ≡ true
from_a_number_to_a_name_with_a_hash = refl

down_to_a_hash : is_of forms.Down (codes "FRI-MON#2") ≡ true
down_to_a_hash = refl

-- ---- how often

four_minutes_apart : is_frequent_by (9 ∷ []) (0 ∷ 4 ∷ []) ≡ true
four_minutes_apart = refl

five_minutes_apart : is_frequent_by (9 ∷ 10 ∷ []) (0 ∷ 5 ∷ 55 ∷ []) ≡ false
five_minutes_apart = refl

over_the_turn_of_the_hour : is_frequent_by (9 ∷ 10 ∷ []) (0 ∷ 56 ∷ []) ≡ true
over_the_turn_of_the_hour = refl

hours_that_are_apart : is_frequent_by (9 ∷ 11 ∷ []) (0 ∷ 56 ∷ []) ≡ false
hours_that_are_apart = refl

-- ---- texts

of_kubernetes : filter (holds presets.Kubernetes (codes "0 9 * * 7") (codes "0" ∷ codes "9" ∷ codes "*" ∷ codes "*" ∷ codes "7" ∷ []))
    (differences_looked_for presets.Kubernetes) ≡ its.SundayAsSeven ∷ []
of_kubernetes = refl

every_five_minutes : filter (holds presets.Kubernetes (codes "@every 5m") (codes "@EVERY" ∷ codes "5M" ∷ [])) (differences_looked_for presets.Kubernetes)
    ≡ its.Every ∷ []
every_five_minutes = refl

of_quartz : filter (holds presets.Quartz (codes "0 0 0 L-3 * *") (codes "0" ∷ codes "0" ∷ codes "0" ∷ codes "L-3" ∷ codes "*" ∷ codes "*" ∷ []))
    (differences_looked_for presets.Quartz) ≡ its.NotOneOpenDay ∷ its.DaysBeforeLast ∷ []
of_quartz = refl

a_hash_of_a_range_in_a_list : filter (holds presets.Quartz (codes "0 0 0 ? * 2-4#2,6")
    (codes "0" ∷ codes "0" ∷ codes "0" ∷ codes "?" ∷ codes "*" ∷ codes "2-4#2,6" ∷ [])) (differences_looked_for presets.Quartz) ≡ its.NthOfRange ∷ []
a_hash_of_a_range_in_a_list = refl

years_by_steps : filter (holds presets.Quartz (codes "0 0 0 1 1 ? */2")
    (codes "0" ∷ codes "0" ∷ codes "0" ∷ codes "1" ∷ codes "1" ∷ codes "?" ∷ codes "*/2" ∷ [])) (differences_looked_for presets.Quartz) ≡ its.YearStepFrom1970 ∷ []
years_by_steps = refl

of_spring : filter (holds presets.Spring (codes "0 0 0 */2 * *") (codes "0" ∷ codes "0" ∷ codes "0" ∷ codes "*/2" ∷ codes "*" ∷ codes "*" ∷ []))
    (differences_looked_for presets.Spring) ≡ its.DayStepFromZero ∷ []
of_spring = refl
