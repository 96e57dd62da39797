-- Worked rows of the notes of lines, computed from their definitions: of each a line that has it and the nearest that hasn't. A fault is
-- that for which cron refuses the line.
use Rattle.std.proofs.Common.{◌≡◌, true, false, Some, None, refl}
use Rattle.std.specs.Prelude.{codes}
use Rattle.crontab.specs.declared.line.Fault.TheVariants as faults
use Rattle.crontab.specs.declared.notes.Note.TheVariants as notes
use Rattle.crontab.specs.Line.{minute_bounds, hour_bounds, month_bounds, weekday_bounds}
use Rattle.crontab.specs.Notes.{is_noted, has_passed_over, has_large_number, looks_like_weekdays, has_other_name}

-- a day field that begins with a star
a_step_in_days_and_a_weekday : is_noted notes.StarDay None (codes "0 0 */2 * 1 x") ≡ true
a_step_in_days_and_a_weekday = refl

a_star_alone_in_a_day_field : is_noted notes.StarDay None (codes "0 0 */2 * * x") ≡ false
a_star_alone_in_a_day_field = refl

either_day : is_noted notes.StarDay None (codes "0 0 1-31/2 * 1 x") ≡ false
either_day = refl

a_star_day_after_a_nickname : is_noted notes.StarDay None (codes "@daily a */2 b c") ≡ false
a_star_day_after_a_nickname = refl

-- bytes of a field that are passed over
a_sign_of_an_nth_weekday : has_passed_over weekday_bounds (codes "1#2") ≡ true
a_sign_of_an_nth_weekday = refl

two_steps : has_passed_over minute_bounds (codes "*/2/3") ≡ true
two_steps = refl

a_star_and_a_number : has_passed_over minute_bounds (codes "*5") ≡ true
a_star_and_a_number = refl

a_part_of_three : has_passed_over minute_bounds (codes "1,2-4~,5") ≡ true
a_part_of_three = refl

parts_alone : has_passed_over hour_bounds (codes "1-5,9,*/2") ≡ false
parts_alone = refl

-- a star among parts
a_star_in_front : is_noted notes.StarAmongParts None (codes "*,5 * * * * x") ≡ true
a_star_in_front = refl

a_star_after : is_noted notes.StarAmongParts None (codes "0 0 5,* * 1 x") ≡ true
a_star_after = refl

a_star_alone : is_noted notes.StarAmongParts None (codes "* * * * * x") ≡ false
a_star_alone = refl

a_star_with_a_step_among_parts : is_noted notes.StarAmongParts None (codes "*/20,5 * * * * x") ≡ false
a_star_with_a_step_among_parts = refl

a_star_that_is_passed_over : is_noted notes.StarAmongParts None (codes "5#2,* * * * * x") ≡ false
a_star_that_is_passed_over = refl

-- steps that are shorter in the end
each_second_day : is_noted notes.UnevenStep None (codes "0 0 */2 * * x") ≡ true
each_second_day = refl

each_fifth_month : is_noted notes.UnevenStep None (codes "0 0 1 */5 * x") ≡ true
each_fifth_month = refl

each_fourth_month : is_noted notes.UnevenStep None (codes "0 0 1 */4 * x") ≡ false
each_fourth_month = refl

each_second_weekday : is_noted notes.UnevenStep None (codes "0 0 * * */2 x") ≡ true
each_second_weekday = refl

each_day : is_noted notes.UnevenStep None (codes "0 0 */1 * * x") ≡ false
each_day = refl

a_range_of_days : is_noted notes.UnevenStep None (codes "0 0 1-31/2 * * x") ≡ false
a_range_of_days = refl

-- words that may be weekdays
weekdays_by_name : looks_like_weekdays (codes "MON-FRI") ≡ true
weekdays_by_name = refl

the_second_friday : looks_like_weekdays (codes "5#2") ≡ true
the_second_friday = refl

the_last_one : looks_like_weekdays (codes "friL") ≡ true
the_last_one = refl

no_weekday_in_particular : looks_like_weekdays (codes "?") ≡ true
no_weekday_in_particular = refl

a_weekday_spelled_out : looks_like_weekdays (codes "monday") ≡ false
a_weekday_spelled_out = refl

a_path : looks_like_weekdays (codes "/bin/x") ≡ false
a_path = refl

-- names of another field
a_weekday_for_a_month : has_other_name month_bounds (codes "MON") ≡ true
a_weekday_for_a_month = refl

a_month_for_a_month : has_other_name month_bounds (codes "JAN-mar") ≡ false
a_month_for_a_month = refl

-- numbers of 2^32 or more
a_number_of_33_bits : has_large_number minute_bounds (codes "4294967297") ≡ true
a_number_of_33_bits = refl

a_step_of_33_bits : has_large_number minute_bounds (codes "*/4294967311") ≡ true
a_step_of_33_bits = refl

the_longest_step : has_large_number minute_bounds (codes "*/2147483647") ≡ false
the_longest_step = refl

a_number_that_is_passed_over : has_large_number minute_bounds (codes "5#4294967297") ≡ false
a_number_that_is_passed_over = refl

-- empty parts
nothing_between_commas : is_noted notes.EmptyPart (Some faults.Minutes) (codes "5,,10 * * * * x") ≡ true
nothing_between_commas = refl

a_blank_after_a_comma : is_noted notes.EmptyPart (Some faults.Minutes) (codes "5, 10 * * * x") ≡ true
a_blank_after_a_comma = refl

a_comma_after_the_last : is_noted notes.EmptyPart (Some faults.Weekdays) (codes "0 0 * * 1, x") ≡ true
a_comma_after_the_last = refl

parts_that_are_out_of_bounds : is_noted notes.EmptyPart (Some faults.Minutes) (codes "5,60 * * * * x") ≡ false
parts_that_are_out_of_bounds = refl

a_field_that_is_missing : is_noted notes.EmptyPart (Some faults.Weekdays) (codes "0 0 * *") ≡ false
a_field_that_is_missing = refl

an_empty_part_of_another_field : is_noted notes.EmptyPart (Some faults.Hours) (codes "*x,, 24 * * * x") ≡ false
an_empty_part_of_another_field = refl

-- names of another field
a_month_in_minutes : is_noted notes.OtherName (Some faults.Minutes) (codes "JAN * * * * x") ≡ true
a_month_in_minutes = refl

a_weekday_in_months : is_noted notes.OtherName (Some faults.Months) (codes "0 0 * mon * x") ≡ true
a_weekday_in_months = refl

a_month_as_a_step : is_noted notes.OtherName (Some faults.Months) (codes "0 0 * */jan * x") ≡ true
a_month_as_a_step = refl

a_month_beside_its_bounds : is_noted notes.OtherName (Some faults.Months) (codes "0 0 * jan,13 * x") ≡ false
a_month_beside_its_bounds = refl

a_month_spelled_out : is_noted notes.OtherName (Some faults.Weekdays) (codes "0 0 * * january x") ≡ false
a_month_spelled_out = refl

-- modifiers
the_last_day : is_noted notes.Modifier (Some faults.Days) (codes "0 0 L * * x") ≡ true
the_last_day = refl

the_nearest_weekday : is_noted notes.Modifier (Some faults.Days) (codes "0 0 15W * * x") ≡ true
the_nearest_weekday = refl

the_last_friday : is_noted notes.Modifier (Some faults.Weekdays) (codes "0 0 * * 5L x") ≡ true
the_last_friday = refl

the_last_friday_by_name : is_noted notes.Modifier (Some faults.Weekdays) (codes "0 0 * * friL x") ≡ true
the_last_friday_by_name = refl

a_question_mark : is_noted notes.Modifier (Some faults.Days) (codes "0 0 ? * * x") ≡ true
a_question_mark = refl

a_plus : is_noted notes.Modifier (Some faults.Weekdays) (codes "0 0 * * +5 x") ≡ true
a_plus = refl

a_plus_in_minutes : is_noted notes.Modifier (Some faults.Minutes) (codes "+5 * * * * x") ≡ false
a_plus_in_minutes = refl

a_month_that_ends_in_l : is_noted notes.Modifier (Some faults.Days) (codes "0 0 JUL * * x") ≡ false
a_month_that_ends_in_l = refl

a_day_out_of_bounds : is_noted notes.Modifier (Some faults.Days) (codes "0 0 32 * * x") ≡ false
a_day_out_of_bounds = refl

-- nicknames in capitals
capitals : is_noted notes.CapitalNickname (Some faults.Nickname) (codes "@DAILY x") ≡ true
capitals = refl

no_nickname : is_noted notes.CapitalNickname (Some faults.Nickname) (codes "@noon x") ≡ false
no_nickname = refl

-- a field of seconds
seconds_before_a_star : is_noted notes.Seconds (Some faults.Command) (codes "0 */5 * * * * x") ≡ true
seconds_before_a_star = refl

seconds_before_the_first_of_january : is_noted notes.Seconds (Some faults.Days) (codes "0 0 0 1 1 * x") ≡ true
seconds_before_the_first_of_january = refl

seconds_before_no_day_in_particular : is_noted notes.Seconds (Some faults.Months) (codes "0 0 9 ? * MON-FRI x") ≡ true
seconds_before_no_day_in_particular = refl

seconds_before_a_last_day : is_noted notes.Seconds (Some faults.Months) (codes "0 0 12 L * ? x") ≡ true
seconds_before_a_last_day = refl

no_day_in_particular : is_noted notes.Seconds (Some faults.Days) (codes "0 9 ? * MON-FRI x") ≡ false
no_day_in_particular = refl

a_star_for_a_command : is_noted notes.Seconds (Some faults.Command) (codes "@daily *") ≡ false
a_star_for_a_command = refl

a_day_of_five_fields : is_noted notes.Seconds (Some faults.Days) (codes "0 0 0 1 x y") ≡ false
a_day_of_five_fields = refl
