-- Worked rows of warnings, computed from their definitions: each with the nearest line that has none.
use Rattle.std.proofs.Common.{◌≡◌, ℕ, Bool, List, [], ◌∷◌, ◌++◌, Option, Some, None, true, false, refl}
use Rattle.std.specs.Prelude.{codes}
use Rattle.std.specs.Fmt.{digits}
use Rattle.std.specs.Str.{trim_start, trim_end, chars}
use Rattle.croner.specs.declared.parser.fault.PatternField.{PatternField}
use Rattle.croner.specs.declared.parser.fault.PatternField.TheVariants as fields
use Rattle.croner.specs.parser.Grammar.{Texts, meaning}
use Rattle.croner_pattern.specs.Meaning.{Meaning}
use Rattle.crontab.specs.Line.{words_of}
use Rattle.crontab.specs.Parsed.{crontab_settings}
use Rattle.croncheck_warnings.specs.declared.warnings.Warning.TheVariants as warnings
use Rattle.croncheck_warnings.specs.Warnings.{Subject, holds, texts_of_five, has_uneven_step, has_step_beyond, has_hours_in_range, has_range_down, has_passed_over, has_large_number, has_empty_item, is_either_day, is_whole_hour, are_late, is_leap_day, has_no_command, looks_like_field, has_percent, is_continued, has_carriage_return, are_many_lines}
use Rattle.croncheck_warnings.specs.Hidden.{has_hidden, has_hidden_within}

abbrev texts : List ℕ → Texts
texts schedule = texts_of_five (words_of schedule)

-- ---- steps

abbrev uneven : PatternField → List ℕ → Bool
uneven field schedule = has_uneven_step field (texts schedule)

uneven_minutes : uneven fields.Minutes (codes "*/45 * * * *") ≡ true
unfolding digits
uneven_minutes = refl

even_minutes : uneven fields.Minutes (codes "*/15 * * * *") ≡ false
unfolding digits
even_minutes = refl

four_runs_of_an_hour : uneven fields.Minutes (codes "*/16 * * * *") ≡ true
unfolding digits
four_runs_of_an_hour = refl

five_runs_of_an_hour : uneven fields.Minutes (codes "*/14 * * * *") ≡ false
unfolding digits
five_runs_of_an_hour = refl

uneven_hours : uneven fields.Hours (codes "0 */5 * * *") ≡ true
unfolding digits
uneven_hours = refl

even_hours : uneven fields.Hours (codes "0 */6 * * *") ≡ false
unfolding digits
even_hours = refl

a_step_past_the_last_minute_is_none : uneven fields.Minutes (codes "*/90 * * * *") ≡ false
unfolding digits
a_step_past_the_last_minute_is_none = refl

up_to_the_last_value : uneven fields.Minutes (codes "*/59 * * * *") ≡ true
unfolding digits
up_to_the_last_value = refl

two_parts_are_none : uneven fields.Minutes (codes "*/45,50 * * * *") ≡ false
unfolding digits
two_parts_are_none = refl

a_range_is_none : uneven fields.Minutes (codes "0-59/45 * * * *") ≡ false
unfolding digits
a_range_is_none = refl

a_date_is_none : uneven fields.DayOfMonth (codes "0 0 */2 * *") ≡ false
unfolding digits
a_date_is_none = refl

abbrev beyond : PatternField → List ℕ → Bool
beyond field schedule = has_step_beyond field (texts schedule)

beyond_minutes : beyond fields.Minutes (codes "*/90 * * * *") ≡ true
unfolding digits
beyond_minutes = refl

beyond_minutes_by_one : beyond fields.Minutes (codes "*/60 * * * *") ≡ true
unfolding digits
beyond_minutes_by_one = refl

up_to_the_last_minute : beyond fields.Minutes (codes "*/59 * * * *") ≡ false
unfolding digits
up_to_the_last_minute = refl

beyond_hours : beyond fields.Hours (codes "0 1-5/24 * * *") ≡ true
unfolding digits
beyond_hours = refl

past_the_end_of_the_range : beyond fields.Minutes (codes "10-20/11 * * * *") ≡ true
unfolding digits
past_the_end_of_the_range = refl

at_the_end_of_the_range : beyond fields.Minutes (codes "10-20/10 * * * *") ≡ false
unfolding digits
at_the_end_of_the_range = refl

the_31st_after_the_first : beyond fields.DayOfMonth (codes "0 0 */31 * *") ≡ true
unfolding digits
the_31st_after_the_first = refl

a_step_down : beyond fields.Minutes (codes "20-10/30 * * * *") ≡ false
unfolding digits
a_step_down = refl

one_value : beyond fields.Minutes (codes "5 * * * *") ≡ false
unfolding digits
one_value = refl

beyond_months : beyond fields.Month (codes "0 0 1 2,*/13 *") ≡ true
unfolding digits
beyond_months = refl

-- ---- what cron leaves out of a field

abbrev down : PatternField → List ℕ → Bool
down field schedule = has_range_down field (texts schedule)

a_night_that_goes_down : down fields.Hours (codes "0 8,22-6 * * *") ≡ true
unfolding digits
a_night_that_goes_down = refl

weekdays_that_go_down : down fields.Weekday (codes "0 0 * * FRI-SUN") ≡ true
unfolding digits
weekdays_that_go_down = refl

weekdays_that_go_up : down fields.Weekday (codes "0 0 * * FRI-7") ≡ false
unfolding digits
weekdays_that_go_up = refl

one_value_as_a_range : down fields.Minutes (codes "5-5 * * * *") ≡ false
unfolding digits
one_value_as_a_range = refl

a_range_down_that_is_passed_over : down fields.Minutes (codes "*x,10-5 * * * *") ≡ false
unfolding digits
a_range_down_that_is_passed_over = refl

a_star_and_a_number : has_passed_over fields.Minutes (texts (codes "*5 * * * *")) ≡ true
a_star_and_a_number = refl

an_nth_weekday : has_passed_over fields.Weekday (texts (codes "0 0 * * 1#2")) ≡ true
an_nth_weekday = refl

two_weekdays : has_passed_over fields.Weekday (texts (codes "0 0 * * 1,2")) ≡ false
two_weekdays = refl

a_number_of_33_bits : has_large_number fields.Minutes (texts (codes "4294967297 * * * *")) ≡ true
a_number_of_33_bits = refl

a_step_of_31_bits : has_large_number fields.Minutes (texts (codes "*/2147483647 * * * *")) ≡ false
a_step_of_31_bits = refl

-- names of another field, as a pattern has them
abbrev pattern_of : List ℕ → Subject
pattern_of schedule = record {
  fields = Some (texts schedule);
  meaning = None;
  user = None;
  users = None;
  command = None;
  is_crontab = false;
  is_fed = true;
  is_past = false;
  is_never = false;
  is_at_window_end = false;
}

a_weekday_among_months : holds (pattern_of (codes "0 0 * MON *")) (warnings.OtherName fields.Month) ≡ true
a_weekday_among_months = refl

a_month_among_months : holds (pattern_of (codes "0 0 * MAR *")) (warnings.OtherName fields.Month) ≡ false
a_month_among_months = refl

-- ---- items

an_empty_item : has_empty_item (codes "5,,10") ≡ true
an_empty_item = refl

an_empty_item_at_the_end : has_empty_item (codes "5,") ≡ true
an_empty_item_at_the_end = refl

no_empty_item : has_empty_item (codes "5,10") ≡ false
no_empty_item = refl

-- ---- the meaning

-- what a job of a crontab means, in which either day field may match, or both have to
abbrev means : Bool → List ℕ → Meaning
means both schedule = meaning (crontab_settings both) [] (texts schedule) both

either_day : is_either_day (means false (codes "0 0 13 * 5")) ≡ true
unfolding trim_start trim_end chars lib.Utf8.encode
either_day = refl

a_star_for_the_weekday : is_either_day (means true (codes "0 0 13 * *")) ≡ false
unfolding trim_start trim_end chars lib.Utf8.encode
a_star_for_the_weekday = refl

both_days_to_match : is_either_day (means true (codes "0 0 */2 * 5")) ≡ false
unfolding trim_start trim_end chars lib.Utf8.encode
both_days_to_match = refl

each_day_and_each_weekday : is_either_day (means false (codes "0 0 1-31 * 0-6")) ≡ false
unfolding trim_start trim_end chars lib.Utf8.encode
each_day_and_each_weekday = refl

a_whole_hour : is_whole_hour (means true (codes "* 5 * * *")) ≡ true
unfolding trim_start trim_end chars lib.Utf8.encode
a_whole_hour = refl

two_whole_hours : is_whole_hour (means true (codes "* 5,6 * * *")) ≡ true
unfolding trim_start trim_end chars lib.Utf8.encode
two_whole_hours = refl

each_minute_of_workdays : is_whole_hour (means true (codes "* * * * 1-5")) ≡ true
unfolding trim_start trim_end chars lib.Utf8.encode
each_minute_of_workdays = refl

each_minute : is_whole_hour (means true (codes "* * * * *")) ≡ false
unfolding trim_start trim_end chars lib.Utf8.encode
each_minute = refl

each_minute_of_all_days_or_workdays : is_whole_hour (means false (codes "* * 1-31 * 1-5")) ≡ false
unfolding trim_start trim_end chars lib.Utf8.encode
each_minute_of_all_days_or_workdays = refl

each_minute_of_all_days_that_are_workdays : is_whole_hour (means true (codes "* * 1-31 * 1-5")) ≡ true
unfolding trim_start trim_end chars lib.Utf8.encode
each_minute_of_all_days_that_are_workdays = refl

each_minute_of_thirty_days_or_workdays : is_whole_hour (means false (codes "* * 1-30 * 1-5")) ≡ true
unfolding trim_start trim_end chars lib.Utf8.encode
each_minute_of_thirty_days_or_workdays = refl

hours_as_one_range : has_hours_in_range (texts (codes "* 5-6 * * *")) ≡ true
unfolding digits
hours_as_one_range = refl

one_hour_as_a_range : has_hours_in_range (texts (codes "* 5-5 * * *")) ≡ false
unfolding digits
one_hour_as_a_range = refl

hours_in_a_list : has_hours_in_range (texts (codes "* 5,6 * * *")) ≡ false
unfolding digits
hours_in_a_list = refl

each_second_hour_in_a_range : has_hours_in_range (texts (codes "* 9-17/2 * * *")) ≡ false
unfolding digits
each_second_hour_in_a_range = refl

-- named days, in these years and months
the_31st_in_april : are_late (31 ∷ []) (2023 ∷ []) (4 ∷ []) ≡ true
the_31st_in_april = refl

the_31st_in_may : are_late (31 ∷ []) (2023 ∷ []) (5 ∷ []) ≡ false
the_31st_in_may = refl

one_day_up_to_28 : are_late (28 ∷ 31 ∷ []) (2023 ∷ []) (4 ∷ []) ≡ false
one_day_up_to_28 = refl

the_29th_of_a_year : are_late (29 ∷ []) (2024 ∷ 2025 ∷ []) (2 ∷ []) ≡ true
the_29th_of_a_year = refl

the_29th_of_a_leap_year : are_late (29 ∷ []) (2024 ∷ []) (2 ∷ []) ≡ false
the_29th_of_a_leap_year = refl

february_29_alone : is_leap_day (29 ∷ []) (2 ∷ []) ≡ true
february_29_alone = refl

two_days_of_february : is_leap_day (29 ∷ 30 ∷ []) (2 ∷ []) ≡ false
two_days_of_february = refl

the_29th_of_two_months : is_leap_day (29 ∷ []) (2 ∷ 3 ∷ []) ≡ false
the_29th_of_two_months = refl

-- ---- the command

six_fields : looks_like_field (codes "*/2 x") ≡ true
six_fields = refl

a_name_of_digits_and_letters : looks_like_field (codes "7z x") ≡ false
a_name_of_digits_and_letters = refl

-- what is looked at of a job with this user and this command
abbrev job_by : Option (List ℕ) → List ℕ → Subject
job_by user command = record {
  fields = None;
  meaning = None;
  user = user;
  users = None;
  command = Some command;
  is_crontab = true;
  is_fed = true;
  is_past = false;
  is_never = false;
  is_at_window_end = false;
}

-- whatever its times: of a listing that ends with the clock's window it isn't known in which months the job runs
no_months_at_the_window_end : (m : Meaning) → holds (record (job_by None (codes "x")) { meaning = Some m; is_at_window_end = true }) warnings.ShortMonths ≡ false
no_months_at_the_window_end m = refl

weekdays_by_name : looks_like_field (codes "MON-FRI x") ≡ true
weekdays_by_name = refl

a_comment_is_no_field : looks_like_field (codes "#5 x") ≡ false
a_comment_is_no_field = refl

-- the same after five fields
abbrev fielded_by : Option (List ℕ) → List ℕ → Subject
fielded_by user command = record (job_by user command) { fields = Some (texts (codes "0 0 * * *")) }

a_field_for_a_user : holds (fielded_by (Some (codes "*")) (codes "root x")) warnings.LooksLikeField ≡ true
a_field_for_a_user = refl

a_field_after_a_user : holds (fielded_by (Some (codes "root")) (codes "5 x")) warnings.LooksLikeField ≡ false
a_field_after_a_user = refl

a_field_for_a_command : holds (fielded_by None (codes "5 x")) warnings.LooksLikeField ≡ true
a_field_for_a_command = refl

a_number_after_a_nickname : holds (job_by None (codes "5 x")) warnings.LooksLikeField ≡ false
a_number_after_a_nickname = refl

an_empty_command_is_no_field : looks_like_field [] ≡ false
an_empty_command_is_no_field = refl

no_command : has_no_command [] ≡ true
no_command = refl

blanks_for_a_command : has_no_command (codes "  ") ≡ true
blanks_for_a_command = refl

a_comment_for_a_command : has_no_command (codes " # x") ≡ true
a_comment_for_a_command = refl

a_command_before_a_comment : has_no_command (codes "x # y") ≡ false
a_command_before_a_comment = refl

a_carriage_return_for_a_command : has_no_command (13 ∷ []) ≡ true
a_carriage_return_for_a_command = refl

a_comment_for_a_user : holds (job_by (Some (codes "#root")) (codes "x")) warnings.NoCommand ≡ true
a_comment_for_a_user = refl

a_user_and_a_command : holds (job_by (Some (codes "root")) (codes "x")) warnings.NoCommand ≡ false
a_user_and_a_command = refl

no_command_after_a_user : holds (job_by (Some (codes "root")) []) warnings.NoCommand ≡ true
no_command_after_a_user = refl

-- ---- the name of a user

root_in_front_of_a_command : holds (job_by None (codes "root x")) warnings.User ≡ true
root_in_front_of_a_command = refl

rootless : holds (job_by None (codes "roots x")) warnings.User ≡ false
rootless = refl

-- the same, where two users are known
abbrev known_by : Option (List ℕ) → List ℕ → Subject
known_by user command = record (job_by user command) { users = Some (codes "root:x:0:0::/:\nwww$:x:33:33::/:\n") }

a_known_user_in_front_of_a_path : holds (known_by None (codes "www$  /bin/x")) warnings.User ≡ true
a_known_user_in_front_of_a_path = refl

a_known_user_in_front_of_no_path : holds (known_by None (codes "www$ x")) warnings.User ≡ false
a_known_user_in_front_of_no_path = refl

an_unknown_user_in_front_of_a_path : holds (known_by None (codes "ww /bin/x")) warnings.User ≡ false
an_unknown_user_in_front_of_a_path = refl

a_path_after_an_unknown_word : holds (job_by None (codes "www$ /bin/x")) warnings.User ≡ false
a_path_after_an_unknown_word = refl

a_known_user_with_a_sign : holds (known_by (Some (codes "www$")) (codes "x")) warnings.User ≡ false
a_known_user_with_a_sign = refl

an_unknown_user_with_a_sign : holds (job_by (Some (codes "www$")) (codes "x")) warnings.User ≡ true
an_unknown_user_with_a_sign = refl

-- these times, and this command after them
abbrev timed_job : List ℕ → List ℕ → Subject
timed_job schedule command = record (job_by None command) { fields = Some (texts schedule) }

a_command_in_the_weekdays : holds (timed_job (codes "* * * * *x") []) (warnings.PassedOver fields.Weekday) ≡ false
a_command_in_the_weekdays = refl

more_after_the_weekdays : holds (timed_job (codes "* * * * *x") (codes "y")) (warnings.PassedOver fields.Weekday) ≡ true
more_after_the_weekdays = refl

hours_before_a_command_in_the_weekdays : holds (timed_job (codes "* *y * * *x") []) (warnings.PassedOver fields.Hours) ≡ true
hours_before_a_command_in_the_weekdays = refl

a_pattern_passes_over_nothing : holds (record (timed_job (codes "* * * * *x") (codes "y")) { is_crontab = false }) (warnings.PassedOver fields.Weekday) ≡ false
a_pattern_passes_over_nothing = refl

a_path_for_a_user : holds (job_by (Some (codes "/bin/x")) (codes "-q")) warnings.User ≡ true
a_path_for_a_user = refl

a_user_with_a_dash : holds (job_by (Some (codes "www-data")) (codes "x")) warnings.User ≡ false
a_user_with_a_dash = refl

a_setting_for_a_user : holds (job_by (Some (codes "A=b")) (codes "x")) warnings.User ≡ true
a_setting_for_a_user = refl

a_field_is_told_alone : holds (fielded_by (Some (codes "*/2")) (codes "root x")) warnings.User ≡ false
a_field_is_told_alone = refl

a_user_in_a_users_crontab : holds (job_by None (codes "root /bin/x")) warnings.User ≡ true
a_user_in_a_users_crontab = refl

a_command_named_root : holds (job_by None (codes "root")) warnings.User ≡ false
a_command_named_root = refl

root_runs_a_command_named_root : holds (job_by (Some (codes "root")) (codes "root x")) warnings.User ≡ false
root_runs_a_command_named_root = refl

a_percent_sign : has_percent (codes "date +%F") ≡ true
a_percent_sign = refl

after_a_backslash : has_percent (codes "date +" ++ (92 ∷ codes "%F")) ≡ false
after_a_backslash = refl

after_two_backslashes : has_percent (92 ∷ 92 ∷ codes "%F") ≡ true
after_two_backslashes = refl

a_backslash_at_the_end : is_continued (codes "x " ++ (92 ∷ [])) ≡ true
a_backslash_at_the_end = refl

two_backslashes_at_the_end : is_continued (codes "x " ++ (92 ∷ 92 ∷ [])) ≡ false
two_backslashes_at_the_end = refl

a_backslash_and_a_blank : is_continued (codes "x " ++ (92 ∷ 32 ∷ [])) ≡ false
a_backslash_and_a_blank = refl

an_escape_byte : has_hidden (codes "x" ++ (27 ∷ codes "[2K")) ≡ true
an_escape_byte = refl

a_tab : has_hidden (codes "x" ++ (9 ∷ codes "y")) ≡ false
a_tab = refl

a_byte_127 : has_hidden (127 ∷ []) ≡ true
a_byte_127 = refl

a_space_of_no_width : has_hidden (120 ∷ 226 ∷ 128 ∷ 139 ∷ []) ≡ true
a_space_of_no_width = refl

a_joiner_of_no_width : has_hidden (120 ∷ 226 ∷ 128 ∷ 140 ∷ []) ≡ false
a_joiner_of_no_width = refl

text_from_right_to_left : has_hidden (226 ∷ 128 ∷ 174 ∷ []) ≡ true
text_from_right_to_left = refl

an_isolate : has_hidden (226 ∷ 129 ∷ 166 ∷ []) ≡ true
an_isolate = refl

an_invisible_separator : has_hidden (226 ∷ 129 ∷ 165 ∷ []) ≡ false
an_invisible_separator = refl

letters_of_more_bytes : has_hidden (195 ∷ 164 ∷ 226 ∷ 130 ∷ 172 ∷ []) ≡ false
letters_of_more_bytes = refl

a_return_at_the_end_hides_nothing : has_hidden_within (codes "x" ++ (13 ∷ [])) ≡ false
a_return_at_the_end_hides_nothing = refl

a_return_within_hides : has_hidden_within (codes "x" ++ (13 ∷ codes "#y")) ≡ true
a_return_within_hides = refl

a_control_byte_of_a_user : holds (job_by (Some (8 ∷ codes "root")) (codes "x")) warnings.ControlByte ≡ true
a_control_byte_of_a_user = refl

a_carriage_return : has_carriage_return (codes "x" ++ (13 ∷ [])) ≡ true
a_carriage_return = refl

a_carriage_return_within : has_carriage_return (codes "x" ++ (13 ∷ codes "y")) ≡ false
a_carriage_return_within = refl

-- ---- a setting

-- ---- the file

one_line_too_many : are_many_lines 10_001 ≡ true
one_line_too_many = refl

as_many_as_cron_takes : are_many_lines 10_000 ≡ false
as_many_as_cron_takes = refl
