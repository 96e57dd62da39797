-- Worked rows of what is said of the word of a zone, and of lengths of time in words. What a rule is, is computed by the grammar that jiff reads.
use Rattle.std.proofs.Common.{◌≡◌, refl, pos}
use Rattle.std.specs.Fmt.{digits}
use Rattle.std.specs.Prelude.{codes, neg_ℤ, Some, None}
use Rattle.jiff_tz.specs.PosixReader.{read_whole, read_tz, read_dst, read_abbreviation, read_quoted, read_unquoted, read_day_time, read_day, read_julian_zero, read_julian_one, read_weekday_of_month, read_rule_time, read_offset, read_sign, read_minutes, read_sixty, read_up_to_three, read_up_to_two, read_exactly_two, read_digit, read_byte}
use Rattle.croncheck_runs.specs.Length.{length_text}
use Rattle.croncheck_moments.specs.Zone.{fault_of_word, name_fault, setting_fault, colon_fault, hours_fault, no_dates_fault, no_summer_fault, two_dates_fault, front_fault, date_fault, time_fault, quote_text, note_of, without_front, split_at}

-- ---- what is wrong with a word

-- in front of the minus stands a rule, UTC+2, and no name of one: so the plus is the sign
hours_after_the_first_sign : fault_of_word (codes "UTC+2-3") ≡ hours_fault (quote_text (codes "2-3"))
unfolding without_front split_at read_whole read_tz read_dst read_abbreviation read_quoted read_unquoted read_day_time read_day read_julian_zero read_julian_one read_weekday_of_month read_rule_time read_offset read_sign read_minutes read_sixty read_up_to_three read_up_to_two read_exactly_two read_digit read_byte
hours_after_the_first_sign = refl

-- the signs of a name in quotes are none of the hours
a_plus_after_a_name_with_a_minus : fault_of_word (codes "<-03>+25") ≡ hours_fault (quote_text (codes "25"))
unfolding without_front split_at read_whole read_tz read_dst read_abbreviation read_quoted read_unquoted read_day_time read_day read_julian_zero read_julian_one read_weekday_of_month read_rule_time read_offset read_sign read_minutes read_sixty read_up_to_three read_up_to_two read_exactly_two read_digit read_byte
a_plus_after_a_name_with_a_minus = refl

a_minus_after_a_name_with_a_minus : fault_of_word (codes "<-03>-25") ≡ hours_fault (quote_text (codes "25"))
unfolding without_front split_at read_whole read_tz read_dst read_abbreviation read_quoted read_unquoted read_day_time read_day read_julian_zero read_julian_one read_weekday_of_month read_rule_time read_offset read_sign read_minutes read_sixty read_up_to_three read_up_to_two read_exactly_two read_digit read_byte
a_minus_after_a_name_with_a_minus = refl

a_plus_after_a_name_with_a_plus : fault_of_word (codes "<+03>+25") ≡ hours_fault (quote_text (codes "25"))
unfolding without_front split_at read_whole read_tz read_dst read_abbreviation read_quoted read_unquoted read_day_time read_day read_julian_zero read_julian_one read_weekday_of_month read_rule_time read_offset read_sign read_minutes read_sixty read_up_to_three read_up_to_two read_exactly_two read_digit read_byte
a_plus_after_a_name_with_a_plus = refl

too_many_hours : fault_of_word (codes "CET-25") ≡ hours_fault (quote_text (codes "25"))
unfolding without_front split_at read_whole read_tz read_dst read_abbreviation read_quoted read_unquoted read_day_time read_day read_julian_zero read_julian_one read_weekday_of_month read_rule_time read_offset read_sign read_minutes read_sixty read_up_to_three read_up_to_two read_exactly_two read_digit read_byte
too_many_hours = refl

a_letter_in_the_hours : fault_of_word (codes "UTC+2h") ≡ hours_fault (quote_text (codes "2h"))
unfolding without_front split_at read_whole read_tz read_dst read_abbreviation read_quoted read_unquoted read_day_time read_day read_julian_zero read_julian_one read_weekday_of_month read_rule_time read_offset read_sign read_minutes read_sixty read_up_to_three read_up_to_two read_exactly_two read_digit read_byte
a_letter_in_the_hours = refl

-- UTC2 is a rule, and no name
a_rule_and_more_hours : fault_of_word (codes "UTC2-3") ≡ name_fault
unfolding without_front split_at read_whole read_tz read_dst read_abbreviation read_quoted read_unquoted read_day_time read_day read_julian_zero read_julian_one read_weekday_of_month read_rule_time read_offset read_sign read_minutes read_sixty read_up_to_three read_up_to_two read_exactly_two read_digit read_byte
a_rule_and_more_hours = refl

a_name_of_two_letters : fault_of_word (codes "NZ-CHATTER") ≡ name_fault
unfolding without_front split_at read_whole read_tz read_dst read_abbreviation read_quoted read_unquoted read_day_time read_day read_julian_zero read_julian_one read_weekday_of_month read_rule_time read_offset read_sign read_minutes read_sixty read_up_to_three read_up_to_two read_exactly_two read_digit read_byte
a_name_of_two_letters = refl

a_rule_and_a_comma : fault_of_word (codes "UTC+2,") ≡ no_summer_fault (codes "UTC+2")
unfolding without_front split_at read_whole read_tz read_dst read_abbreviation read_quoted read_unquoted read_day_time read_day read_julian_zero read_julian_one read_weekday_of_month read_rule_time read_offset read_sign read_minutes read_sixty read_up_to_three read_up_to_two read_exactly_two read_digit read_byte
a_rule_and_a_comma = refl

summer_time_without_dates : fault_of_word (codes "EST5EDT6") ≡ no_dates_fault (codes "EST5EDT6")
unfolding without_front split_at read_whole read_tz read_dst read_abbreviation read_quoted read_unquoted read_day_time read_day read_julian_zero read_julian_one read_weekday_of_month read_rule_time read_offset read_sign read_minutes read_sixty read_up_to_three read_up_to_two read_exactly_two read_digit read_byte
summer_time_without_dates = refl

hours_of_a_front : fault_of_word (codes "CET-25CEST,M3.5.0,M10.5.0") ≡ front_fault (quote_text (codes "CET-25CEST"))
unfolding without_front split_at read_whole read_tz read_dst read_abbreviation read_quoted read_unquoted read_day_time read_day read_julian_zero read_julian_one read_weekday_of_month read_rule_time read_offset read_sign read_minutes read_sixty read_up_to_three read_up_to_two read_exactly_two read_digit read_byte
hours_of_a_front = refl

one_date : fault_of_word (codes "CET-1CEST,M3.5.0") ≡ two_dates_fault
unfolding without_front split_at read_whole read_tz read_dst read_abbreviation read_quoted read_unquoted read_day_time read_day read_julian_zero read_julian_one read_weekday_of_month read_rule_time read_offset read_sign read_minutes read_sixty read_up_to_three read_up_to_two read_exactly_two read_digit read_byte
one_date = refl

a_month_of_13 : fault_of_word (codes "CET-1CEST,M13.5.0/2,M10.5.0") ≡ date_fault (quote_text (codes "M13.5.0"))
unfolding without_front split_at read_whole read_tz read_dst read_abbreviation read_quoted read_unquoted read_day_time read_day read_julian_zero read_julian_one read_weekday_of_month read_rule_time read_offset read_sign read_minutes read_sixty read_up_to_three read_up_to_two read_exactly_two read_digit read_byte
a_month_of_13 = refl

a_time_of_168 : fault_of_word (codes "CET-1CEST,M3.5.0,M10.5.0/168") ≡ time_fault (quote_text (codes "168"))
unfolding without_front split_at read_whole read_tz read_dst read_abbreviation read_quoted read_unquoted read_day_time read_day read_julian_zero read_julian_one read_weekday_of_month read_rule_time read_offset read_sign read_minutes read_sixty read_up_to_three read_up_to_two read_exactly_two read_digit read_byte
a_time_of_168 = refl

a_setting_of_a_name : fault_of_word (codes "TZ=Europe/Paris") ≡ setting_fault (quote_text (codes "Europe/Paris"))
unfolding without_front split_at read_whole read_tz read_dst read_abbreviation read_quoted read_unquoted read_day_time read_day read_julian_zero read_julian_one read_weekday_of_month read_rule_time read_offset read_sign read_minutes read_sixty read_up_to_three read_up_to_two read_exactly_two read_digit read_byte
a_setting_of_a_name = refl

-- the colon of a setting isn't repeated
a_setting_with_a_colon : fault_of_word (codes "TZ=:UTC") ≡ setting_fault (quote_text (codes "UTC"))
unfolding without_front split_at read_whole read_tz read_dst read_abbreviation read_quoted read_unquoted read_day_time read_day read_julian_zero read_julian_one read_weekday_of_month read_rule_time read_offset read_sign read_minutes read_sixty read_up_to_three read_up_to_two read_exactly_two read_digit read_byte
a_setting_with_a_colon = refl

-- where no zone is left there is none to write
a_setting_of_nothing : fault_of_word (codes "TZ=") ≡ name_fault
unfolding without_front split_at read_whole read_tz read_dst read_abbreviation read_quoted read_unquoted read_day_time read_day read_julian_zero read_julian_one read_weekday_of_month read_rule_time read_offset read_sign read_minutes read_sixty read_up_to_three read_up_to_two read_exactly_two read_digit read_byte
a_setting_of_nothing = refl

a_setting_of_a_colon : fault_of_word (codes "TZ=:") ≡ name_fault
unfolding without_front split_at read_whole read_tz read_dst read_abbreviation read_quoted read_unquoted read_day_time read_day read_julian_zero read_julian_one read_weekday_of_month read_rule_time read_offset read_sign read_minutes read_sixty read_up_to_three read_up_to_two read_exactly_two read_digit read_byte
a_setting_of_a_colon = refl

a_colon_alone : fault_of_word (codes ":") ≡ name_fault
unfolding without_front split_at read_whole read_tz read_dst read_abbreviation read_quoted read_unquoted read_day_time read_day read_julian_zero read_julian_one read_weekday_of_month read_rule_time read_offset read_sign read_minutes read_sixty read_up_to_three read_up_to_two read_exactly_two read_digit read_byte
a_colon_alone = refl

a_colon_and_a_name : fault_of_word (codes ":Europe/Paris") ≡ colon_fault (quote_text (codes "Europe/Paris"))
unfolding without_front split_at read_whole read_tz read_dst read_abbreviation read_quoted read_unquoted read_day_time read_day read_julian_zero read_julian_one read_weekday_of_month read_rule_time read_offset read_sign read_minutes read_sixty read_up_to_three read_up_to_two read_exactly_two read_digit read_byte
a_colon_and_a_name = refl

-- ---- a rule that is easily taken for another

two_hours_behind : note_of (codes "GMT+2") (neg_ℤ (pos 7_200))
    ≡ Some (codes "--zone GMT+2: this clock is two hours behind UTC, as POSIX has it; two hours ahead of UTC is GMT-2")
unfolding without_front digits
two_hours_behind = refl

an_hour_ahead : note_of (codes "utc-1") (pos 3_600)
    ≡ Some (codes "--zone utc-1: this clock is one hour ahead of UTC, as POSIX has it; one hour behind UTC is utc+1")
unfolding without_front digits
an_hour_ahead = refl

without_a_sign : note_of (codes "UTC0:30") (neg_ℤ (pos 1_800))
    ≡ Some (codes "--zone UTC0:30: this clock is 30 minutes behind UTC, as POSIX has it; 30 minutes ahead of UTC is UTC-0:30")
unfolding without_front digits
without_a_sign = refl

that_of_utc : note_of (codes "UTC0") (pos 0) ≡ None
that_of_utc = refl

of_another_name : note_of (codes "CET-1") (pos 3_600) ≡ None
of_another_name = refl

with_summer_time : note_of (codes "GMT-1BST,M3.5.0,M10.5.0") (pos 3_600) ≡ None
with_summer_time = refl

-- ---- lengths of time

no_time : length_text 0 ≡ codes "0 seconds"
unfolding digits
no_time = refl

a_second : length_text 1 ≡ codes "one second"
unfolding digits
a_second = refl

seconds_alone : length_text 59 ≡ codes "59 seconds"
unfolding digits
seconds_alone = refl

a_minute : length_text 60 ≡ codes "one minute"
unfolding digits
a_minute = refl

a_minute_and_a_half : length_text 90 ≡ codes "one minute 30 seconds"
unfolding digits
a_minute_and_a_half = refl

an_hour : length_text 3_600 ≡ codes "one hour"
unfolding digits
an_hour = refl

an_hour_and_a_second : length_text 3_601 ≡ codes "one hour one second"
unfolding digits
an_hour_and_a_second = refl

three_hours : length_text 10_800 ≡ codes "three hours"
unfolding digits
three_hours = refl

twelve_hours : length_text 43_200 ≡ codes "twelve hours"
unfolding digits
twelve_hours = refl

many_hours : length_text 95_400 ≡ codes "26 hours 30 minutes"
unfolding digits
many_hours = refl
