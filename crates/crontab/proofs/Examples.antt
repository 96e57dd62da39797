-- Worked rows of the dialect of crontabs, computed from its definitions. Each was given to cron's own reader, which made the same of it.
use Rattle.std.proofs.Common.{◌≡◌, ℕ, Bool, List, [], ◌∷◌, ◌++◌, true, false, Option, Some, None, refl}
use Rattle.std.specs.Prelude.{codes}
use Rattle.std.specs.Fmt.{digits}
use Rattle.crontab.specs.declared.line.Dialect.TheVariants as dialects
use Rattle.crontab.specs.declared.line.Fault.TheVariants as faults
use Rattle.crontab.specs.Line.{Line, reboot, never, named, blank, comment, setting, job, pattern, refused, entry_of}
use Rattle.crontab.specs.Place.{place_of}
use Rattle.crontab.specs.Setting.{is_not_expanded}

-- a job of a user whose command is x
abbrev x_at : List ℕ → List ℕ → Bool → Line
x_at schedule text both = job (record { times = named text both; schedule = schedule; user = None; command = codes "x" })

abbrev never_x : List ℕ → Line
never_x schedule = job (record { times = never; schedule = schedule; user = None; command = codes "x" })

-- kinds of lines
an_empty_line : entry_of dialects.User [] ≡ blank
unfolding digits
an_empty_line = refl

blanks : entry_of dialects.User (codes " " ++ (9 ∷ [])) ≡ blank
unfolding digits
blanks = refl

a_comment : entry_of dialects.User (codes " " ++ (9 ∷ codes "#x")) ≡ comment
unfolding digits
a_comment = refl

a_carriage_return : entry_of dialects.User (13 ∷ []) ≡ refused faults.Minutes
unfolding digits
a_carriage_return = refl

a_setting : entry_of dialects.User (codes "A=b") ≡ setting false
unfolding digits
a_setting = refl

spaces_round_the_sign : entry_of dialects.User (codes "A " ++ (13 ∷ codes "= b")) ≡ setting false
unfolding digits
spaces_round_the_sign = refl

quotes : entry_of dialects.User (34 ∷ (codes "A" ++ (34 ∷ codes " = 'x y' "))) ≡ setting false
unfolding digits
quotes = refl

after_quotes : entry_of dialects.User (codes "A='x' y") ≡ refused faults.Minutes
unfolding digits
after_quotes = refl

no_value : entry_of dialects.User (codes "A=") ≡ refused faults.Minutes
unfolding digits
no_value = refl

no_name : entry_of dialects.User (codes " =x") ≡ setting false
unfolding digits
no_name = refl

a_sign_in_quotes : entry_of dialects.User (34 ∷ (codes "A=b" ++ (34 ∷ codes "=c"))) ≡ refused faults.Minutes
unfolding digits
a_sign_in_quotes = refl

a_nickname_set : entry_of dialects.User (codes "@daily=x") ≡ setting false
unfolding digits
a_nickname_set = refl

-- days
a_star_with_a_step_is_a_star : entry_of dialects.User (codes "0 0 */2 * 1 x") ≡ x_at (codes "0 0 */2 * 1") (codes "0 0 */2 * 1") true
unfolding digits
a_star_with_a_step_is_a_star = refl

either_day : entry_of dialects.User (codes "0 0 1,15 * mon x") ≡ x_at (codes "0 0 1,15 * mon") (codes "0 0 1,15 * 1") false
unfolding digits
either_day = refl

a_star_that_is_not_first_is_none : entry_of dialects.User (codes "0 0 5,* * 1 x") ≡ x_at (codes "0 0 5,* * 1") (codes "0 0 5,1-31 * 1") false
unfolding digits
a_star_that_is_not_first_is_none = refl

weekdays_that_name_nothing : entry_of dialects.User (codes "0 0 5 * fri-mon x") ≡ x_at (codes "0 0 5 * fri-mon") (codes "0 0 5 * *") false
unfolding digits
weekdays_that_name_nothing = refl

days_that_name_nothing : entry_of dialects.User (codes "0 0 10-5 * 1 x") ≡ x_at (codes "0 0 10-5 * 1") (codes "0 0 * * 1") false
unfolding digits
days_that_name_nothing = refl

no_day : entry_of dialects.User (codes "0 0 10-5 * * x") ≡ never_x (codes "0 0 10-5 * *")
unfolding digits
no_day = refl

no_minute : entry_of dialects.User (codes "10-5 * * * * x") ≡ never_x (codes "10-5 * * * *")
unfolding digits
no_minute = refl

-- fields
names : entry_of dialects.User (codes "*/5 9-17 * jan-DEC Mon-fri x") ≡ x_at (codes "*/5 9-17 * jan-DEC Mon-fri") (codes "*/5 9-17 * 1-12 1-5") true
unfolding digits
names = refl

what_is_passed_over : entry_of dialects.User (codes "*/2/3 0~5 1#2 * 1#2 x") ≡ x_at (codes "*/2/3 0~5 1#2 * 1#2") (codes "*/2 0 1 * 1") false
unfolding digits
what_is_passed_over = refl

a_star_names_all : entry_of dialects.User (codes "*,5 * * * * x") ≡ x_at (codes "*,5 * * * *") (codes "* * * * *") true
unfolding digits
a_star_names_all = refl

a_step_past_the_last : entry_of dialects.User (codes "1-5/90 * * * * x") ≡ x_at (codes "1-5/90 * * * *") (codes "1-5/90 * * * *") true
unfolding digits
a_step_past_the_last = refl

a_number_of_33_bits : entry_of dialects.User (codes "4294967297 * * * * x") ≡ x_at (codes "4294967297 * * * *") (codes "1 * * * *") true
unfolding digits
a_number_of_33_bits = refl

the_longest_step : entry_of dialects.User (codes "0-5/2147483647 * * * * x") ≡ x_at (codes "0-5/2147483647 * * * *") (codes "0-5/9999 * * * *") true
unfolding digits
the_longest_step = refl

a_step_too_long : entry_of dialects.User (codes "1-5/2147483647 * * * * x") ≡ refused faults.Minutes
unfolding digits
a_step_too_long = refl

sunday : entry_of dialects.User (codes "00005 000 * * 007 x") ≡ x_at (codes "00005 000 * * 007") (codes "5 0 * * 7") true
unfolding digits
sunday = refl

an_empty_part : entry_of dialects.User (codes "5,,10 * * * * x") ≡ refused faults.Minutes
unfolding digits
an_empty_part = refl

a_step_after_a_value : entry_of dialects.User (codes "1/2 * * * * x") ≡ refused faults.Minutes
unfolding digits
a_step_after_a_value = refl

no_step : entry_of dialects.User (codes "*/0 * * * * x") ≡ refused faults.Minutes
unfolding digits
no_step = refl

minute_60 : entry_of dialects.User (codes "60 * * * * x") ≡ refused faults.Minutes
unfolding digits
minute_60 = refl

hour_24 : entry_of dialects.User (codes "0 24 * * * x") ≡ refused faults.Hours
unfolding digits
hour_24 = refl

day_0 : entry_of dialects.User (codes "0 0 0 * * x") ≡ refused faults.Days
unfolding digits
day_0 = refl

a_last_day : entry_of dialects.User (codes "0 0 L * * x") ≡ refused faults.Days
unfolding digits
a_last_day = refl

month_13 : entry_of dialects.User (codes "0 0 1 13 * x") ≡ refused faults.Months
unfolding digits
month_13 = refl

a_name_of_a_weekday_in_months : entry_of dialects.User (codes "0 0 1 mon * x") ≡ refused faults.Months
unfolding digits
a_name_of_a_weekday_in_months = refl

weekday_8 : entry_of dialects.User (codes "0 0 * * 8 x") ≡ refused faults.Weekdays
unfolding digits
weekday_8 = refl

a_long_name : entry_of dialects.User (codes "0 0 * * sunday x") ≡ refused faults.Weekdays
unfolding digits
a_long_name = refl

a_plus : entry_of dialects.User (codes "+5 * * * * x") ≡ refused faults.Minutes
unfolding digits
a_plus = refl

four_fields : entry_of dialects.User (codes "* * * *") ≡ refused faults.Weekdays
unfolding digits
four_fields = refl

the_end_of_the_file_in_a_field : entry_of dialects.User (codes "*" ++ (255 ∷ codes " * * * * x")) ≡ refused faults.Minutes
unfolding digits
the_end_of_the_file_in_a_field = refl

the_end_of_the_file_for_a_command : entry_of dialects.User (codes "* * * * * " ++ (255 ∷ [])) ≡ refused faults.Weekdays
unfolding digits
the_end_of_the_file_for_a_command = refl

-- commands and nicknames
no_command : entry_of dialects.User (codes "* * * * *") ≡ job (record { times = named (codes "* * * * *") true; schedule = codes "* * * * *"; user = None; command = [] })
unfolding digits
no_command = refl

a_star_for_a_command : entry_of dialects.User (codes "* * * * * *x") ≡ refused faults.Command
unfolding digits
a_star_for_a_command = refl

a_nickname : entry_of dialects.User (codes "@daily x") ≡ x_at (codes "@daily") (codes "0 0 * * *") false
unfolding digits
a_nickname = refl

midnight : entry_of dialects.User (codes "@midnight" ++ (9 ∷ codes "x")) ≡ x_at (codes "@midnight") (codes "0 0 * * *") false
unfolding digits
midnight = refl

as_the_machine_starts : entry_of dialects.User (codes "@reboot x") ≡ job (record { times = reboot; schedule = codes "@reboot"; user = None; command = codes "x" })
unfolding digits
as_the_machine_starts = refl

a_nickname_in_capitals : entry_of dialects.User (codes "@DAILY x") ≡ refused faults.Nickname
unfolding digits
a_nickname_in_capitals = refl

a_user : entry_of dialects.System (codes "@daily root  x") ≡ job (record { times = named (codes "0 0 * * *") false; schedule = codes "@daily"; user = Some (codes "root"); command = codes " x" })
unfolding digits
a_user = refl

no_blank_after_a_user : entry_of dialects.System (codes "@daily root") ≡ refused faults.User
unfolding digits
no_blank_after_a_user = refl

a_command_of_a_user_with_a_star : entry_of dialects.System (codes "* * * * * root *x") ≡ job (record { times = named (codes "* * * * *") true; schedule = codes "* * * * *"; user = Some (codes "root"); command = codes "*x" })
unfolding digits
a_command_of_a_user_with_a_star = refl

-- zones, and files of patterns
a_zone_set : entry_of dialects.User (codes "CRON_TZ=UTC") ≡ setting true
unfolding digits
a_zone_set = refl

a_zone_set_in_quotes : entry_of dialects.System (codes " 'TZ' = x") ≡ setting true
unfolding digits
a_zone_set_in_quotes = refl

another_name : entry_of dialects.User (codes "TZX=UTC") ≡ setting false
unfolding digits
another_name = refl

a_pattern : entry_of dialects.Patterns (codes " 0 0 L * * " ++ (9 ∷ 13 ∷ [])) ≡ pattern (codes "0 0 L * *")
unfolding digits
a_pattern = refl

no_setting_among_patterns : entry_of dialects.Patterns (codes "A=b") ≡ pattern (codes "A=b")
unfolding digits
no_setting_among_patterns = refl

a_comment_among_patterns : entry_of dialects.Patterns (codes " # 5") ≡ comment
unfolding digits
a_comment_among_patterns = refl

-- what a shell would expand
a_variable_in_a_value : is_not_expanded (codes "PATH=$HOME/bin") ≡ true
a_variable_in_a_value = refl

a_variable_in_single_quotes : is_not_expanded (codes "A='$B'") ≡ true
a_variable_in_single_quotes = refl

a_home_at_the_head : is_not_expanded (codes "A=~/bin") ≡ true
a_home_at_the_head = refl

a_home_after_a_colon : is_not_expanded (codes "PATH=/bin:~/bin") ≡ true
a_home_after_a_colon = refl

a_home_in_quotes : is_not_expanded (codes "A=" ++ (34 ∷ (codes "~/bin" ++ (34 ∷ [])))) ≡ true
a_home_in_quotes = refl

a_tilde_within : is_not_expanded (codes "A=x~/bin") ≡ false
a_tilde_within = refl

a_tilde_alone : is_not_expanded (codes "A=~") ≡ false
a_tilde_alone = refl

a_comment_after_a_value : is_not_expanded (codes "A=b # c") ≡ true
a_comment_after_a_value = refl

a_sign_within_a_word : is_not_expanded (codes "A=b#c") ≡ false
a_sign_within_a_word = refl

a_colour : is_not_expanded (codes "A=#fff") ≡ false
a_colour = refl

a_sign_in_quotes_after_a_blank : is_not_expanded (codes "A='b #c'") ≡ false
a_sign_in_quotes_after_a_blank = refl

a_value_as_it_stands : is_not_expanded (codes "PATH=/usr/bin:/bin") ≡ false
a_value_as_it_stands = refl

-- where a fault lies: of a list the first part that cron doesn't take, of one part the field, and no byte of an empty part
abbrev place_in_line : List ℕ → Line → Option (ℕ × ℕ)
place_in_line = place_of false

a_part_of_a_list : place_in_line (codes "0 1,2,3,99,5 * * *") (refused faults.Hours) ≡ Some (8, 10)
unfolding digits
a_part_of_a_list = refl

a_part_alone : place_in_line (codes " 60 * * * * x") (refused faults.Minutes) ≡ Some (1, 3)
unfolding digits
a_part_alone = refl

no_byte_of_an_empty_part : place_in_line (codes "1,2,,3 * * * * x") (refused faults.Minutes) ≡ Some (4, 4)
unfolding digits
no_byte_of_an_empty_part = refl

a_missing_field : place_in_line (codes "0 5") (refused faults.Days) ≡ Some (3, 3)
unfolding digits
a_missing_field = refl
