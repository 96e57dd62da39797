-- Worked texts, computed from the definitions: which text a pattern keeps, which values its fields name, and why a text is
-- refused.
use Rattle.std.proofs.Common.{◌≡◌, ℕ, Bool, true, false, List, [], ◌∷◌, Option, Some, None, Err, option_map, refl}
use Rattle.std.specs.Prelude.{codes, option_and_then}
use Rattle.std.specs.Str.{trim, trim_start, trim_end, chars, str_to_ascii_uppercase}
use Rattle.croner_base.specs.Field.{marked_values}
use Rattle.croner_pattern.specs.Shapes.{sixty_shape, hour_shape, day_shape, month_shape}
use Rattle.croner.specs.declared.parser.Seconds.TheVariants as seconds
use Rattle.croner.specs.declared.parser.Year.TheVariants as year
use Rattle.croner.specs.declared.parser.fault.PatternField.TheVariants as fields
use Rattle.croner.specs.parser.Cut.{replaced}
use Rattle.croner.specs.parser.Grammar.{Texts, Empty, Invalid, Illegal, Component, outcome, nicknamed, fields_of, settled, is_star, are_legal, are_read, value_of, weekdays_of, settled_weekdays}
use Rattle.croner.specs.parser.Settings.{Settings, default_settings}
use Rattle.croner.specs.parser.Words.{words}

abbrev in_quartz_mode : Settings
in_quartz_mode = record default_settings { quartz = true }

abbrev with_sloppy_steps : Settings
with_sloppy_steps = record default_settings { sloppy = true }

abbrev with_seconds_required : Settings
with_seconds_required = record default_settings { seconds_field = seconds.Required }

abbrev with_year_required : Settings
with_year_required = record default_settings { year_field = year.Required }

-- the text that a pattern keeps
abbrev kept : Settings → List ℕ → Option (List ℕ)
kept s given = replaced s.quartz false (nicknamed s (trim (str_to_ascii_uppercase given)))

abbrev texts : Settings → List ℕ → Option Texts
texts s given = option_and_then (λ text. option_map settled (fields_of s (words text))) (kept s given)

abbrev minutes_of : Settings → List ℕ → Option (List ℕ)
minutes_of s given = option_map (λ t. marked_values 1 (value_of s sixty_shape t.minutes)) (texts s given)

abbrev hours_of : Settings → List ℕ → Option (List ℕ)
hours_of s given = option_map (λ t. marked_values 1 (value_of s hour_shape t.hours)) (texts s given)

abbrev days_in : Settings → List ℕ → Option (List ℕ)
days_in s given = option_map (λ t. marked_values 1 (value_of s day_shape t.days)) (texts s given)

abbrev months_of : Settings → List ℕ → Option (List ℕ)
months_of s given = option_map (λ t. marked_values 1 (value_of s month_shape t.months)) (texts s given)

abbrev weekday_marks : ℕ → Settings → List ℕ → Option (List ℕ)
weekday_marks bit s given =
    option_map (λ t. marked_values bit (settled_weekdays s (value_of s (weekdays_of s) t.days_of_week))) (texts s given)

abbrev stars_of : Settings → List ℕ → Option (List Bool)
stars_of s given = option_map (λ t. is_star t.days ∷ is_star t.days_of_week ∷ []) (texts s given)

-- the fields have legal characters, and each is read
abbrev is_read : Settings → List ℕ → Option (List Bool)
is_read s given = option_map (λ t. are_legal t ∷ are_read s t ∷ []) (texts s given)

steps_and_lists : minutes_of default_settings (codes "*/20 9-11,14 * 1,6 1-5") ≡ Some (0 ∷ 20 ∷ 40 ∷ [])
unfolding trim_start trim_end chars lib.Utf8.encode
steps_and_lists = refl

hours_of_a_list : hours_of default_settings (codes "*/20 9-11,14 * 1,6 1-5") ≡ Some (9 ∷ 10 ∷ 11 ∷ 14 ∷ [])
unfolding trim_start trim_end chars lib.Utf8.encode
hours_of_a_list = refl

months_of_a_list : months_of default_settings (codes "*/20 9-11,14 * 1,6 1-5") ≡ Some (1 ∷ 6 ∷ [])
unfolding trim_start trim_end chars lib.Utf8.encode
months_of_a_list = refl

weekdays_of_a_range : weekday_marks 1 default_settings (codes "*/20 9-11,14 * 1,6 MON-FRI") ≡ Some (1 ∷ 2 ∷ 3 ∷ 4 ∷ 5 ∷ [])
unfolding trim_start trim_end chars lib.Utf8.encode
weekdays_of_a_range = refl

quartz_weekend : weekday_marks 1 in_quartz_mode (codes "0 0 0 ? * 1,7") ≡ Some (0 ∷ 6 ∷ [])
unfolding trim_start trim_end chars lib.Utf8.encode
quartz_weekend = refl

quartz_steps : weekday_marks 1 in_quartz_mode (codes "* * * * */2") ≡ Some (0 ∷ 2 ∷ 4 ∷ 6 ∷ [])
unfolding trim_start trim_end chars lib.Utf8.encode
quartz_steps = refl

quartz_star : weekday_marks 1 in_quartz_mode (codes "* * * * *") ≡ Some (0 ∷ 1 ∷ 2 ∷ 3 ∷ 4 ∷ 5 ∷ 6 ∷ 7 ∷ [])
unfolding trim_start trim_end chars lib.Utf8.encode
quartz_star = refl

quartz_zero : outcome in_quartz_mode (codes "* * * * 0") ≡ Err (Component fields.Weekday 0)
unfolding trim_start trim_end chars lib.Utf8.encode
quartz_zero = refl

quartz_backward_range : outcome in_quartz_mode (codes "* * * * SAT-SUN") ≡ Err (Component fields.Weekday 0)
unfolding trim_start trim_end chars lib.Utf8.encode
quartz_backward_range = refl

quartz_whole_week : weekday_marks 1 in_quartz_mode (codes "0 0 * * SUN-SAT") ≡ Some (0 ∷ 1 ∷ 2 ∷ 3 ∷ 4 ∷ 5 ∷ 6 ∷ [])
unfolding trim_start trim_end chars lib.Utf8.encode
quartz_whole_week = refl

quartz_eight : outcome in_quartz_mode (codes "0 0 * * 8") ≡ Err (Component fields.Weekday 0)
unfolding trim_start trim_end chars lib.Utf8.encode
quartz_eight = refl

-- Sunday directly after a dash is 7
sunday_to_sunday : kept default_settings (codes "0 0 * * SUN-SUN") ≡ Some (codes "0 0 * * 0-7")
unfolding trim_start trim_end chars lib.Utf8.encode
sunday_to_sunday = refl

whole_week : weekday_marks 1 default_settings (codes "0 0 * * SUN-SUN") ≡ Some (0 ∷ 1 ∷ 2 ∷ 3 ∷ 4 ∷ 5 ∷ 6 ∷ [])
unfolding trim_start trim_end chars lib.Utf8.encode
whole_week = refl

whole_week_is_no_star : stars_of default_settings (codes "0 0 * * SUN-SUN") ≡ Some (true ∷ false ∷ [])
unfolding trim_start trim_end chars lib.Utf8.encode
whole_week_is_no_star = refl

nothing : outcome default_settings [] ≡ Err Empty
unfolding trim_start trim_end chars lib.Utf8.encode
nothing = refl

white_space_alone : outcome default_settings (codes "   ") ≡ Err Empty
unfolding trim_start trim_end chars lib.Utf8.encode
white_space_alone = refl

four_fields : outcome default_settings (codes "* * * *") ≡ Err Invalid
unfolding trim_start trim_end chars lib.Utf8.encode
four_fields = refl

eight_fields : outcome default_settings (codes "* * * * * * * *") ≡ Err Invalid
unfolding trim_start trim_end chars lib.Utf8.encode
eight_fields = refl

question_in_minutes : outcome default_settings (codes "? * * * *") ≡ Err (Illegal fields.Minutes)
unfolding trim_start trim_end chars lib.Utf8.encode
question_in_minutes = refl

two_plusses : outcome default_settings (codes "* * * * ++5") ≡ Err (Illegal fields.Weekday)
unfolding trim_start trim_end chars lib.Utf8.encode
two_plusses = refl

a_weekday_in_minutes : kept default_settings (codes "MON * * * *") ≡ Some (codes "1 * * * *")
unfolding trim_start trim_end chars lib.Utf8.encode
a_weekday_in_minutes = refl

a_month_to_a_weekday : kept default_settings (codes "JAN-SUN * * * *") ≡ Some (codes "1-7 * * * *")
unfolding trim_start trim_end chars lib.Utf8.encode
a_month_to_a_weekday = refl

minutes_by_names : minutes_of default_settings (codes "JAN-SUN * * * *") ≡ Some (1 ∷ 2 ∷ 3 ∷ 4 ∷ 5 ∷ 6 ∷ 7 ∷ [])
unfolding trim_start trim_end chars lib.Utf8.encode
minutes_by_names = refl

nth_by_names : kept default_settings (codes "0 0 * * MON#TUE") ≡ Some (codes "0 0 * * 1#2")
unfolding trim_start trim_end chars lib.Utf8.encode
nth_by_names = refl

two_names_in_a_row : kept default_settings (codes "0 0 * JANFEB *") ≡ Some (codes "0 0 * 12 *")
unfolding trim_start trim_end chars lib.Utf8.encode
two_names_in_a_row = refl

a_lost_letter : kept default_settings (codes "0 0 * * SUNDAY") ≡ None
unfolding trim_start trim_end chars lib.Utf8.encode
a_lost_letter = refl

a_lost_letter_is_illegal : outcome default_settings (codes "0 0 * * SUNDAY") ≡ Err (Illegal fields.Weekday)
unfolding trim_start trim_end chars lib.Utf8.encode
a_lost_letter_is_illegal = refl

count_before_letters : outcome default_settings (codes "X * * *") ≡ Err Invalid
unfolding trim_start trim_end chars lib.Utf8.encode
count_before_letters = refl

letters_before_fields : outcome default_settings (codes "60 * * * X") ≡ Err (Illegal fields.Weekday)
unfolding trim_start trim_end chars lib.Utf8.encode
letters_before_fields = refl

no_nickname : outcome default_settings (codes "@MON * * * *") ≡ Err (Illegal fields.Minutes)
unfolding trim_start trim_end chars lib.Utf8.encode
no_nickname = refl

no_nickname_with_seconds : outcome with_seconds_required (codes "@X * * * *") ≡ Err (Illegal fields.Minutes)
unfolding trim_start trim_end chars lib.Utf8.encode
no_nickname_with_seconds = refl

one_word_with_seconds : outcome with_seconds_required (codes "@FOO") ≡ Err Invalid
unfolding trim_start trim_end chars lib.Utf8.encode
one_word_with_seconds = refl

daily_with_year : outcome with_year_required (codes "@daily") ≡ Err Invalid
unfolding trim_start trim_end chars lib.Utf8.encode
daily_with_year = refl

daily_with_seconds : kept with_seconds_required (codes "@daily") ≡ Some (codes "0 0 0 * * *")
unfolding trim_start trim_end chars lib.Utf8.encode
daily_with_seconds = refl

weekly : kept default_settings (codes "  @weekly ") ≡ Some (codes "0 0 * * 0")
unfolding trim_start trim_end chars lib.Utf8.encode
weekly = refl

-- weekday 7 is 0
week_end : weekday_marks 1 default_settings (codes "* * * * 5-7") ≡ Some (0 ∷ 5 ∷ 6 ∷ [])
unfolding trim_start trim_end chars lib.Utf8.encode
week_end = refl

second_sunday : weekday_marks 4 default_settings (codes "0 0 * * 7#2") ≡ Some (0 ∷ [])
unfolding trim_start trim_end chars lib.Utf8.encode
second_sunday = refl

last_sunday : weekday_marks 64 default_settings (codes "0 0 * * 7L") ≡ Some (0 ∷ [])
unfolding trim_start trim_end chars lib.Utf8.encode
last_sunday = refl

seconds_of_each : weekday_marks 4 default_settings (codes "0 0 * * MON-FRI#2") ≡ Some (1 ∷ 2 ∷ 3 ∷ 4 ∷ 5 ∷ [])
unfolding trim_start trim_end chars lib.Utf8.encode
seconds_of_each = refl

seconds_are_not_plain : weekday_marks 1 default_settings (codes "0 0 * * MON-FRI#2") ≡ Some []
unfolding trim_start trim_end chars lib.Utf8.encode
seconds_are_not_plain = refl

sloppy_start : minutes_of with_sloppy_steps (codes "5/10 * * * *") ≡ Some (5 ∷ 15 ∷ 25 ∷ 35 ∷ 45 ∷ 55 ∷ [])
unfolding trim_start trim_end chars lib.Utf8.encode
sloppy_start = refl

sloppy_nothing : minutes_of with_sloppy_steps (codes "/10 * * * *") ≡ Some (0 ∷ 10 ∷ 20 ∷ 30 ∷ 40 ∷ 50 ∷ [])
unfolding trim_start trim_end chars lib.Utf8.encode
sloppy_nothing = refl

not_sloppy : outcome default_settings (codes "5/10 * * * *") ≡ Err (Component fields.Minutes 0)
unfolding trim_start trim_end chars lib.Utf8.encode
not_sloppy = refl

a_step_of_one_is_no_star : stars_of default_settings (codes "0 0 13 * */1") ≡ Some (false ∷ false ∷ [])
unfolding trim_start trim_end chars lib.Utf8.encode
a_step_of_one_is_no_star = refl

-- one plus is taken off, and a question mark is a star
a_weekday_star_with_plus : stars_of default_settings (codes "* * * * +?") ≡ Some (true ∷ true ∷ [])
unfolding trim_start trim_end chars lib.Utf8.encode
a_weekday_star_with_plus = refl

near_a_day : is_read default_settings (codes "0 0 15W? * *") ≡ Some (true ∷ true ∷ [])
unfolding trim_start trim_end chars lib.Utf8.encode
near_a_day = refl

near_a_range : outcome default_settings (codes "0 0 15W-20 * *") ≡ Err (Component fields.DayOfMonth 0)
unfolding trim_start trim_end chars lib.Utf8.encode
near_a_range = refl

a_stepped_question : kept default_settings (codes "0 0 ?/2 * *") ≡ Some (codes "0 0 ?/2 * *")
unfolding trim_start trim_end chars lib.Utf8.encode
a_stepped_question = refl

a_stepped_question_is_no_star : stars_of default_settings (codes "0 0 ?/2 * *") ≡ Some (false ∷ true ∷ [])
unfolding trim_start trim_end chars lib.Utf8.encode
a_stepped_question_is_no_star = refl

stepped_days : days_in default_settings (codes "0 0 ?/16 * *") ≡ Some (1 ∷ 17 ∷ [])
unfolding trim_start trim_end chars lib.Utf8.encode
stepped_days = refl

last_with_any_nth : is_read default_settings (codes "0 0 * * 5#*L") ≡ Some (true ∷ true ∷ [])
unfolding trim_start trim_end chars lib.Utf8.encode
last_with_any_nth = refl

a_star_with_nth : outcome default_settings (codes "0 0 * * *#2") ≡ Err (Component fields.Weekday 0)
unfolding trim_start trim_end chars lib.Utf8.encode
a_star_with_nth = refl

a_star_in_a_list : outcome default_settings (codes "*,5 * * * *") ≡ Err (Component fields.Minutes 0)
unfolding trim_start trim_end chars lib.Utf8.encode
a_star_in_a_list = refl

commas_alone : minutes_of default_settings (codes ",,5,, * * * *") ≡ Some (5 ∷ [])
unfolding trim_start trim_end chars lib.Utf8.encode
commas_alone = refl

twenty_digits : minutes_of default_settings (codes "00000000000000000005 * * * *") ≡ Some (5 ∷ [])
unfolding trim_start trim_end chars lib.Utf8.encode
twenty_digits = refl

no_end : outcome default_settings (codes "5- * * * *") ≡ Err (Component fields.Minutes 0)
unfolding trim_start trim_end chars lib.Utf8.encode
no_end = refl

no_step : outcome default_settings (codes "*/ * * * *") ≡ Err (Component fields.Minutes 0)
unfolding trim_start trim_end chars lib.Utf8.encode
no_step = refl

no_day : outcome default_settings (codes "0 0 W * *") ≡ Err (Component fields.DayOfMonth 0)
unfolding trim_start trim_end chars lib.Utf8.encode
no_day = refl

no_nth : outcome default_settings (codes "0 0 * * 5#") ≡ Err (Component fields.Weekday 0)
unfolding trim_start trim_end chars lib.Utf8.encode
no_nth = refl

a_far_step : minutes_of default_settings (codes "*/65535 * * * *") ≡ Some (0 ∷ [])
unfolding trim_start trim_end chars lib.Utf8.encode
a_far_step = refl

a_far_step_in_weekdays : weekday_marks 1 default_settings (codes "0 0 * * */65535") ≡ Some (0 ∷ [])
unfolding trim_start trim_end chars lib.Utf8.encode
a_far_step_in_weekdays = refl

a_step_too_far : outcome default_settings (codes "0 0 */65535 * *") ≡ Err (Component fields.DayOfMonth 0)
unfolding trim_start trim_end chars lib.Utf8.encode
a_step_too_far = refl

a_step_too_far_in_quartz_mode : outcome in_quartz_mode (codes "0 0 * * */65535") ≡ Err (Component fields.Weekday 0)
unfolding trim_start trim_end chars lib.Utf8.encode
a_step_too_far_in_quartz_mode = refl

the_farthest_step : days_in default_settings (codes "0 0 */65534 * *") ≡ Some (1 ∷ [])
unfolding trim_start trim_end chars lib.Utf8.encode
the_farthest_step = refl

-- white space by Unicode splits fields: U+3000 and U+0085 do, U+001F and U+200B do not
wide_space_and_next_line : minutes_of default_settings (53 ∷ 227 ∷ 128 ∷ 128 ∷ 48 ∷ 194 ∷ 133 ∷ 42 ∷ 32 ∷ 42 ∷ 32 ∷ 42 ∷ []) ≡ Some (5 ∷ [])
unfolding trim_start trim_end chars lib.Utf8.encode
wide_space_and_next_line = refl

unit_separator : outcome default_settings (53 ∷ 31 ∷ 48 ∷ 32 ∷ 42 ∷ 32 ∷ 42 ∷ 32 ∷ 42 ∷ []) ≡ Err Invalid
unfolding trim_start trim_end chars lib.Utf8.encode
unit_separator = refl

zero_width_space : outcome default_settings (53 ∷ 226 ∷ 128 ∷ 139 ∷ 48 ∷ 32 ∷ 42 ∷ 32 ∷ 42 ∷ 32 ∷ 42 ∷ []) ≡ Err Invalid
unfolding trim_start trim_end chars lib.Utf8.encode
zero_width_space = refl

-- letters past ASCII are not raised
long_s : outcome default_settings (48 ∷ 32 ∷ 48 ∷ 32 ∷ 42 ∷ 32 ∷ 42 ∷ 32 ∷ 197 ∷ 191 ∷ 85 ∷ 78 ∷ []) ≡ Err (Illegal fields.Weekday)
unfolding trim_start trim_end chars lib.Utf8.encode
long_s = refl

arabic_digit : outcome default_settings (217 ∷ 163 ∷ 32 ∷ 42 ∷ 32 ∷ 42 ∷ 32 ∷ 42 ∷ 32 ∷ 42 ∷ []) ≡ Err (Illegal fields.Minutes)
unfolding trim_start trim_end chars lib.Utf8.encode
arabic_digit = refl

a_tab_is_kept : kept default_settings (48 ∷ 9 ∷ 48 ∷ 32 ∷ 42 ∷ 32 ∷ 42 ∷ 32 ∷ 77 ∷ 79 ∷ 78 ∷ []) ≡ Some (48 ∷ 9 ∷ 48 ∷ 32 ∷ 42 ∷ 32 ∷ 42 ∷ 32 ∷ 49 ∷ [])
unfolding trim_start trim_end chars lib.Utf8.encode
a_tab_is_kept = refl
