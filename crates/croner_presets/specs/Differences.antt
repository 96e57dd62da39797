-- Where a program reads a pattern otherwise than this crate's parser with the program's settings: each difference is told exactly where its
-- definition here holds.
use Rattle.std.specs.Prelude.{◌≡◌, ℕ, ◌-◌, Bool, false, not, ◌&&◌, ◌||◌, ◌==◌, nat_lt, List, [], ◌∷◌, length, filter, Option, Some, None, Result, Ok, Err, codes, if◌then◌else◌}
use Rattle.std.specs.List.{list_any, after_first}
use Rattle.std.specs.Str.{bytes_eq, str_to_ascii_uppercase}
use Rattle.croner_base.specs.Part.{hash, comma, slash, letter_l, contains_byte, plain_bit}
use Rattle.croner_pattern.specs.Meaning.{Meaning}
use Rattle.croner_base.specs.Field.{marked_values}
use Rattle.croner.specs.parser.Grammar.{Refusal, Texts, fields_of, plus, question_mark, at_sign, outcome}
use Rattle.croner.specs.parser.Words.{AreWords}
use Rattle.croner_presets.specs.declared.preset.Preset.{Preset}
use Rattle.croner_presets.specs.declared.difference.Difference.{Difference}
use Rattle.croner_presets.specs.declared.difference.Difference.TheVariants as its
use Rattle.croner_presets.specs.declared.part.Form.{Form}
use Rattle.croner_presets.specs.declared.part.Form.TheVariants as forms
use Rattle.croner_presets.specs.Parts.{begins_with, begins_with_text, is_capital, is_digit_at, has_part}
use Rattle.croner_presets.specs.Presets.{settings_of, differences_looked_for}

-- ---- the text, whatever its fields

-- the first word, and none where there are no words
abbrev pub first_word : List (List ℕ) → List ℕ
first_word [] = []
first_word (word ∷ words) = word

-- the first word begins with `@`
abbrev pub is_nickname : List (List ℕ) → Bool
is_nickname words = begins_with at_sign (first_word words)

-- a letter of the text as it was given is a capital one
abbrev pub has_capital : List ℕ → Bool
has_capital text = list_any is_capital text

-- a nickname, and a capital letter in the text
abbrev pub is_nickname_in_capitals : List ℕ → List (List ℕ) → Bool
is_nickname_in_capitals text words = is_nickname words && has_capital text

-- the one word is `@midnight`
abbrev pub is_midnight : List (List ℕ) → Bool
is_midnight words = bytes_eq (first_word words) (codes "@MIDNIGHT") && length words == 1

-- `@every`, and a word after it
abbrev pub is_every : List (List ℕ) → Bool
is_every words = bytes_eq (first_word words) (codes "@EVERY") && length words == 2

-- the text begins with `TZ=` or `CRON_TZ=`, and has a word more
abbrev pub has_zone : List ℕ → List (List ℕ) → Bool
has_zone text words = (begins_with_text (codes "TZ=") text || begins_with_text (codes "CRON_TZ=") text) && nat_lt 1 (length words)

-- ---- the fields

-- a part of any field has this form
abbrev pub any_field : Form → Texts → Bool
any_field form t =
    has_part form t.seconds || (has_part form t.minutes || (has_part form t.hours || (has_part form t.days
    || (has_part form t.months || (has_part form t.days_of_week || has_part form t.years)))))

-- a part of a day field has this form
abbrev pub any_day_field : Form → Texts → Bool
any_day_field form t = has_part form t.days || has_part form t.days_of_week

-- a part of a field that has names has this form
abbrev pub any_named_field : Form → Texts → Bool
any_named_field form t = has_part form t.months || has_part form t.days_of_week

-- the name of a month or of a weekday is a side of a part
abbrev pub has_name_without : List ℕ → Bool
has_name_without field = has_part forms.MonthName field || has_part forms.WeekdayName field

-- so it is in a field that has no names, or months have the name of a weekday, or weekdays that of a month
abbrev pub has_other_name : Texts → Bool
has_other_name t =
    has_name_without t.seconds || (has_name_without t.minutes || (has_name_without t.hours || (has_name_without t.days
    || (has_part forms.WeekdayName t.months || (has_part forms.MonthName t.days_of_week || has_name_without t.years)))))

-- the weekdays begin with a plus
abbrev pub has_plus : Texts → Bool
has_plus t = begins_with plus t.days_of_week

-- after it stands a digit
abbrev pub has_plus_digit : Texts → Bool
has_plus_digit t = has_plus t && is_digit_at 1 t.days_of_week

-- seconds, minutes, hours or months have a question mark
abbrev pub has_question_elsewhere : Texts → Bool
has_question_elsewhere t =
    has_part forms.QuestionMark t.minutes || (has_part forms.QuestionMark t.hours || has_part forms.QuestionMark t.months)

-- both day fields have a question mark, or neither
abbrev pub has_not_one_open_day : Texts → Bool
has_not_one_open_day t =
    if contains_byte question_mark t.days then contains_byte question_mark t.days_of_week else not (contains_byte question_mark t.days_of_week)

-- a list of more parts, and one of them is a star
abbrev pub has_star_in_list : List ℕ → Bool
has_star_in_list field = contains_byte comma field && has_part forms.Star field

-- a question mark stands for a star here, too
abbrev pub has_star_in_day_list : List ℕ → Bool
has_star_in_day_list field = contains_byte comma field && (has_part forms.Star field || has_part forms.Open field)

-- the same of any field
abbrev pub has_star_in_any_list : Texts → Bool
has_star_in_any_list t =
    has_star_in_list t.seconds || (has_star_in_list t.minutes || (has_star_in_list t.hours || (has_star_in_day_list t.days
    || (has_star_in_list t.months || (has_star_in_day_list t.days_of_week || has_star_in_list t.years)))))

-- a question mark, and a step
abbrev pub has_step_of_open_day : List ℕ → Bool
has_step_of_open_day field = contains_byte question_mark field && contains_byte slash field

-- an L in a list of more parts
abbrev pub has_last_in_list : List ℕ → Bool
has_last_in_list field = contains_byte letter_l field && contains_byte comma field

-- two `#`
abbrev pub has_second_hash : List ℕ → Bool
has_second_hash field = contains_byte hash (after_first (λ b. b == hash) field)

-- one `#` in a list of more parts, behind no range
abbrev pub has_nth_in_list : List ℕ → Bool
has_nth_in_list field = (contains_byte comma field && has_part forms.Nth field) && not (has_second_hash field)

-- a W in a list of more parts, behind no range, and no L
abbrev pub has_nearest_in_list : List ℕ → Bool
has_nearest_in_list field = (contains_byte comma field && has_part forms.Nearest field) && not (contains_byte letter_l field)

-- a step greater than the greatest value of its field
abbrev pub has_large_step : Texts → Bool
has_large_step t =
    has_part (forms.StepAbove 59) t.seconds || (has_part (forms.StepAbove 59) t.minutes || (has_part (forms.StepAbove 23) t.hours
    || (has_part (forms.StepAbove 31) t.days || (has_part (forms.StepAbove 12) t.months || has_part (forms.StepAbove 7) t.days_of_week))))

-- so many days before the last: `L-` and a digit, and no list
abbrev pub has_days_before_last : List ℕ → Bool
has_days_before_last field =
    (begins_with_text (codes "L-") field && not (contains_byte comma field)) && is_digit_at 2 field

-- a range that goes down, in any field but the years
abbrev pub has_range_down : Texts → Bool
has_range_down t =
    has_part forms.Down t.seconds || (has_part forms.Down t.minutes || (has_part forms.Down t.hours || (has_part forms.Down t.days
    || (has_part forms.Down t.months || has_part forms.Down t.days_of_week))))

-- a lone star, or a lone question mark
abbrev pub is_lone_star : List ℕ → Bool
is_lone_star field = bytes_eq field (codes "*") || bytes_eq field (codes "?")

-- no day field is a lone star, and a part of one names all
abbrev pub has_star_among_days : Texts → Bool
has_star_among_days t = not (is_lone_star t.days || is_lone_star t.days_of_week) && any_day_field forms.All t

-- ---- the meaning

-- two values of a list pass a test
abbrev pub any_pair : (ℕ → ℕ → Bool) → List ℕ → Bool
any_pair test values = list_any (λ a. list_any (test a) values) values

-- a minute, and one of the same hour fewer than five after it
abbrev pub is_close : ℕ → ℕ → Bool
is_close a b = nat_lt a b && nat_lt (b - a) 5

-- a minute, and one of the next hour fewer than five after it
abbrev pub is_close_over_turn : ℕ → ℕ → Bool
is_close_over_turn a b = nat_lt b a && nat_lt 55 (a - b)

-- an hour, and the next one
abbrev pub is_next : ℕ → ℕ → Bool
is_next a b = nat_lt a b && (b - a) == 1

-- two minutes of an hour lie fewer than five apart, or two of an hour and the next one, both of which are named
abbrev pub is_frequent_by : List ℕ → List ℕ → Bool
is_frequent_by hours minutes = any_pair is_close minutes || (any_pair is_next hours && any_pair is_close_over_turn minutes)

-- `Frequent`: so it is of what is named
abbrev pub is_frequent : Meaning → Bool
is_frequent m = is_frequent_by (marked_values plain_bit m.hours) (marked_values plain_bit m.minutes)

-- the same of what a text means
abbrev pub means_frequent : Result Meaning Refusal → Bool
means_frequent (Ok m) = is_frequent m
means_frequent (Err refusal) = false

-- ---- all of them

-- a test of the fields of a text that has as many as the settings accept
abbrev pub of_fields : (Texts → Bool) → Option Texts → Bool
of_fields test None = false
of_fields test (Some t) = test t

-- the difference holds of fields
abbrev pub holds_of_fields : Texts → Difference → Bool
holds_of_fields t its.SundayAsSeven = has_part forms.Seven t.days_of_week
holds_of_fields t its.RangeToSunday = has_part forms.ToSunday t.days_of_week
holds_of_fields t its.OtherName = has_other_name t
holds_of_fields t its.DayModifier = any_day_field forms.Modified t
holds_of_fields t its.QuestionMark = contains_byte question_mark t.days || contains_byte question_mark t.days_of_week
holds_of_fields t its.Plus = has_plus t
holds_of_fields t its.PlusBeforeName = has_plus t && not (has_plus_digit t)
holds_of_fields t its.StepWithoutStart = any_field forms.WithoutStart t
holds_of_fields t its.EmptyPart = any_field forms.Empty t
holds_of_fields t its.NotOneOpenDay = has_not_one_open_day t
holds_of_fields t its.LastInList = has_last_in_list t.days || has_last_in_list t.days_of_week
holds_of_fields t its.LastByHash = has_part forms.LastByHash t.days_of_week
holds_of_fields t its.SecondNth = has_second_hash t.days_of_week
holds_of_fields t its.LargeStep = has_large_step t
holds_of_fields t its.MixedRange = any_named_field forms.Mixed t
holds_of_fields t its.QuestionMarkElsewhere = has_question_elsewhere t
holds_of_fields t its.StarInList = has_star_in_any_list t
holds_of_fields t its.DaysBeforeLast = has_days_before_last t.days
holds_of_fields t its.RangeDown = has_range_down t
holds_of_fields t its.RangeModified = any_day_field forms.RangeModified t
holds_of_fields t its.StepOfZero = any_field forms.StepOfZero t
holds_of_fields t its.LongName = any_named_field forms.LongName t
holds_of_fields t its.DayZero = has_part forms.Zero t.days
holds_of_fields t its.StarAmongDays = has_star_among_days t
holds_of_fields t its.SundayToSunday = has_part forms.SundayToSunday t.days_of_week
holds_of_fields t its.PlusBeforeNumber = has_plus_digit t
holds_of_fields t its.StepToSunday = has_part forms.ReachesSeven t.days_of_week
holds_of_fields t its.NthInList = has_nth_in_list t.days_of_week
holds_of_fields t its.NthOfRange = has_part forms.NthOfRange t.days_of_week
holds_of_fields t its.NearestInList = has_nearest_in_list t.days
holds_of_fields t its.LateNearest = has_part forms.LateNearest t.days
holds_of_fields t its.LoneLastWeekday = bytes_eq t.days_of_week (codes "L")
holds_of_fields t its.StepOfName = any_named_field forms.StepOfName t
holds_of_fields t its.StepOfOpenDay = has_step_of_open_day t.days || has_step_of_open_day t.days_of_week
holds_of_fields t its.DayStepFromZero = has_part forms.StarStep t.days
holds_of_fields t its.YearStepFrom1970 = has_part forms.YearStep t.years
holds_of_fields t its.NicknameInCapitals = false
holds_of_fields t its.Nickname = false
holds_of_fields t its.Midnight = false
holds_of_fields t its.Every = false
holds_of_fields t its.ZoneInFront = false
holds_of_fields t its.Frequent = false

-- the difference holds of a text with these words, raised to capitals
abbrev pub holds : Preset → List ℕ → List (List ℕ) → Difference → Bool
holds preset text words its.NicknameInCapitals = is_nickname_in_capitals text words
holds preset text words its.Nickname = is_nickname words
holds preset text words its.Midnight = is_midnight words && not (has_capital text)
holds preset text words its.Every = is_every words && not (has_capital text)
holds preset text words its.ZoneInFront = has_zone text words
holds preset text words its.Frequent = means_frequent (outcome (settings_of preset) text)
holds preset text words other = of_fields (λ t. holds_of_fields t other) (fields_of (settings_of preset) words)

-- these are the differences of a text, in order, and there is no other
abbrev pub AreDifferences : Preset → List ℕ → List Difference → Type 0
AreDifferences preset text found =
    (words : List (List ℕ)) × AreWords (str_to_ascii_uppercase text) words × (found ≡ filter (holds preset text words) (differences_looked_for preset))
