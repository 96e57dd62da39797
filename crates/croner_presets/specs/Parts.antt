-- What a part of a field's list is, by its text alone, in capitals. Source: this crate's documentation of `Difference`.
use Rattle.std.specs.Prelude.{ℕ, ◌-◌, ◌%◌, Bool, true, false, not, ◌&&◌, ◌||◌, ◌==◌, nat_lt, nat_le, List, length, Option, Some, None, option_map, slice_index, take, codes}
use Rattle.std.specs.List.{list_any, slice_split, before_first, after_first}
use Rattle.std.specs.Option.{option_or}
use Rattle.std.specs.Str.{bytes_eq}
use Rattle.croner_base.specs.Part.{hash, dash, slash, letter_l, letter_w, number_of, contains_byte}
use Rattle.croner.specs.parser.Cut.{months, weekdays, place_of}
use Rattle.croner.specs.parser.Grammar.{star, question_mark, digit_0, digit_9}
use Rattle.croner_presets.specs.declared.part.Form.{Form}
use Rattle.croner_presets.specs.declared.part.Form.TheVariants as forms

-- ---- its pieces

-- what stands in front of the step
abbrev pub front_of_step : List ℕ → List ℕ
front_of_step part = before_first (λ b. b == slash) part

-- it has a step
abbrev pub has_step : List ℕ → Bool
has_step part = contains_byte slash part

-- what follows the first slash
abbrev pub step_of : List ℕ → List ℕ
step_of part = after_first (λ b. b == slash) part

-- in front of the step stands a dash
abbrev pub is_range : List ℕ → Bool
is_range part = contains_byte dash (front_of_step part)

-- the one side of a range, or all that stands in front of the step
abbrev pub low_side : List ℕ → List ℕ
low_side part = before_first (λ b. b == dash) (front_of_step part)

-- the other side of a range
abbrev pub high_side : List ℕ → List ℕ
high_side part = after_first (λ b. b == dash) (front_of_step part)

-- the same without what follows a `#`
abbrev pub high_value : List ℕ → List ℕ
high_value part = before_first (λ b. b == hash) (high_side part)

-- the first byte of a text
abbrev pub begins_with : ℕ → List ℕ → Bool
begins_with c text = slice_index text 0 == c

-- its last byte
abbrev pub ends_with : ℕ → List ℕ → Bool
ends_with c text = slice_index text (length text - 1) == c

-- a capital letter
abbrev pub is_capital : ℕ → Bool
is_capital c = nat_le 65 c && nat_le c 90

-- a decimal digit stands at this place
abbrev pub is_digit_at : ℕ → List ℕ → Bool
is_digit_at at text = nat_le digit_0 (slice_index text at) && nat_le (slice_index text at) digit_9

-- it begins with a star, or with a question mark in the place of one
abbrev pub is_starred : List ℕ → Bool
is_starred part = begins_with star part || begins_with question_mark part

-- ---- numbers and names

-- a number that passes a test
abbrev pub passes : (ℕ → Bool) → Option ℕ → Bool
passes test None = false
passes test (Some n) = test n

-- a text is the decimal digits of this number
abbrev pub is_number : ℕ → List ℕ → Bool
is_number n text = passes (λ m. m == n) (number_of text)

-- of a greater one
abbrev pub is_above : ℕ → List ℕ → Bool
is_above n text = passes (λ m. nat_lt n m) (number_of text)

-- there is a number
abbrev pub is_some : Option ℕ → Bool
is_some value = passes (λ m. true) value

-- the number of a month by its name, from 1
abbrev pub month_of : List ℕ → Option ℕ
month_of text = place_of text 1 months

-- the number of a weekday by its name, from 1 for Sunday
abbrev pub weekday_of : List ℕ → Option ℕ
weekday_of text = place_of text 1 weekdays

-- the same of either
abbrev pub name_of : List ℕ → Option ℕ
name_of text = option_or (month_of text) (weekday_of text)

-- the name of a month or of a weekday
abbrev pub is_name : List ℕ → Bool
is_name text = is_some (name_of text)

-- the name of Sunday
abbrev pub is_sunday : List ℕ → Bool
is_sunday text = bytes_eq text (codes "SUN")

-- it begins with this text
abbrev pub begins_with_text : List ℕ → List ℕ → Bool
begins_with_text front text = bytes_eq (take (length front) text) front

-- it begins with a name
abbrev pub begins_with_name : List ℕ → Bool
begins_with_name part = list_any (λ name. begins_with_text name part) months || list_any (λ name. begins_with_text name part) weekdays

-- a side of a part that isn't starred passes a test
abbrev pub has_side : (List ℕ → Bool) → List ℕ → Bool
has_side test part = not (is_starred part) && (test (low_side part) || (is_range part && test (high_side part)))

-- ---- the forms

-- a range to the name of Sunday
abbrev pub ends_at_sunday : List ℕ → Bool
ends_at_sunday part = is_range part && is_sunday (high_side part)

-- it begins at Sunday, by its name or as 0
abbrev pub starts_at_sunday : List ℕ → Bool
starts_at_sunday part = is_sunday (low_side part) || is_number 0 (low_side part)

-- the first number is greater than the second
abbrev pub descends : Option ℕ → Option ℕ → Bool
descends (Some a) (Some b) = nat_lt b a
descends a b = false

-- two numbers that go down, or two names
abbrev pub goes_down : List ℕ → Bool
goes_down part = is_range part
    && (descends (number_of (low_side part)) (number_of (high_value part)) || descends (name_of (low_side part)) (name_of (high_value part)))

-- a range from a name to a number, or from a number to a name
abbrev pub is_mixed : List ℕ → Bool
is_mixed part = is_range part
    && ((is_name (low_side part) && is_some (number_of (high_value part))) || (is_some (number_of (low_side part)) && is_name (high_value part)))

-- it ends in L or W, or has a `#`; the name of July is none of these
abbrev pub is_modified : List ℕ → Bool
is_modified part = not (is_starred part) && (not (bytes_eq part (codes "JUL"))
    && (contains_byte hash part || (ends_with letter_l part || ends_with letter_w part)))

-- a step greater than this after a star, a number or nothing
abbrev pub steps_above : ℕ → List ℕ → Bool
steps_above n part = has_step part && (not (is_range part) && (not (is_capital (slice_index part 0)) && is_above n (step_of part)))

-- a name, and after it another letter but the L
abbrev pub is_long_name : List ℕ → Bool
is_long_name part = begins_with_name part && (is_capital (slice_index part 3) && not (slice_index part 3 == letter_l))

-- a star or a question mark whose step is 1, if it has one
abbrev pub names_all : List ℕ → Bool
names_all part = (bytes_eq (low_side part) (codes "*") || bytes_eq (low_side part) (codes "?"))
    && (not (has_step part) || is_number 1 (step_of part))

-- the number of a weekday from 0 for Sunday, by its name too
abbrev pub weekday_number : List ℕ → Option ℕ
weekday_number text = option_or (number_of text) (option_map (λ n. n - 1) (weekday_of text))

-- a step leads from a weekday below 7 to the 7
abbrev pub leads_to_seven : Option ℕ → Option ℕ → Bool
leads_to_seven (Some day) (Some step) = nat_lt day 7 && (nat_lt 0 step && (7 - day) % step == 0)
leads_to_seven day step = false

-- a weekday, no range, with such a step
abbrev pub reaches_seven : List ℕ → Bool
reaches_seven part = has_step part && (not (is_range part) && leads_to_seven (weekday_number (low_side part)) (number_of (step_of part)))

-- the Monday-to-Friday day nearest to a day that not each month has
abbrev pub is_late_nearest : List ℕ → Bool
is_late_nearest part = bytes_eq part (codes "29W") || (bytes_eq part (codes "30W") || bytes_eq part (codes "31W"))

-- an L, as of a last day, follows a `#` that is no part of a range
abbrev pub is_last_by_hash : List ℕ → Bool
is_last_by_hash part = not (is_range part) && bytes_eq (after_first (λ b. b == hash) part) (codes "L")

-- a digit stands first, or a name
abbrev pub begins_with_value : List ℕ → Bool
begins_with_value text = is_digit_at 0 text || begins_with_name text

-- a range of two values that ends in L or W, and has no `#`; the days before a month's last are no range
abbrev pub is_range_modified : List ℕ → Bool
is_range_modified part = (is_range part && (begins_with_value part && begins_with_value (high_side part)))
    && ((ends_with letter_l part || ends_with letter_w part) && not (contains_byte hash part))

-- by this step other years are reached from 1970 than from the year 1
abbrev pub reaches_other_years : ℕ → Bool
reaches_other_years step = nat_lt 0 step && not (1969 % step == 0)

-- a star, or nothing, with such a step
abbrev pub is_year_step : List ℕ → Bool
is_year_step part = (bytes_eq (front_of_step part) (codes "*") || length (front_of_step part) == 0) && passes reaches_other_years (number_of (step_of part))

-- a part has this form
abbrev pub is_of : Form → List ℕ → Bool
is_of forms.Empty part = length part == 0
is_of forms.Seven part = has_side (is_number 7) part
is_of forms.ToSunday part = ends_at_sunday part && not (starts_at_sunday part)
is_of forms.SundayToSunday part = ends_at_sunday part && starts_at_sunday part
is_of forms.MonthName part = has_side (λ side. is_some (month_of side)) part
is_of forms.WeekdayName part = has_side (λ side. is_some (weekday_of side)) part
is_of forms.Modified part = is_modified part
is_of forms.WithoutStart part = begins_with slash part
is_of forms.Star part = bytes_eq part (codes "*")
is_of forms.Open part = bytes_eq part (codes "?")
is_of forms.QuestionMark part = bytes_eq (low_side part) (codes "?")
is_of forms.StarStep part = bytes_eq (front_of_step part) (codes "*") && is_above 1 (step_of part)
is_of forms.Zero part = not (is_starred part) && is_number 0 (low_side part)
is_of forms.Down part = goes_down part
is_of forms.Mixed part = is_mixed part
is_of (forms.StepAbove n) part = steps_above n part
is_of forms.StepOfZero part = has_step part && is_number 0 (step_of part)
is_of forms.LongName part = is_long_name part
is_of forms.StepOfName part = begins_with_name part && has_step part
is_of forms.All part = names_all part
is_of forms.ReachesSeven part = reaches_seven part
is_of forms.LateNearest part = is_late_nearest part
is_of forms.Nth part = not (is_range part) && contains_byte hash part
is_of forms.NthOfRange part = is_range part && contains_byte hash (high_side part)
is_of forms.LastByHash part = is_last_by_hash part
is_of forms.Nearest part = not (is_range part) && ends_with letter_w part
is_of forms.RangeModified part = is_range_modified part
is_of forms.YearStep part = is_year_step part

-- a part of the field's list has this form
abbrev pub has_part : Form → List ℕ → Bool
has_part form field = list_any (is_of form) (slice_split (λ b. b == 44) field)
