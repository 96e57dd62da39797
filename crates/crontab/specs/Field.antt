-- A field of a schedule, as cron(8) reads it: parts between commas, each a star, a number or a name, or a range of two, and after a
-- star or a range a step. What follows a part and is no comma is passed over, with all the rest of the field.
use Rattle.std.specs.Prelude.{ℕ, ◌+◌, ◌-◌, ◌*◌, ◌%◌, ◌^◌, Bool, true, false, ◌&&◌, ◌||◌, nat_lt, nat_le, List, [], ◌∷◌, length, fold, map, codes, Option, Some, None, option_map, option_and_then, if◌then◌else◌}
use Rattle.std.specs.Char.{to_ascii_lowercase}
use Rattle.std.specs.List.{list_all}
use Rattle.std.specs.Option.{option_or}
use Rattle.std.specs.Str.{bytes_eq}
use Rattle.crontab.specs.declared.bytes.Kind.TheVariants as kinds
use Rattle.crontab.specs.declared.field.Names.{Names}
use Rattle.crontab.specs.declared.field.Names.TheVariants as names
use Rattle.crontab.specs.declared.field.FieldBounds.{FieldBounds}
use Rattle.crontab.specs.declared.field.SteppedRange.{SteppedRange}
use Rattle.crontab.specs.Bytes.{is_digit, front, text_after, begins_with, rest_of}

-- ---- numbers

-- the greatest number of 63 bits, at which reading a number stops
abbrev pub most : ℕ
most = 9_223_372_036_854_775_807

abbrev pub smaller : ℕ → ℕ → ℕ
smaller a b = if nat_le a b then a else b

-- a number with one more digit after it
abbrev pub with_digit : ℕ → ℕ → ℕ
with_digit n digit = smaller (10 * n + (digit - 48)) most

-- the number that digits write, up to the greatest, in the 32 bits that cron keeps of it: from 2 ^ 31 on it stands for a negative one
abbrev pub number_of : List ℕ → ℕ
number_of digits = fold with_digit 0 digits % 2 ^ 32

-- ---- names

abbrev pub months : List (List ℕ)
months =
    codes "jan" ∷ codes "feb" ∷ codes "mar" ∷ codes "apr" ∷ codes "may" ∷ codes "jun" ∷ codes "jul" ∷ codes "aug"
    ∷ codes "sep" ∷ codes "oct" ∷ codes "nov" ∷ codes "dec" ∷ []

abbrev pub weekdays : List (List ℕ)
weekdays = codes "sun" ∷ codes "mon" ∷ codes "tue" ∷ codes "wed" ∷ codes "thu" ∷ codes "fri" ∷ codes "sat" ∷ []

-- the number of a name in a list, the first of which has this number
abbrev pub place_of : List ℕ → ℕ → List (List ℕ) → Option ℕ
place_of name n [] = None
place_of name n (x ∷ xs) = if bytes_eq name x then Some n else place_of name (n + 1) xs

-- the names of a field; of months and weekdays, in capitals or small
abbrev pub name_of : Names → List ℕ → Option ℕ
name_of names.None word = None
name_of names.Months word = place_of (map to_ascii_lowercase word) 1 months
name_of names.Weekdays word = place_of (map to_ascii_lowercase word) 0 weekdays

-- the value of a word of 1 to 999 letters and digits: a name of the field, or a number
abbrev pub value_of : Names → List ℕ → Option ℕ
value_of given word =
    if nat_lt 0 (length word) && nat_lt (length word) 1000
    then option_or (name_of given word) (if list_all is_digit word then Some (number_of word) else None)
    else None

-- the value that a text begins with, and what follows it
abbrev pub value_at : Names → List ℕ → Option (ℕ × List ℕ)
value_at given text = option_map (λ n. (n, text_after kinds.Alphanumeric text)) (value_of given (front kinds.Alphanumeric text))

-- ---- parts

abbrev pub is_within : FieldBounds → ℕ → Bool
is_within bounds n = nat_le bounds.first n && nat_le n bounds.last

-- a step: from 1 on, and below 2 ^ 31 also after the first value, where there is one
abbrev pub is_step : ℕ → ℕ → ℕ → Bool
is_step first last step = nat_lt 0 step && (nat_lt step (2 ^ 31) && (nat_lt last first || nat_lt (first + step) (2 ^ 31)))

-- a part whose bounds lie within the field's; a range that runs down names nothing
abbrev pub part_in_bounds : FieldBounds → Bool → ℕ → ℕ → ℕ → List ℕ → Option (SteppedRange × List ℕ)
part_in_bounds bounds star first last step rest =
    if is_within bounds first && (is_within bounds last && is_step first last step)
    then Some (record { is_star = star; first = first; last = last; step = step }, rest) else None

-- a star or a range, and the step after it
abbrev pub part_with_step : FieldBounds → Bool → ℕ → ℕ → List ℕ → Option (SteppedRange × List ℕ)
part_with_step bounds star first last rest =
    if begins_with 47 rest
    then option_and_then (λ s. part_in_bounds bounds star first last s.0 s.1) (value_at names.None (rest_of rest))
    else part_in_bounds bounds star first last 1 rest

-- what follows a value: a dash and the value at the other end, no slash, or nothing of the part
abbrev pub part_from_value : FieldBounds → ℕ → List ℕ → Option (SteppedRange × List ℕ)
part_from_value bounds first rest =
    if begins_with 45 rest
    then option_and_then (λ v. part_with_step bounds false first v.0 v.1) (value_at bounds.names (rest_of rest))
    else if begins_with 47 rest then None
    else part_in_bounds bounds false first first 1 rest

-- the part that a text begins with, and what follows it
abbrev pub part_of : FieldBounds → List ℕ → Option (SteppedRange × List ℕ)
part_of bounds text =
    if begins_with 42 text then part_with_step bounds true bounds.first bounds.last (rest_of text)
    else option_and_then (λ v. part_from_value bounds v.0 v.1) (value_at bounds.names text)
