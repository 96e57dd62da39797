-- Worked rows of fields: what each text marks, and whether it is accepted, computed from the definitions.
use Rattle.std.specs.Prelude.{◌≡◌, ℕ, Bool, true, false, List, [], ◌∷◌, codes, refl}
use Rattle.std.specs.List.{list_any}
use Rattle.std.specs.Str.{trim_start, trim_end, chars}
use Rattle.croner_base.specs.Field.{Shape, Field, new_shape, empty_field, default_field, with_sloppy, marked_values}
use Rattle.croner_base.specs.Limits.{first_year, last_year}
use Rattle.croner_base.specs.Part.{field_of, stepping}
use Rattle.croner_base.specs.Reading.{Reading, applied, marks, steps, stars}

-- the fields of a pattern, and the weekdays that are counted from 1
abbrev minutes : Shape
minutes = new_shape 0 59 0 0

abbrev days : Shape
days = new_shape 1 31 128 0

abbrev weekdays : Shape
weekdays = new_shape 0 7 62 0

abbrev weekdays_from_one : Shape
weekdays_from_one = new_shape 0 7 62 1

abbrev years : Shape
years = new_shape first_year last_year 0 0

abbrev sloppy_minutes : Shape
sloppy_minutes = (with_sloppy (empty_field (new_shape 0 59 0 0)) true).shape

-- whether it is accepted, the values with a modifier of the bits, enabled features, step and wildcard mark
record Outcome : Type 0 where
  accepted : Bool
  values : List ℕ
  enabled : ℕ
  step : ℕ
  wildcard : Bool

abbrev outcome_of : ℕ → Field → Reading → Outcome
outcome_of bits f reading = record {
  accepted = reading.accepted;
  values = marked_values bits (applied reading.done f);
  enabled = (applied reading.done f).enabled;
  step = (applied reading.done f).step;
  wildcard = (applied reading.done f).wildcard;
}

abbrev outcome : ℕ → Shape → List ℕ → Outcome
outcome bits shape text = outcome_of bits (empty_field shape) (field_of shape text)

abbrev accepts : Shape → List ℕ → Bool
accepts shape text = (field_of shape text).accepted

abbrev ok : List ℕ → ℕ → Bool → Outcome
ok values step wildcard = record { accepted = true; values = values; enabled = 0; step = step; wildcard = wildcard }

abbrev no : List ℕ → ℕ → ℕ → Bool → Outcome
no values enabled step wildcard = record { accepted = false; values = values; enabled = enabled; step = step; wildcard = wildcard }

-- numbers, ranges, lists and steps

number : outcome 1 minutes (codes "5") ≡ ok (5 ∷ []) 1 false
unfolding trim_start trim_end chars lib.Utf8.encode
number = refl

plus : outcome 1 minutes (codes "+5") ≡ ok (5 ∷ []) 1 false
unfolding trim_start trim_end chars lib.Utf8.encode
plus = refl

zeros : outcome 1 minutes (codes "00000000000000000005") ≡ ok (5 ∷ []) 1 false
unfolding trim_start trim_end chars lib.Utf8.encode
zeros = refl

list : outcome 1 minutes (codes ",,5,,") ≡ ok (5 ∷ []) 1 false
unfolding trim_start trim_end chars lib.Utf8.encode
list = refl

commas : outcome 1 minutes (codes ",") ≡ ok ([]) 1 false
unfolding trim_start trim_end chars lib.Utf8.encode
commas = refl

range : outcome 1 minutes (codes "1-5") ≡ ok (1 ∷ 2 ∷ 3 ∷ 4 ∷ 5 ∷ []) 1 false
unfolding trim_start trim_end chars lib.Utf8.encode
range = refl

trimmed : outcome 1 minutes (codes " 1 - 3 , 7 ") ≡ ok (1 ∷ 2 ∷ 3 ∷ 7 ∷ []) 1 false
unfolding trim_start trim_end chars lib.Utf8.encode
trimmed = refl

every_twenty : outcome 1 minutes (codes "*/20") ≡ ok (0 ∷ 20 ∷ 40 ∷ []) 20 true
unfolding trim_start trim_end chars lib.Utf8.encode
every_twenty = refl

stepped_range : outcome 1 minutes (codes "10-20/4") ≡ ok (10 ∷ 14 ∷ 18 ∷ []) 4 false
unfolding trim_start trim_end chars lib.Utf8.encode
stepped_range = refl

first_fault : outcome 1 minutes (codes "1,2,99,3") ≡ no (1 ∷ 2 ∷ []) 0 1 false
unfolding trim_start trim_end chars lib.Utf8.encode
first_fault = refl

no_number : list_any (accepts minutes) (codes "++5" ∷ codes "+" ∷ codes "60" ∷ codes "65536" ∷ codes "5-" ∷ codes "-5" ∷ codes "*/" ∷ codes "/" ∷ codes "5/" ∷ codes "1-2-3" ∷ codes "*/2/3" ∷ codes "5-3" ∷ codes "10-60" ∷ codes "*,5" ∷ codes "*,*" ∷ codes " *" ∷ codes "5 5" ∷ []) ≡ false
unfolding trim_start trim_end chars lib.Utf8.encode
no_number = refl

-- the step is that of the last step part, and the wildcard mark stays

last_step : outcome 1 minutes (codes "0-0/7,0-0/1") ≡ ok (0 ∷ []) 1 false
unfolding trim_start trim_end chars lib.Utf8.encode
last_step = refl

twice : outcome 1 minutes (codes "5,5") ≡ ok (5 ∷ []) 1 false
unfolding trim_start trim_end chars lib.Utf8.encode
twice = refl

star_step_before : outcome 1 minutes (codes "*/60,0-0/1") ≡ ok (0 ∷ []) 1 true
unfolding trim_start trim_end chars lib.Utf8.encode
star_step_before = refl

no_step : outcome 1 days (codes "5,*/0,7") ≡ no (5 ∷ []) 0 0 false
unfolding trim_start trim_end chars lib.Utf8.encode
no_step = refl

long_step : outcome 1 minutes (codes "*/65535") ≡ ok (0 ∷ []) 65535 true
unfolding trim_start trim_end chars lib.Utf8.encode
long_step = refl

number_and_long_step : outcome 1 minutes (codes "1,*/65535") ≡ ok (0 ∷ 1 ∷ []) 65535 true
unfolding trim_start trim_end chars lib.Utf8.encode
number_and_long_step = refl

one_value_long_step : outcome 1 minutes (codes "0-0/65535") ≡ ok (0 ∷ []) 65535 false
unfolding trim_start trim_end chars lib.Utf8.encode
one_value_long_step = refl

past_the_numbers : outcome 1 minutes (codes "1-1/65535") ≡ no (1 ∷ []) 0 65535 false
unfolding trim_start trim_end chars lib.Utf8.encode
past_the_numbers = refl

day_and_long_step : outcome 1 days (codes "*/65534") ≡ ok (1 ∷ []) 65534 true
unfolding trim_start trim_end chars lib.Utf8.encode
day_and_long_step = refl

day_past_the_numbers : outcome 1 days (codes "*/65535") ≡ no (1 ∷ []) 0 65535 true
unfolding trim_start trim_end chars lib.Utf8.encode
day_past_the_numbers = refl

year_past_the_numbers : list_any (accepts years) (codes "*/65535" ∷ []) ≡ false
unfolding trim_start trim_end chars lib.Utf8.encode
year_past_the_numbers = refl

weekday_and_long_step : outcome 1 weekdays (codes "*/65535") ≡ ok (0 ∷ []) 65535 true
unfolding trim_start trim_end chars lib.Utf8.encode
weekday_and_long_step = refl

weekday_from_one_past_the_numbers : list_any (accepts weekdays_from_one) (codes "*/65535" ∷ []) ≡ false
unfolding trim_start trim_end chars lib.Utf8.encode
weekday_from_one_past_the_numbers = refl

-- the two values at both ends of a field up to 65535 are marked before its step is refused
both_ends : field_of (new_shape 0 65535 0 0) (codes "*/65535") ≡ record { done = steps 65535 ∷ stars ∷ marks 0 1 ∷ marks 65535 1 ∷ []; accepted = false }
unfolding trim_start trim_end chars lib.Utf8.encode
both_ends = refl

direct_step : outcome_of 1 (empty_field minutes) (stepping minutes (codes "10-20/0")) ≡ no [] 0 0 false
direct_step = refl

direct_step_untrimmed : (stepping minutes (codes " */5")).accepted ≡ false
direct_step_untrimmed = refl

-- sloppy ranges

sloppy_start : outcome 1 sloppy_minutes (codes "0/10") ≡ ok (0 ∷ 10 ∷ 20 ∷ 30 ∷ 40 ∷ 50 ∷ []) 10 false
unfolding trim_start trim_end chars lib.Utf8.encode
sloppy_start = refl

sloppy_start_of_five : outcome 1 sloppy_minutes (codes "5/10") ≡ ok (5 ∷ 15 ∷ 25 ∷ 35 ∷ 45 ∷ 55 ∷ []) 10 false
unfolding trim_start trim_end chars lib.Utf8.encode
sloppy_start_of_five = refl

sloppy_empty : outcome 1 sloppy_minutes (codes "/10") ≡ ok (0 ∷ 10 ∷ 20 ∷ 30 ∷ 40 ∷ 50 ∷ []) 10 true
unfolding trim_start trim_end chars lib.Utf8.encode
sloppy_empty = refl

sloppy_past_the_numbers : outcome 1 sloppy_minutes (codes "5/65535") ≡ no (5 ∷ []) 0 65535 false
unfolding trim_start trim_end chars lib.Utf8.encode
sloppy_past_the_numbers = refl

strict_start : outcome 1 minutes (codes "0/10") ≡ no ([]) 0 10 false
unfolding trim_start trim_end chars lib.Utf8.encode
strict_start = refl

strict_empty : outcome 1 minutes (codes "/10") ≡ no ([]) 0 10 false
unfolding trim_start trim_end chars lib.Utf8.encode
strict_empty = refl

-- nth and last weekdays

second_friday : outcome 4 weekdays (codes "5#2") ≡ ok (5 ∷ []) 1 false
unfolding trim_start trim_end chars lib.Utf8.encode
second_friday = refl

second_with_plus : outcome 4 weekdays (codes "5#+2") ≡ ok (5 ∷ []) 1 false
unfolding trim_start trim_end chars lib.Utf8.encode
second_with_plus = refl

seven : outcome 4 weekdays (codes "7#2") ≡ ok (7 ∷ []) 1 false
unfolding trim_start trim_end chars lib.Utf8.encode
seven = refl

last_friday : outcome 64 weekdays (codes "5#L") ≡ ok (5 ∷ []) 1 false
unfolding trim_start trim_end chars lib.Utf8.encode
last_friday = refl

last_friday_2 : outcome 64 weekdays (codes "5L") ≡ ok (5 ∷ []) 1 false
unfolding trim_start trim_end chars lib.Utf8.encode
last_friday_2 = refl

last_friday_3 : outcome 64 weekdays (codes "5LL") ≡ ok (5 ∷ []) 1 false
unfolding trim_start trim_end chars lib.Utf8.encode
last_friday_3 = refl

last_friday_4 : outcome 64 weekdays (codes "5L3L") ≡ ok (5 ∷ []) 1 false
unfolding trim_start trim_end chars lib.Utf8.encode
last_friday_4 = refl

last_friday_5 : outcome 64 weekdays (codes "5#2L") ≡ ok (5 ∷ []) 1 false
unfolding trim_start trim_end chars lib.Utf8.encode
last_friday_5 = refl

last_friday_6 : outcome 64 weekdays (codes "5#*L") ≡ ok (5 ∷ []) 1 false
unfolding trim_start trim_end chars lib.Utf8.encode
last_friday_6 = refl

second_of_each : outcome 4 weekdays (codes "1-5#2") ≡ ok (1 ∷ 2 ∷ 3 ∷ 4 ∷ 5 ∷ []) 1 false
unfolding trim_start trim_end chars lib.Utf8.encode
second_of_each = refl

second_of_all : outcome 4 weekdays (codes "*/1#2") ≡ ok (0 ∷ 1 ∷ 2 ∷ 3 ∷ 4 ∷ 5 ∷ 6 ∷ 7 ∷ []) 1 true
unfolding trim_start trim_end chars lib.Utf8.encode
second_of_all = refl

last_of_each_second : outcome 64 weekdays (codes "*/2#L") ≡ ok (0 ∷ 2 ∷ 4 ∷ 6 ∷ []) 2 true
unfolding trim_start trim_end chars lib.Utf8.encode
last_of_each_second = refl

last_of_each_second_2 : outcome 64 weekdays (codes "*/2#/L") ≡ ok (0 ∷ 2 ∷ 4 ∷ 6 ∷ []) 2 true
unfolding trim_start trim_end chars lib.Utf8.encode
last_of_each_second_2 = refl

last_of_range : outcome 64 weekdays (codes "1-5#-L") ≡ ok (1 ∷ 2 ∷ 3 ∷ 4 ∷ 5 ∷ []) 1 false
unfolding trim_start trim_end chars lib.Utf8.encode
last_of_range = refl

last_of_range_with_spaces : outcome 64 weekdays (codes "1-5 #L") ≡ ok (1 ∷ 2 ∷ 3 ∷ 4 ∷ 5 ∷ []) 1 false
unfolding trim_start trim_end chars lib.Utf8.encode
last_of_range_with_spaces = refl

no_plain_one : outcome 1 weekdays (codes "1-5#2") ≡ ok ([]) 1 false
unfolding trim_start trim_end chars lib.Utf8.encode
no_plain_one = refl

no_nth : list_any (accepts weekdays) (codes "5#" ∷ codes "5#6" ∷ codes "5#0" ∷ codes "5L3" ∷ codes "L5L" ∷ codes "1-5L" ∷ codes "*/2L" ∷ codes "5#-L" ∷ codes "*#2" ∷ codes "5 L" ∷ codes "5l" ∷ codes "5#2#3" ∷ []) ≡ false
unfolding trim_start trim_end chars lib.Utf8.encode
no_nth = refl

-- weekdays counted from 1

from_one : outcome 1 weekdays_from_one (codes "1,7") ≡ ok (0 ∷ 6 ∷ []) 1 false
unfolding trim_start trim_end chars lib.Utf8.encode
from_one = refl

all_from_one : outcome 1 weekdays_from_one (codes "*") ≡ ok (0 ∷ 1 ∷ 2 ∷ 3 ∷ 4 ∷ 5 ∷ 6 ∷ 7 ∷ []) 1 true
unfolding trim_start trim_end chars lib.Utf8.encode
all_from_one = refl

every_second_from_one : outcome 1 weekdays_from_one (codes "*/2") ≡ ok (0 ∷ 2 ∷ 4 ∷ 6 ∷ []) 2 true
unfolding trim_start trim_end chars lib.Utf8.encode
every_second_from_one = refl

below_the_first : outcome 1 weekdays_from_one (codes "0-7/2") ≡ no ([]) 0 2 false
unfolding trim_start trim_end chars lib.Utf8.encode
below_the_first = refl

not_from_one : list_any (accepts weekdays_from_one) (codes "0" ∷ codes "8" ∷ codes "0#2" ∷ codes "0-6" ∷ []) ≡ false
unfolding trim_start trim_end chars lib.Utf8.encode
not_from_one = refl

-- days of the month

nearest : outcome 128 days (codes "15W") ≡ ok (15 ∷ []) 1 false
unfolding trim_start trim_end chars lib.Utf8.encode
nearest = refl

nearest_and_more : outcome 128 days (codes "15W20") ≡ ok (15 ∷ []) 1 false
unfolding trim_start trim_end chars lib.Utf8.encode
nearest_and_more = refl

nearest_and_more_2 : outcome 128 days (codes "15W?") ≡ ok (15 ∷ []) 1 false
unfolding trim_start trim_end chars lib.Utf8.encode
nearest_and_more_2 = refl

last_day : outcome 1 days (codes "L") ≡ record { accepted = true; values = []; enabled = 64; step = 1; wildcard = false }
unfolding trim_start trim_end chars lib.Utf8.encode
last_day = refl

last_day_2 : outcome 1 days (codes "l") ≡ record { accepted = true; values = []; enabled = 64; step = 1; wildcard = false }
unfolding trim_start trim_end chars lib.Utf8.encode
last_day_2 = refl

last_weekday : outcome 1 days (codes "LW") ≡ record { accepted = true; values = []; enabled = 192; step = 1; wildcard = false }
unfolding trim_start trim_end chars lib.Utf8.encode
last_weekday = refl

last_weekday_2 : outcome 1 days (codes "lW") ≡ record { accepted = true; values = []; enabled = 192; step = 1; wildcard = false }
unfolding trim_start trim_end chars lib.Utf8.encode
last_weekday_2 = refl

no_day : list_any (accepts days) (codes "5L" ∷ codes "5#2" ∷ codes "1-5W" ∷ codes "0W" ∷ codes "32W" ∷ codes "15W-20" ∷ codes "15W/2" ∷ codes "15w" ∷ codes "Lw" ∷ codes "15 W" ∷ codes "W" ∷ codes "0" ∷ codes "32" ∷ []) ≡ false
unfolding trim_start trim_end chars lib.Utf8.encode
no_day = refl

-- a field that supports less

last_of_minutes : outcome 64 minutes (codes "1-5#L") ≡ ok (1 ∷ 2 ∷ 3 ∷ 4 ∷ 5 ∷ []) 1 false
unfolding trim_start trim_end chars lib.Utf8.encode
last_of_minutes = refl

last_minute : outcome 1 minutes (codes "L") ≡ record { accepted = true; values = []; enabled = 64; step = 1; wildcard = false }
unfolding trim_start trim_end chars lib.Utf8.encode
last_minute = refl

half_a_last_weekday : outcome 1 minutes (codes "LW") ≡ no ([]) 64 1 false
unfolding trim_start trim_end chars lib.Utf8.encode
half_a_last_weekday = refl

no_last_minute : list_any (accepts minutes) (codes "5L" ∷ codes "5W" ∷ codes "5#2" ∷ codes "1-5#2" ∷ []) ≡ false
unfolding trim_start trim_end chars lib.Utf8.encode
no_last_minute = refl

unsupported_question : marked_values 3 (applied (field_of minutes (codes "5")).done (empty_field minutes)) ≡ []
unfolding trim_start trim_end chars lib.Utf8.encode
unsupported_question = refl

several_questions : marked_values 65 (applied (field_of minutes (codes "5,1-2#L")).done (empty_field minutes)) ≡ 1 ∷ 2 ∷ 5 ∷ []
unfolding trim_start trim_end chars lib.Utf8.encode
several_questions = refl

-- a field that holds nothing

no_value : list_any (accepts (new_shape 0 0 0 0)) (codes "0" ∷ codes "0-0" ∷ codes "*/1" ∷ []) ≡ false
unfolding trim_start trim_end chars lib.Utf8.encode
no_value = refl

star_of_nothing : outcome 1 (new_shape 0 0 0 0) (codes "*") ≡ no ([]) 0 1 true
unfolding trim_start trim_end chars lib.Utf8.encode
star_of_nothing = refl

default_star : outcome_of 1 default_field (field_of default_field.shape (codes "*")) ≡ no [] 0 0 true
unfolding trim_start trim_end chars lib.Utf8.encode
default_star = refl
