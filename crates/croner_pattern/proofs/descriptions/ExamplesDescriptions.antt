-- Worked lists and descriptions, computed from the definitions.
use Rattle.std.proofs.Common.{◌≡◌, ℕ, Bool, true, false, List, [], ◌∷◌, refl}
use Rattle.std.specs.Prelude.{codes, encode_utf8_all}
use Rattle.std.specs.Fmt.{digits}
use Rattle.std.specs.Str.{trim_start, trim_end, chars}
use Rattle.croner_base.specs.Field.{Shape, Field, empty_field, new_shape}
use Rattle.croner_base.specs.Part.{field_of}
use Rattle.croner_base.specs.Reading.{applied}
use Rattle.croner_words.specs.Wording.{Wording}
use Rattle.croner_words.specs.English.{english}
use Rattle.croner_words.specs.Swedish.{swedish}
use Rattle.croner_pattern.specs.Lists.{text_list, number_list}
use Rattle.croner_pattern.specs.Description.{description}
use Rattle.croner_pattern.specs.Meaning.{Meaning}
use Rattle.croner_pattern.specs.Shapes.{sixty_shape, hour_shape, day_shape, month_shape, weekday_shape}

-- lists of numbers and of texts
none : number_list (codes "and") [] ≡ []
unfolding digits
none = refl

a_pair : number_list (codes "and") (4 ∷ 5 ∷ []) ≡ codes "4 and 5"
unfolding digits
a_pair = refl

a_range : number_list (codes "and") (4 ∷ 5 ∷ 6 ∷ []) ≡ codes "4-6"
unfolding digits
a_range = refl

a_range_and_one : number_list (codes "and") (1 ∷ 2 ∷ 3 ∷ 4 ∷ 5 ∷ 6 ∷ 7 ∷ 15 ∷ []) ≡ codes "1-7 and 15"
unfolding digits
a_range_and_one = refl

many : number_list (codes "and") (18 ∷ 20 ∷ 21 ∷ 24 ∷ 25 ∷ 26 ∷ 28 ∷ []) ≡ codes "18, 20, 21, 24-26, and 28"
unfolding digits
many = refl

three : text_list (codes "och") (codes "a" ∷ codes "b" ∷ codes "c" ∷ []) ≡ codes "a, b, och c"
three = refl

-- a field read from its text
abbrev read : Shape → List ℕ → Field
read shape text = applied (field_of shape text).done (empty_field shape)

-- the years of the examples, so that each can be looked at
abbrev few_years : Shape
few_years = new_shape 20 40 0 0

-- a pattern whose fields are these texts, with the flag that joins its days
abbrev of_fields : List ℕ → List ℕ → List ℕ → Bool → List ℕ → List ℕ → Bool → List ℕ → List ℕ → Bool → Meaning
of_fields seconds minutes hours star_day days months star_weekday weekdays years and = record {
  seconds = read sixty_shape seconds;
  minutes = read sixty_shape minutes;
  hours = read hour_shape hours;
  days = read day_shape days;
  months = read month_shape months;
  days_of_week = read (weekday_shape 0) weekdays;
  years = read few_years years;
  star_day = star_day;
  star_weekday = star_weekday;
  and = and;
  text = [];
}

-- what seconds, minutes and hours say, and nothing else
abbrev times : Wording → List ℕ → List ℕ → List ℕ → List ℕ
times w seconds minutes hours = description w (of_fields seconds minutes hours true (codes "*") (codes "*") true (codes "*") (codes "*") false)

-- what days and weekdays say at midnight
abbrev days_at_midnight : Wording → Bool → List ℕ → Bool → List ℕ → Bool → List ℕ
days_at_midnight w star_day days star_weekday weekdays and =
    description w (of_fields (codes "0") (codes "0") (codes "0") star_day days (codes "*") star_weekday weekdays (codes "*") and)

at_noon : times english (codes "0") (codes "0") (codes "12") ≡ codes "At 12:00."
unfolding digits trim_start trim_end chars lib.Utf8.encode
at_noon = refl

each_second : times english (codes "*") (codes "*") (codes "*") ≡ codes "Every second."
unfolding digits trim_start trim_end chars lib.Utf8.encode
each_second = refl

each_minute : times english (codes "0") (codes "*") (codes "*") ≡ codes "Every minute."
unfolding digits trim_start trim_end chars lib.Utf8.encode
each_minute = refl

each_five_minutes : times english (codes "0") (codes "*/5") (codes "*") ≡ codes "At every 5 minutes."
unfolding digits trim_start trim_end chars lib.Utf8.encode
each_five_minutes = refl

each_second_of_a_minute : times english (codes "*") (codes "*/2") (codes "*") ≡ codes "Every second, every 2 minutes."
unfolding digits trim_start trim_end chars lib.Utf8.encode
each_second_of_a_minute = refl

some_seconds : times english (codes "18-28/2") (codes "*") (codes "*") ≡ codes "At second 18, 20, 22, 24, 26, and 28."
unfolding digits trim_start trim_end chars lib.Utf8.encode
some_seconds = refl

stepped_seconds_of_a_minute : times english (codes "0-0/7") (codes "5") (codes "9") ≡ codes "At 09:05, every 7 seconds."
unfolding digits trim_start trim_end chars lib.Utf8.encode
stepped_seconds_of_a_minute = refl

one_second_of_a_minute : times english (codes "5-5/7") (codes "5") (codes "9") ≡ codes "At 09:05:05."
unfolding digits trim_start trim_end chars lib.Utf8.encode
one_second_of_a_minute = refl

seconds_of_a_minute : times english (codes "10-20") (codes "0") (codes "14") ≡ codes "At 14:00, at second 10-20."
unfolding digits trim_start trim_end chars lib.Utf8.encode
seconds_of_a_minute = refl

past_stepped_hours : times english (codes "0") (codes "*") (codes "*/2") ≡ codes "Every minute past of every 2 hours."
unfolding digits trim_start trim_end chars lib.Utf8.encode
past_stepped_hours = refl

past_some_hours : times english (codes "0") (codes "*") (codes "0,12") ≡ codes "Every minute past hour 0 and 12."
unfolding digits trim_start trim_end chars lib.Utf8.encode
past_some_hours = refl

past_some_hours_in_swedish : times swedish (codes "*") (codes "*") (codes "0,12") ≡ codes "Varje sekund under timme 0 och 12."
unfolding digits trim_start trim_end chars lib.Utf8.encode
past_some_hours_in_swedish = refl

steps_of_two : times english (codes "*/10") (codes "*/5") (codes "*") ≡ codes "At every 10 seconds, every 5 minutes."
unfolding digits trim_start trim_end chars lib.Utf8.encode
steps_of_two = refl

a_minute_of_hours : times english (codes "0") (codes "0") (codes "0-6") ≡ codes "At minute 0, of hour 0-6."
unfolding digits trim_start trim_end chars lib.Utf8.encode
a_minute_of_hours = refl

no_minute : times english (codes "0") (codes ",") (codes "*") ≡ codes "At minute  past every hour."
unfolding digits trim_start trim_end chars lib.Utf8.encode
no_minute = refl

both_days : days_at_midnight english false (codes "1") false (codes "5#L,1#1") true ≡ codes "At 00:00, on day 1 (if it is also one of: the last Friday of the month and the 1st Monday of the month)."
unfolding digits trim_start trim_end chars lib.Utf8.encode
both_days = refl

parts_are_counted : days_at_midnight english false (codes "1") false (codes "1,2") true ≡ codes "At 00:00, on day 1 (if it is also Monday and Tuesday)."
unfolding digits trim_start trim_end chars lib.Utf8.encode
parts_are_counted = refl

either_day : days_at_midnight english false (codes "15") false (codes "5") false ≡ codes "At 00:00, on day 15 or Friday."
unfolding digits trim_start trim_end chars lib.Utf8.encode
either_day = refl

last_working_day : days_at_midnight english false (codes "LW") true (codes "*") false ≡ codes "At 00:00, on the last day of the month."
unfolding digits trim_start trim_end chars lib.Utf8.encode
last_working_day = refl

lone_last_weekday : days_at_midnight english true (codes "*") false (codes "L") false ≡ codes "At 00:00, on ."
unfolding digits trim_start trim_end chars lib.Utf8.encode
lone_last_weekday = refl

seventh_weekday : days_at_midnight english true (codes "*") false (codes "7") false ≡ codes "At 00:00, on Sunday."
unfolding digits trim_start trim_end chars lib.Utf8.encode
seventh_weekday = refl

a_first_friday_in_swedish : days_at_midnight swedish true (codes "*") false (codes "5#1") false ≡ encode_utf8_all (codes "Klockan 00:00, på den första fredag i månaden.")
unfolding digits trim_start trim_end chars lib.Utf8.encode
a_first_friday_in_swedish = refl

stepped_months : description english (of_fields (codes "0") (codes "0") (codes "0") true (codes "*") (codes "3-12/3") true (codes "*") (codes "*") false) ≡ codes "At 00:00, in every 3 months."
unfolding digits trim_start trim_end chars lib.Utf8.encode
stepped_months = refl

stepped_years : description english (of_fields (codes "0") (codes "0") (codes "0") false (codes "1") (codes "1") true (codes "*") (codes "25-35/2") false) ≡ codes "At 00:00, on day 1, in January, in year every 2."
unfolding digits trim_start trim_end chars lib.Utf8.encode
stepped_years = refl

months_and_years : description english (of_fields (codes "0") (codes "0") (codes "0") true (codes "*") (codes "1,12") true (codes "*") (codes "25-27") false) ≡ codes "At 00:00, in January and December, in year 25-27."
unfolding digits trim_start trim_end chars lib.Utf8.encode
months_and_years = refl

-- a first letter past ASCII stays
abbrev years_alone : Wording
years_alone = record english { every_minute = encode_utf8_all (codes "år") }

past_ascii : times years_alone (codes "0") (codes "*") (codes "*") ≡ encode_utf8_all (codes "år.")
unfolding digits trim_start trim_end chars lib.Utf8.encode
past_ascii = refl
