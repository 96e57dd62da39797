-- The grammar of cron patterns: for settings and a text the one outcome, in the order in which the rules are tested.
use Rattle.std.specs.Prelude.{ℕ, Bool, false, not, ◌&&◌, ◌||◌, ◌==◌, nat_le, List, [], ◌∷◌, ◌++◌, length, map, fold, Option, Some, None, Result, Ok, Err, slice_index, codes, if◌then◌else◌}
use Rattle.std.specs.List.{list_all}
use Rattle.std.specs.Str.{trim, bytes_eq, str_to_ascii_uppercase}
use Rattle.croner_base.specs.Field.{Shape, Field, empty_field, with_sloppy, with_mark, without_mark, is_marked}
use Rattle.croner_base.specs.Part.{contains_byte, field_of, refused_part, plain_bit, last_bit}
use Rattle.croner_base.specs.Reading.{Reading, applied}
use Rattle.croner_pattern.specs.Meaning.{Meaning}
use Rattle.croner_pattern.specs.Shapes.{sixty_shape, hour_shape, day_shape, month_shape, weekday_shape, year_shape}
use Rattle.croner.specs.declared.parser.fault.PatternField.{PatternField}
use Rattle.croner.specs.declared.parser.fault.PatternField.TheVariants as names
use Rattle.croner.specs.parser.Settings.{Settings, seconds_required, year_required, accepts_count}
use Rattle.croner.specs.parser.Cut.{replaced}
use Rattle.croner.specs.parser.Words.{words}

-- ---- signs

abbrev pub star : ℕ
star = 42

abbrev pub plus : ℕ
plus = 43

abbrev pub question_mark : ℕ
question_mark = 63

abbrev pub at_sign : ℕ
at_sign = 64

abbrev pub digit_0 : ℕ
digit_0 = 48

abbrev pub digit_9 : ℕ
digit_9 = 57

-- why a text has no meaning: it is empty, its count of fields is wrong, a field has a character that is not legal there, or
-- a field can't be read from a part of its list on, which is told by how many stand in front of it
pub data Refusal : Type 0 where
  Empty Invalid : Refusal
  Illegal : PatternField → Refusal
  Component : PatternField → ℕ → Refusal

-- ---- nicknames

-- the pattern of a nickname; every other text is itself
abbrev pub nickname_of : List ℕ → List ℕ
nickname_of text =
    if bytes_eq text (codes "@YEARLY") || bytes_eq text (codes "@ANNUALLY") then codes "0 0 1 1 *"
    else if bytes_eq text (codes "@MONTHLY") then codes "0 0 1 * *"
    else if bytes_eq text (codes "@WEEKLY") then codes "0 0 * * SUN"
    else if bytes_eq text (codes "@DAILY") then codes "0 0 * * *"
    else if bytes_eq text (codes "@HOURLY") then codes "0 * * * *"
    else text

-- a text with `@`, nickname or not, gets the fields that the settings require
abbrev pub nicknamed : Settings → List ℕ → List ℕ
nicknamed s text =
    if contains_byte at_sign text
    then (if seconds_required s.seconds_field then codes "0 " else []) ++ nickname_of text ++ (if year_required s.year_field then codes " *" else [])
    else text

-- ---- seven fields

-- the texts of the fields
pub record Texts : Type 0 where
  pub seconds : List ℕ
  pub minutes : List ℕ
  pub hours : List ℕ
  pub days : List ℕ
  pub months : List ℕ
  pub days_of_week : List ℕ
  pub years : List ℕ

-- the words as fields: five get the seconds 0 in front, and five or six the year `*` after
abbrev pub seven : List (List ℕ) → Option Texts
seven (a ∷ b ∷ c ∷ d ∷ e ∷ []) = Some (record { seconds = codes "0"; minutes = a; hours = b; days = c; months = d; days_of_week = e; years = codes "*" })
seven (a ∷ b ∷ c ∷ d ∷ e ∷ f ∷ []) = Some (record { seconds = a; minutes = b; hours = c; days = d; months = e; days_of_week = f; years = codes "*" })
seven (a ∷ b ∷ c ∷ d ∷ e ∷ f ∷ g ∷ []) = Some (record { seconds = a; minutes = b; hours = c; days = d; months = e; days_of_week = f; years = g })
seven other = None

-- the same, for a count that the settings accept
abbrev pub fields_of : Settings → List (List ℕ) → Option Texts
fields_of s given = if accepts_count s.seconds_field s.year_field (length given) then seven given else None

-- each `?` becomes `*`
abbrev pub starred : List ℕ → List ℕ
starred text = map (λ c. if c == question_mark then star else c) text

-- the text begins with a plus
abbrev pub has_plus : List ℕ → Bool
has_plus text = slice_index text 0 == plus

-- one leading `+` is taken off
abbrev pub without_plus : List ℕ → List ℕ
without_plus [] = []
without_plus (c ∷ cs) = if c == plus then cs else (c ∷ cs)

-- the two day fields lose each `?`, and the weekday field one leading `+`
abbrev pub settled : Texts → Texts
settled t = record t { days = starred t.days; days_of_week = starred (without_plus t.days_of_week) }

-- ---- legal characters

-- digits, and the signs of lists, ranges and steps
abbrev pub is_list_character : ℕ → Bool
is_list_character c = (nat_le digit_0 c && nat_le c digit_9) || contains_byte c (codes "*/,-")

abbrev pub is_for_days : ℕ → Bool
is_for_days c = is_list_character c || contains_byte c (codes "LW")

abbrev pub is_for_weekdays : ℕ → Bool
is_for_weekdays c = is_list_character c || contains_byte c (codes "#L")

-- each character of each field is legal there
abbrev pub are_legal : Texts → Bool
are_legal t =
    list_all is_list_character t.seconds && (list_all is_list_character t.minutes && (list_all is_list_character t.hours && (list_all is_for_days t.days
    && (list_all is_list_character t.months && (list_all is_for_weekdays t.days_of_week && list_all is_list_character t.years)))))

-- a field takes a character of a word whose `?` are not settled yet; a `+` in front of the weekdays is none of these
abbrev pub takes : PatternField → ℕ → Bool
takes names.Seconds c = is_list_character c
takes names.Minutes c = is_list_character c
takes names.Hours c = is_list_character c
takes names.DayOfMonth c = is_for_days c || c == question_mark
takes names.Month c = is_list_character c
takes names.Weekday c = is_for_weekdays c || c == question_mark
takes names.Year c = is_list_character c

-- it takes each character of a text
abbrev pub takes_all : PatternField → List ℕ → Bool
takes_all field text = list_all (takes field) text

-- the first field whose text fails a test; the year, where no other does
abbrev pub first_failing : (PatternField → List ℕ → Bool) → Texts → PatternField
first_failing passes t =
    if not (passes names.Seconds t.seconds) then names.Seconds
    else if not (passes names.Minutes t.minutes) then names.Minutes
    else if not (passes names.Hours t.hours) then names.Hours
    else if not (passes names.DayOfMonth t.days) then names.DayOfMonth
    else if not (passes names.Month t.months) then names.Month
    else if not (passes names.Weekday t.days_of_week) then names.Weekday
    else names.Year

-- the first field with a character that is not legal there
abbrev pub illegal_field : Texts → PatternField
illegal_field t = first_failing takes_all t

-- a word without the sign that may stand in front of it
abbrev pub without_sign : PatternField → List ℕ → List ℕ
without_sign names.Seconds word = word
without_sign names.Minutes word = word
without_sign names.Hours word = word
without_sign names.DayOfMonth word = word
without_sign names.Month word = word
without_sign names.Weekday word = without_plus word
without_sign names.Year word = word

-- a word whose names are replaced is legal in the field; one that has no cut keeps a letter that is legal nowhere
abbrev pub is_replaced_legal : PatternField → Option (List ℕ) → Bool
is_replaced_legal field None = false
is_replaced_legal field (Some word) = takes_all field (without_sign field word)

-- a word with its own names is legal in the field
abbrev pub is_word_legal : Bool → PatternField → List ℕ → Bool
is_word_legal quartz field word = is_replaced_legal field (replaced quartz false word)

-- the first field whose word is not legal there
abbrev pub illegal_word : Bool → Texts → PatternField
illegal_word quartz t = first_failing (is_word_legal quartz) t

-- the text is a lone star
abbrev pub is_star : List ℕ → Bool
is_star text = bytes_eq text (codes "*")

-- ---- the fields

-- a field is read from an empty one with the shape of its place and the settings' sloppiness
abbrev pub start_of : Settings → Shape → Field
start_of s shape = with_sloppy (empty_field shape) s.sloppy

abbrev pub reading_of : Settings → Shape → List ℕ → Reading
reading_of s shape text = field_of (start_of s shape).shape text

-- in Quartz mode 1 is taken off each number of the weekday field
abbrev pub weekdays_of : Settings → Shape
weekdays_of s = weekday_shape (if s.quartz then 1 else 0)

-- each field is accepted
abbrev pub are_read : Settings → Texts → Bool
are_read s t =
    (reading_of s sixty_shape t.seconds).accepted && ((reading_of s sixty_shape t.minutes).accepted
    && ((reading_of s hour_shape t.hours).accepted && ((reading_of s day_shape t.days).accepted
    && ((reading_of s month_shape t.months).accepted && ((reading_of s (weekdays_of s) t.days_of_week).accepted
    && (reading_of s year_shape t.years).accepted)))))

-- the shape of a field
abbrev pub shape_of : Settings → PatternField → Shape
shape_of s names.Seconds = sixty_shape
shape_of s names.Minutes = sixty_shape
shape_of s names.Hours = hour_shape
shape_of s names.DayOfMonth = day_shape
shape_of s names.Month = month_shape
shape_of s names.Weekday = weekdays_of s
shape_of s names.Year = year_shape

-- a field accepts a text
abbrev pub is_read : Settings → PatternField → List ℕ → Bool
is_read s field text = (reading_of s (shape_of s field) text).accepted

-- the first field that can't be read
abbrev pub unread_field : Settings → Texts → PatternField
unread_field s t = first_failing (is_read s) t

-- how many parts of a field's list stand in front of the first that it can't read
abbrev pub unread_part : Settings → PatternField → List ℕ → ℕ
unread_part s field text = refused_part (start_of s (shape_of s field)).shape text

-- the text of a field
abbrev pub text_of_field : PatternField → Texts → List ℕ
text_of_field names.Seconds t = t.seconds
text_of_field names.Minutes t = t.minutes
text_of_field names.Hours t = t.hours
text_of_field names.DayOfMonth t = t.days
text_of_field names.Month t = t.months
text_of_field names.Weekday t = t.days_of_week
text_of_field names.Year t = t.years

-- the refusal of fields that can't be read: the first of them, and the first part of its list that can't
abbrev pub unread : Settings → Texts → Refusal
unread s t = let field = unread_field s t in Component field (unread_part s field (text_of_field field t))

-- what stands in a field when its text is read
abbrev pub value_of : Settings → Shape → List ℕ → Field
value_of s shape text = applied (reading_of s shape text).done (start_of s shape)

-- the modifiers of a weekday: plain, the first to the fifth of a month, and the last
abbrev pub weekday_modifiers : List ℕ
weekday_modifiers = plain_bit ∷ 2 ∷ 4 ∷ 8 ∷ 16 ∷ 32 ∷ last_bit ∷ []

-- Sunday after Saturday
abbrev pub sunday_as_seven : ℕ
sunday_as_seven = 7

-- a mark of weekday 7 with a modifier becomes a mark of weekday 0
abbrev pub sunday_moved : Field → ℕ → Field
sunday_moved f bit = if is_marked bit f sunday_as_seven then with_mark (without_mark f sunday_as_seven bit) 0 bit else f

-- by default 7 is Sunday, with every modifier; in Quartz mode 7 was Saturday, and only a star marks 7
abbrev pub settled_weekdays : Settings → Field → Field
settled_weekdays s f = if s.quartz then f else fold sunday_moved f weekday_modifiers

-- the fields, the flags and the text of a pattern
abbrev pub meaning : Settings → List ℕ → Texts → Bool → Meaning
meaning s text t and = record {
  seconds = value_of s sixty_shape t.seconds;
  minutes = value_of s sixty_shape t.minutes;
  hours = value_of s hour_shape t.hours;
  days = value_of s day_shape t.days;
  months = value_of s month_shape t.months;
  days_of_week = settled_weekdays s (value_of s (weekdays_of s) t.days_of_week);
  years = value_of s year_shape t.years;
  star_day = is_star t.days;
  star_weekday = is_star t.days_of_week;
  and = and;
  text = text;
}

-- ---- the whole

-- the fields as they are read
abbrev pub of_legal : Settings → List ℕ → Texts → Bool → Result Meaning Refusal
of_legal s text t and = if are_read s t then Ok (meaning s text t and) else Err (unread s t)

-- the fields as they are tested for their characters
abbrev pub of_settled : Settings → List ℕ → Texts → Bool → Result Meaning Refusal
of_settled s text t and = if are_legal t then of_legal s text t and else Err (Illegal (illegal_field t))

-- a text of seven fields
abbrev pub of_fields : Settings → List ℕ → Option Texts → Result Meaning Refusal
of_fields s text None = Err Invalid
of_fields s text (Some given) = of_settled s text (settled given) (s.both_days || has_plus given.days_of_week)

-- the words of a text that has no cut, since one of its letters stands for nothing
abbrev pub of_letter : Settings → Option Texts → Result Meaning Refusal
of_letter s None = Err Invalid
of_letter s (Some given) = Err (Illegal (illegal_word s.quartz given))

-- a text in which each name was replaced, where it has a cut
abbrev pub of_replaced : Settings → List ℕ → Option (List ℕ) → Result Meaning Refusal
of_replaced s full None = of_letter s (fields_of s (words full))
of_replaced s full (Some text) = of_fields s text (fields_of s (words text))

-- a text that is raised and trimmed: its nickname and its names are replaced
abbrev pub of_trimmed : Settings → List ℕ → Result Meaning Refusal
of_trimmed s text = of_replaced s (nicknamed s text) (replaced s.quartz false (nicknamed s text))

-- what a text means: it is raised and trimmed, its nickname and its names are replaced, its fields are counted, settled,
-- tested for their characters and read
abbrev pub outcome : Settings → List ℕ → Result Meaning Refusal
outcome s given =
    let text = trim (str_to_ascii_uppercase given) in if length text == 0 then Err Empty else of_trimmed s text
