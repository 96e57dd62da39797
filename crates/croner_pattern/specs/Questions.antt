-- What a pattern is asked of its fields, in which order, and where a field of another shape refuses. The values are those
-- of the schedule: only which questions are asked is said here.
use Rattle.std.specs.Prelude.{ℕ, pos, ◌+◌, ◌*◌, ◌-◌, ◌%◌, Bool, true, false, ◌&&◌, ◌||◌, ◌≡◌, nat_lt, nat_le, List, [], ◌∷◌, map, Option, Some, None, is_some, if◌then◌else◌}
use Rattle.std.specs.List.{list_all}
use Rattle.croner_base.specs.declared.time.Direction.{Direction}
use Rattle.croner_base.specs.declared.time.Direction.TheVariants.{Forward, Backward}
use Rattle.croner_base.specs.declared.time.TimeComponent.{TimeComponent}
use Rattle.croner_base.specs.declared.time.TimeComponent.TheVariants.{Second, Minute, Hour, Day, Month, Year}
use Rattle.croner_base.specs.Field.{plain_bit, last_bit, nearest_bit, Field, can_ask, is_marked, values_between}
use Rattle.croner_pattern.specs.Days.{days_of, weekday_of, occurrence, is_last_weekday, is_last_day, is_last_working, is_nearest}
use Rattle.croner_pattern.specs.Meaning.{Meaning}
use Rattle.croner_pattern.specs.NextSecond.{FindsNearest}
use Rattle.croner_pattern.specs.Schedule.{is_plain, names_last_day, names_last_working_day, bit_of_nth, are_joined}

-- whether the value is marked with one of the bits, where the field can be asked
abbrev pub asked : ℕ → Field → ℕ → Option Bool
asked bits f value = if can_ask f.shape value bits then Some (is_marked bits f value) else None

-- the same, where a test has to hold besides
abbrev pub and_test : Bool → Option Bool → Option Bool
and_test test None = None
and_test test (Some held) = Some (held && test)

-- one question after another, up to the first yes or the first refusal
abbrev pub first_yes : List (Option Bool) → Option Bool
first_yes [] = Some false
first_yes (None ∷ more) = None
first_yes (Some true ∷ more) = Some true
first_yes (Some false ∷ more) = first_yes more

-- the weekday of the first of a month, from that of one of its days
abbrev pub first_from : ℕ → ℕ → ℕ
first_from weekday day = (weekday + 6 * (day - 1)) % 7

-- a nearest working day lies at most two days from its target
abbrev pub first_target : ℕ → ℕ
first_target day = if nat_lt 2 day then (day - 2) else 1

abbrev pub last_target : ℕ → ℕ → ℕ
last_target len day = if nat_lt (day + 2) len then (day + 2) else len

-- a target is marked, and this is its nearest working day
abbrev pub near_answer : Field → ℕ → ℕ → ℕ → ℕ → Option Bool
near_answer days len first day target = and_test (is_nearest len first target day) (asked nearest_bit days target)

-- whether the day is nearest to one of the targets
abbrev pub near_answers : Field → ℕ → ℕ → ℕ → Option Bool
near_answers days len first day =
    first_yes (map (near_answer days len first day) (values_between (first_target day) (last_target len day)))

-- the day is the one that `L` or `LW` names
abbrev pub is_named_last : Field → ℕ → ℕ → ℕ → Bool
is_named_last days len first day =
    (names_last_day days && is_last_day len day) || (names_last_working_day days && is_last_working len first day)

-- the day side: plain, then `L` and `LW`, then the targets
abbrev pub day_answer : Field → ℕ → ℕ → ℕ → Option Bool
day_answer days len first day =
    first_yes (asked plain_bit days day ∷ Some (is_named_last days len first day) ∷ near_answers days len first day ∷ [])

-- the weekday is marked with `L`, and this is its last of the month
abbrev pub last_answer : Field → ℕ → ℕ → ℕ → Option Bool
last_answer weekdays len first day = and_test (is_last_weekday len first day) (asked last_bit weekdays (weekday_of first day))

-- the weekday side: the nth, then the last, then plain
abbrev pub weekday_answer : Field → ℕ → ℕ → ℕ → Option Bool
weekday_answer weekdays len first day =
    first_yes (asked (bit_of_nth (occurrence first day)) weekdays (weekday_of first day)
    ∷ last_answer weekdays len first day
    ∷ asked plain_bit weekdays (weekday_of first day) ∷ [])

-- both sides, joined
abbrev pub both_answers : (Bool → Bool → Bool) → Option Bool → Option Bool → Option Bool
both_answers join None weekday = None
both_answers join (Some day) None = None
both_answers join (Some day) (Some weekday) = Some (join day weekday)

-- whether the day fits, by the questions that its two day fields are asked
abbrev pub date_answer : Meaning → ℕ → ℕ → ℕ → Option Bool
date_answer m len first day =
    both_answers (are_joined m.star_day m.star_weekday m.and) (day_answer m.days len first day) (weekday_answer m.days_of_week len first day)

-- each day of the month is answered
abbrev pub are_answered : Meaning → ℕ → ℕ → Bool
are_answered m len first = list_all (λ day. is_some (date_answer m len first day)) (days_of len)

-- the least plain value from the given one on, or the greatest up to it; none where no plain value lies there
abbrev pub IsNearestMember : Direction → Field → ℕ → Option ℕ → Type 0
IsNearestMember direction f from found = FindsNearest pos (λ value. is_plain f value ≡ true) direction (pos from) found

-- the fields that are searched: seconds, minutes and hours
abbrev pub clock_field : Meaning → TimeComponent → Option Field
clock_field m Second = Some m.seconds
clock_field m Minute = Some m.minutes
clock_field m Hour = Some m.hours
clock_field m Day = None
clock_field m Month = None
clock_field m Year = None

-- a search is refused above the maximum, forward from below the minimum, and in a field that holds no plain value
abbrev pub can_search : Direction → Field → ℕ → Bool
can_search Forward f value = can_ask f.shape value plain_bit
can_search Backward f value = nat_le value f.shape.max && can_ask f.shape f.shape.max plain_bit

-- such a field is there, and can be searched from the value
abbrev pub can_find : Direction → Option Field → ℕ → Bool
can_find direction None value = false
can_find direction (Some f) value = can_search direction f value

-- the search found the nearest member of such a field
abbrev pub FindsMember : Direction → Option Field → ℕ → Option ℕ → Type 0
FindsMember direction None value found = ⊥
FindsMember direction (Some f) value found = IsNearestMember direction f value found
