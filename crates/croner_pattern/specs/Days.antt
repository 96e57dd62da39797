-- The days of a month, by counting. A month has a length, and its first day a weekday (Sunday 0).
use Rattle.std.specs.Prelude.{ℕ, ◌+◌, ◌-◌, ◌%◌, Bool, not, ◌&&◌, ◌||◌, ◌==◌, nat_lt, nat_le, List, count_by, if◌then◌else◌}
use Rattle.std.specs.List.{list_all, range_with_len}

-- the days of a month, from 1 to its length
abbrev pub days_of : ℕ → List ℕ
days_of len = range_with_len 1 len

-- the weekday of a day, 0 for Sunday
abbrev pub weekday_of : ℕ → ℕ → ℕ
weekday_of first day = (first + (day - 1)) % 7

-- Monday to Friday
abbrev pub is_working : ℕ → ℕ → Bool
is_working first day = not (weekday_of first day == 0) && not (weekday_of first day == 6)

-- how many days up to this one have its weekday
abbrev pub occurrence : ℕ → ℕ → ℕ
occurrence first day = count_by (λ other. weekday_of first other == weekday_of first day) (days_of day)

-- no later day of the month has the same weekday
abbrev pub is_last_weekday : ℕ → ℕ → ℕ → Bool
is_last_weekday len first day = list_all (λ other. nat_le other day || not (weekday_of first other == weekday_of first day)) (days_of len)

-- no later day in the month
abbrev pub is_last_day : ℕ → ℕ → Bool
is_last_day len day = list_all (λ other. nat_le other day) (days_of len)

-- a Monday-to-Friday day, and no later one in the month
abbrev pub is_last_working : ℕ → ℕ → ℕ → Bool
is_last_working len first day = is_working first day && list_all (λ other. nat_le other day || not (is_working first other)) (days_of len)

-- how many days lie between two
abbrev pub distance : ℕ → ℕ → ℕ
distance a b = (a - b) + (b - a)

-- the month has the target, and the day is its one Monday-to-Friday day at the least distance from it
abbrev pub is_nearest : ℕ → ℕ → ℕ → ℕ → Bool
is_nearest len first target day =
    (nat_le 1 target && nat_le target len) && is_working first day
    && list_all (λ other. (not (is_working first other) || other == day) || nat_lt (distance day target) (distance other target)) (days_of len)

-- a Saturday goes to the Friday before or the Monday after, and a Sunday to the Monday after or the Friday before
abbrev pub resolved_day : ℕ → ℕ → ℕ → ℕ
resolved_day len w target =
    if w == 6 then (if nat_lt 1 target then (target - 1) else (target + 2))
    else (if w == 0 then (if nat_lt target len then (target + 1) else (target - 2)) else target)
