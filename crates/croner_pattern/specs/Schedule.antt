-- Which dates and times a pattern names.
use Rattle.std.specs.Prelude.{◌≡◌, ℕ, ◌+◌, ◌^◌, nat_lt, Bool, true, not, ◌&&◌, ◌||◌, ◌==◌, length, ℤ, pos, int_le, unsigned_abs, if◌then◌else◌}
use Rattle.std.specs.List.{list_any}
use Rattle.std.specs.Int.{bit_at}
use Rattle.jiff_core.specs.Calendar.{days_in_month}
use Rattle.croner_base.specs.declared.time.civil.CivilDate.{CivilDate}
use Rattle.croner_base.specs.declared.time.civil.CivilDateTime.{CivilDateTime}
use Rattle.croner_base.specs.Calendar.{day_number, weekday_of_day}
use Rattle.croner_base.specs.Civil.{wall_second}
use Rattle.croner_base.specs.Limits.{first_year, last_year}
use Rattle.croner_base.specs.Field.{plain_bit, last_bit, nearest_bit, Field, has_all, can_ask, is_marked, marked_values}
use Rattle.croner_pattern.specs.Days.{days_of, weekday_of, occurrence, is_last_weekday, is_last_day, is_last_working, is_nearest}
use Rattle.croner_pattern.specs.Meaning.{Meaning}

-- the field holds the value, and the value is marked with one of the bits
abbrev pub is_named : ℕ → Field → ℕ → Bool
is_named bits f value = can_ask f.shape value bits && is_marked bits f value

-- a plain value: named by itself, or by a range or a step that it lies in (ALL_BIT)
abbrev pub is_plain : Field → ℕ → Bool
is_plain = is_named plain_bit

-- `L`: LAST_BIT is enabled, and CLOSEST_WEEKDAY_BIT isn't
abbrev pub names_last_day : Field → Bool
names_last_day days = has_all days.enabled last_bit && not (has_all days.enabled nearest_bit)

-- `LW`: both are enabled
abbrev pub names_last_working_day : Field → Bool
names_last_working_day days = has_all days.enabled last_bit && has_all days.enabled nearest_bit

-- `nW`: a target of the month, marked CLOSEST_WEEKDAY_BIT, has this day as its nearest working day
abbrev pub is_near_target : Field → ℕ → ℕ → ℕ → Bool
is_near_target days len first day = list_any (λ target. is_named nearest_bit days target && is_nearest len first target day) (days_of len)

-- the day of month fits
abbrev pub is_day_side : Field → ℕ → ℕ → ℕ → Bool
is_day_side days len first day =
    is_plain days day || ((names_last_day days && is_last_day len day)
    || ((names_last_working_day days && is_last_working len first day) || is_near_target days len first day))

-- the bit of the nth weekday of a month: NTH_1ST_BIT is 2, NTH_5TH_BIT is 32
abbrev pub bit_of_nth : ℕ → ℕ
bit_of_nth n = 2 ^ n

-- the weekday fits: plain, as the nth of the month, or as its last
abbrev pub is_weekday_side : Field → ℕ → ℕ → ℕ → Bool
is_weekday_side weekdays len first day =
    is_plain weekdays (weekday_of first day) || (is_named (bit_of_nth (occurrence first day)) weekdays (weekday_of first day)
    || (is_named last_bit weekdays (weekday_of first day) && is_last_weekday len first day))

-- with one star field the other side decides. With none it takes both sides where the AND flag is set, and else either.
-- With two stars either side will do.
abbrev pub are_joined : Bool → Bool → Bool → Bool → Bool → Bool
are_joined star_day star_weekday and day weekday =
    if star_day then (if star_weekday then (day || weekday) else weekday)
    else (if star_weekday then day else (if and then (day && weekday) else (day || weekday)))

-- a day fits, in a month of this length whose first day has this weekday
abbrev pub is_day_matching : Meaning → ℕ → ℕ → ℕ → Bool
is_day_matching m len first day =
    are_joined m.star_day m.star_weekday m.and (is_day_side m.days len first day) (is_weekday_side m.days_of_week len first day)

-- the days of a month that fit, one bit a day, from the lowest bit for the 1st: a bit is 1 where the month has the day and
-- the day fits, and 0 elsewhere
abbrev pub IsDayMask : Meaning → ℕ → ℕ → ℕ → Type 0
IsDayMask m len first mask =
    (place : ℕ) → bit_at mask place ≡ (if nat_lt place len && is_day_matching m len first (place + 1) then 1 else 0)

-- the year lies among those that a pattern can name, and fits
abbrev pub is_year_matching : Meaning → ℤ → Bool
is_year_matching m year = (int_le (pos first_year) year && int_le year (pos last_year)) && is_plain m.years (unsigned_abs year)

-- the weekday of the first of a month
abbrev pub first_weekday : ℤ → ℕ → ℕ
first_weekday year month = weekday_of_day (day_number year month 1)

-- the date of a wall second fits: the year, the month and the day
abbrev pub is_date_matching : Meaning → CivilDate → Bool
is_date_matching m d =
    is_year_matching m d.year && (is_plain m.months d.month
    && is_day_matching m (days_in_month d.year d.month) (first_weekday d.year d.month) d.day)

-- a date and time is scheduled
abbrev pub is_scheduled : Meaning → CivilDateTime → Bool
is_scheduled m c =
    is_plain m.seconds c.time.second && (is_plain m.minutes c.time.minute
    && (is_plain m.hours c.time.hour && is_date_matching m c.date))

-- a wall second is scheduled: the date and time that it is
pub record IsScheduled (m : Meaning) (w : ℤ) : Type 0 where
  pub shown : CivilDateTime
  pub shows : wall_second shown ≡ w
  pub matches : is_scheduled m shown ≡ true

-- the date of a wall second matches
pub record DateMatches (m : Meaning) (w : ℤ) : Type 0 where
  pub shown : CivilDateTime
  pub shows : wall_second shown ≡ w
  pub matches : is_date_matching m shown.date ≡ true

-- a field that names exactly one value, with step 1 and without a star
abbrev pub is_single : Field → Bool
is_single f = f.step == 1 && (not f.wildcard && length (marked_values plain_bit f) == 1)

-- a job that runs at one time of the day
abbrev pub is_fixed_time : Meaning → Bool
is_fixed_time m = is_single m.seconds && (is_single m.minutes && is_single m.hours)
