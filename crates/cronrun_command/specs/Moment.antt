-- The text of a date and time: ISO 8601 in its extended form, to the second, with four digits of a year.
use Rattle.std.specs.Prelude.{◌≡◌, ℕ, ◌+◌, ◌/◌, ◌%◌, ◌<◌, pos, List, [], ◌∷◌, ◌++◌, take, drop, slice_index}
use Rattle.croner_base.specs.declared.time.civil.CivilDate.{CivilDate}
use Rattle.croner_base.specs.declared.time.civil.CivilTime.{CivilTime}
use Rattle.croner_base.specs.declared.time.civil.CivilDateTime.{CivilDateTime}

-- a number below 100 in two decimal digits
abbrev pub two_digits : ℕ → List ℕ
two_digits n = (48 + n / 10) ∷ ((48 + n % 10) ∷ [])

-- two bytes write a number in two decimal digits
abbrev pub IsTwoDigits : ℕ → ℕ → ℕ → Type 0
IsTwoDigits tens ones n = (n < 100) × (tens ≡ 48 + n / 10) × (ones ≡ 48 + n % 10)

-- a number below 10,000 in four decimal digits
abbrev pub four_digits : ℕ → List ℕ
four_digits n = two_digits (n / 100) ++ two_digits (n % 100)

-- four bytes write a number in four decimal digits
abbrev pub IsFourDigits : ℕ → ℕ → ℕ → ℕ → ℕ → Type 0
IsFourDigits thousands hundreds tens ones n = IsTwoDigits thousands hundreds (n / 100) × IsTwoDigits tens ones (n % 100)

-- the text is YYYY-MM-DD with these numbers, as large as their places allow
abbrev pub AreDateNumbers : List ℕ → ℕ → ℕ → ℕ → Type 0
AreDateNumbers text year month day = (year < 10_000) × (month < 100) × (day < 100)
    × (text ≡ four_digits year ++ (45 ∷ (two_digits month ++ (45 ∷ two_digits day))))

-- the text is YYYY-MM-DD of this date, in the years 0 to 9999
abbrev pub IsDateText : List ℕ → CivilDate → Type 0
IsDateText text d = (year : ℕ) × (d.year ≡ pos year) × AreDateNumbers text year d.month d.day

-- the text is HH:MM:SS of this time of day
abbrev pub IsTimeText : List ℕ → CivilTime → Type 0
IsTimeText text t = text ≡ two_digits t.hour ++ (58 ∷ (two_digits t.minute ++ (58 ∷ two_digits t.second)))

-- the text is a date in ten bytes, a T and a time of day
abbrev pub IsDateTimeText : List ℕ → CivilDateTime → Type 0
IsDateTimeText text c = IsDateText (take 10 text) c.date × (slice_index text 10 ≡ 84) × IsTimeText (drop 11 text) c.time
