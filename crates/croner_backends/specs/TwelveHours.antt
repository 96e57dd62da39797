-- A language of the tests: English, whose times of day are told on a clock of twelve hours.
use Rattle.std.specs.Prelude.{ℕ, ◌%◌, ◌==◌, nat_lt, List, ◌++◌, codes, Option, if◌then◌else◌}
use Rattle.croner.specs.English.{english}
use Rattle.croner.specs.Numbers.{clock_text}
use Rattle.croner.specs.Wording.{Wording}

-- the hour that the clock shows: 12 at midnight and at noon
abbrev pub dial_hour : ℕ → ℕ
dial_hour hour = if hour % 12 == 0 then 12 else hour % 12

-- the half of the day, by its name
abbrev pub half_of_day : ℕ → List ℕ
half_of_day hour = if nat_lt hour 12 then codes "AM" else codes "PM"

-- a time of day: as on a clock of 24 hours, and the half
abbrev pub dial_text : ℕ → ℕ → Option ℕ → List ℕ
dial_text hour minute second = clock_text (dial_hour hour) minute second ++ (codes " " ++ half_of_day hour)

abbrev pub twelve_hours : Wording
twelve_hours = record english { time_of_day = dial_text }
