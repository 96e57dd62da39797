-- How far off a run is, in units. Source: this crate's documentation of `Off`.
use Rattle.std.specs.Prelude.{ℕ, nat_lt, ◌==◌, ◌/◌, ◌%◌, List, [], ◌++◌, codes, decimal, if◌then◌else◌}
use Rattle.croncheck_report.specs.declared.settings.Tongue.{Tongue}
use Rattle.croncheck_report.specs.declared.settings.Tongue.TheVariants as tongues

-- the word in front of a length of time to come
abbrev pub ahead_word : Tongue → List ℕ
ahead_word tongues.English = codes "in "
ahead_word tongues.Swedish = codes "om "

-- so many of a unit: `11 h`
abbrev pub count_text : ℕ → List ℕ → List ℕ
count_text n unit = decimal n ++ (codes " " ++ unit)

-- the same after a larger unit: nothing where there are none
abbrev pub more_text : ℕ → List ℕ → List ℕ
more_text n unit = if n == 0 then [] else codes " " ++ count_text n unit

-- so many seconds in the largest unit of which there is one, and the next smaller one: days, hours, minutes, seconds; what is shorter is left out
abbrev pub lasting_text : ℕ → List ℕ
lasting_text n =
    if nat_lt n 60 then count_text n (codes "s")
    else if nat_lt n 3_600 then count_text (n / 60) (codes "min") ++ more_text (n % 60) (codes "s")
    else if nat_lt n 86_400 then count_text (n / 3_600) (codes "h") ++ more_text (n / 60 % 60) (codes "min")
    else count_text (n / 86_400) (codes "d") ++ more_text (n / 3_600 % 24) (codes "h")

-- how far off it is: `in 11 h 20 min`
abbrev pub off_text : Tongue → ℕ → List ℕ
off_text language n = ahead_word language ++ lasting_text n
