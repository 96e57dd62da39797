-- Which jobs of a crontab cron treats as starred where the clock changes. Source: cron 3.0pl1-162, where it reads a line.
use Rattle.std.specs.Prelude.{◌||◌, ℕ, Bool, List, codes}
use Rattle.std.specs.Str.{bytes_eq}
use Rattle.crontab.specs.Bytes.{begins_with}
use Rattle.crontab.specs.Line.{next}

-- the text of the minutes or that of the hours begins with a star
abbrev pub has_clock_star : List ℕ → Bool
has_clock_star times = begins_with 42 times || begins_with 42 (next times)

-- so it does, or it is the nickname whose hours are a star
abbrev pub is_starred : List ℕ → Bool
is_starred times = has_clock_star times || bytes_eq times (codes "@hourly")
