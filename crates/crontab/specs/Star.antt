-- Whether the times of a job have the star by which cron(8) goes where the clock changes. Source: entry.c of cron 3.0pl1-162, which marks a job
-- so where the first byte of its minutes or of its hours is a star, and at `@hourly`.
use Rattle.std.specs.Prelude.{ℕ, Bool, ◌||◌, List, codes}
use Rattle.std.specs.Str.{bytes_eq}
use Rattle.crontab.specs.Bytes.{begins_with}
use Rattle.crontab.specs.Line.{next}

-- of times as they are written: the text of the minutes or that of the hours begins with a star, or they are `@hourly`
abbrev pub has_clock_star : List ℕ → Bool
has_clock_star schedule = (begins_with 42 schedule || begins_with 42 (next schedule)) || bytes_eq schedule (codes "@hourly")
