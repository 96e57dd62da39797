-- Counts, titles and dates in words. Source: this crate's documentation.
use Rattle.std.specs.Prelude.{ℕ, ◌==◌, ℤ, List, [], ◌++◌, codes, slice_get, Option, Some, None, if◌then◌else◌}
use Rattle.std.specs.Fmt.{decimal, signed_decimal}
use Rattle.croner_base.specs.declared.time.civil.CivilDateTime.{CivilDateTime}
use Rattle.croner_base.specs.Civil.{weekday_index}
use Rattle.croner_base.specs.CivilText.{date_text}
use Rattle.cronplan_forms.specs.declared.job.Job.{Job}
use Rattle.cronplan_forms.specs.Calendars.{times_text}
use Rattle.cronplan_forms.specs.declared.beside.ShownTime.{ShownTime}
use Rattle.cronplan_forms.specs.declared.clock.ClockTime.{ClockTime}
use Rattle.cronplan_forms.specs.declared.date_name.DateName.{DateName}
use Rattle.cronplan_forms.specs.Besides.{shown_time_text}
use Rattle.cronplan_forms.specs.Clocks.{weekday_text, clock_time_text, lasting_text}
use Rattle.cronplan_page.specs.Markup.{html}

-- what follows the name of a thing of which there are so many
abbrev pub plural_of : ℕ → List ℕ
plural_of n = if n == 1 then [] else codes "s"

-- so many of a thing, as `3 starts`
unfoldable pub many_text : ℕ → List ℕ → List ℕ
many_text n name = decimal n ++ (codes " " ++ (name ++ plural_of n))

-- what a clock shows at a second, as `Sun 2027-03-28 03:00:00 +02:00`
unfoldable pub clock_text : ClockTime → List ℕ
clock_text t = clock_time_text t

-- what the clocks show at a second: the same, and after an equals sign what that of a second zone shows
unfoldable pub time_text : ShownTime → List ℕ
time_text t = shown_time_text t

-- one and another
unfoldable pub between_text : ShownTime → ShownTime → List ℕ
between_text from until = time_text from ++ (codes " to " ++ time_text until)

-- how long something lasts, as `9h 30m`
unfoldable pub duration_text : ℕ → List ℕ
duration_text seconds = lasting_text seconds

-- the title of a job, if there is one
abbrev pub title_or_none : Option Job → List ℕ
title_or_none None = []
title_or_none (Some job) = html job.title.now

-- the title of the job at a place
abbrev pub title_text : List Job → ℕ → List ℕ
title_text jobs place = title_or_none (slice_get jobs place)

-- a job that is started so many times at one second
unfoldable pub started_text : List Job → ℕ → ℕ → List ℕ
started_text jobs place count = title_text jobs place ++ times_text count

-- a date: its weekday, and as the calendar has it; or its number, where the calendar hasn't it
abbrev pub name_of_date : ℕ → ℤ → Option CivilDateTime → List ℕ
name_of_date weekday date (Some c) = weekday_text weekday ++ (codes " " ++ date_text c.date.year c.date.month c.date.day)
name_of_date weekday date None = codes "day " ++ signed_decimal date

abbrev pub date_name : DateName → List ℕ
date_name d = name_of_date (weekday_index d.weekday) d.date d.civil
