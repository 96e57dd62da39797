-- What a pattern asks to run.
use Rattle.croner_base.specs.Zone.{Zone}
use Rattle.croner_pattern.specs.Meaning.{Meaning}
use Rattle.croner_pattern.specs.Schedule.{IsScheduled, DateMatches, is_fixed_time}
use Rattle.croner.specs.search.Runs.{Timetable, Job, job_in}

-- the timetable of a pattern
abbrev pub timetable_of : Meaning → Timetable
timetable_of m = record { scheduled = IsScheduled m; date_matches = DateMatches m; fixed_time = is_fixed_time m }

-- the job of a pattern in a zone
abbrev pub pattern_job : Meaning → Zone → Job
pattern_job m z = job_in z (timetable_of m)
