-- What was told of lines so far, and the status. Source: this crate's documentation of `Tally`.
use Rattle.std.specs.Prelude.{min, not, ◌&&◌, ◌||◌, ◌==◌, ℕ, ◌+◌, Bool, true, false, if◌then◌else◌}
use Rattle.crontab.specs.Line.{Line}
use Rattle.crontab.specs.declared.line.Dialect.TheVariants as dialects
use Rattle.crontab.specs.declared.line.Dialect.{Dialect}
use Rattle.croncheck_report.specs.declared.report.Report.TheVariants as reports
use Rattle.croncheck_report.specs.declared.report.Report.{Report}
use Rattle.croncheck_reading.specs.declared.tally.Tally.{Tally}
use Rattle.croncheck_files.specs.Names.{is_installed}
use Rattle.croncheck_report.specs.FileSeen.{File, is_late, is_refused}
use Rattle.croncheck_report.specs.Report.{has_warnings, is_refused_elsewhere}
use Rattle.croncheck_warnings.specs.Warnings.{is_first_too_many}

-- the most that 64 bits hold
abbrev pub most_counted : ℕ
most_counted = 18_446_744_073_709_551_615

-- one more, up to the most
abbrev pub one_more : ℕ → ℕ
one_more n = min (n + 1) most_counted

-- nothing is counted yet
abbrev pub none_counted : Tally
none_counted = record { lines = 0; jobs = 0; refused = 0; warned = 0; ignored = 0 }

-- with one more job or pattern, which another program refuses or doesn't
abbrev pub counted_job : Tally → Bool → Tally
counted_job t true = record t { lines = one_more t.lines; refused = one_more t.refused }
counted_job t false = record t { lines = one_more t.lines; jobs = one_more t.jobs }

-- with one more line, of which no warning is counted
abbrev pub counted : Tally → Report → Tally
counted t reports.Silent = record t { lines = one_more t.lines }
counted t (reports.Misnamed name) = record t { lines = one_more t.lines }
counted t (reports.Setting seen has_feed) = record t { lines = one_more t.lines }
counted t (reports.Job j) = counted_job t (is_refused_elsewhere j)
counted t (reports.Refused start end why) = record t { lines = one_more t.lines; refused = one_more t.refused }

-- the line after so many of a file is the first that stands after the last one that cron itself takes
abbrev pub is_first_late : ℕ → Line → File → Bool
is_first_late lines line f = not f.has_late && is_late (one_more lines) line

-- `many-lines`: the line after so many of a file is the first for which it is too long
abbrev pub is_too_many : Dialect → ℕ → Line → File → Bool
is_too_many dialects.User lines line f = if is_installed f.name then is_first_late lines line f else is_first_too_many lines
is_too_many dialects.System lines line f = is_first_late lines line f
is_too_many dialects.Patterns lines line f = false

-- a line is warned of, which may be the first that is too many. One that is refused has no other warning
abbrev pub is_line_warned : Bool → Report → Bool
is_line_warned is_too_many report = (has_warnings report && not (is_refused report)) || is_too_many

-- one more, if it counts
abbrev pub one_more_if : Bool → ℕ → ℕ
one_more_if counts n = if counts then one_more n else n

-- with one more line and its warnings, which may be the first that is too many
abbrev pub added : Bool → Tally → Report → Tally
added is_too_many t report = record (counted t report) { warned = one_more_if (is_line_warned is_too_many report) t.warned }

-- with one more file, which cron ignores as a whole or doesn't, and which has a warning for its name or hasn't
abbrev pub with_file : Bool → Bool → Tally → Tally
with_file is_ignored is_name_warned t = record t { ignored = one_more_if is_ignored t.ignored; warned = one_more_if is_name_warned t.warned }

-- a line is refused, cron ignores a whole file, or a line has a warning where the call is strict
abbrev pub has_findings : Bool → Tally → Bool
has_findings is_strict t = (not (t.refused == 0) || not (t.ignored == 0)) || (is_strict && not (t.warned == 0))

-- 1 where there is a finding, else 0
abbrev pub status_of : Bool → Tally → ℕ
status_of is_strict t = if has_findings is_strict t then 1 else 0
