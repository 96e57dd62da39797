-- What contracts see of an entry: the meaning of its line.
use Rattle.std.specs.Prelude.{ℕ, ◌≤◌, ⊤, Option, Some, None, option_map, Result, Ok, Err, string_bytes}
use Rattle.crontab.specs.declared.line.Fault.{Fault}
use Rattle.crontab.specs.declared.line.Times.{Times}
use Rattle.crontab.specs.declared.line.Times.TheVariants as times
use Rattle.crontab.specs.declared.line.Job.{Job}
use Rattle.crontab.specs.declared.line.Entry.{Entry}
use Rattle.crontab.specs.declared.line.Entry.TheVariants as entries
use Rattle.crontab.specs.declared.line.FieldWords.{FieldWords}
use Rattle.crontab.specs.declared.line.Texts.{Texts}
use Rattle.crontab.specs.declared.line.Stop.{Stop}
use Rattle.crontab.specs.declared.line.Stop.TheVariants as stops
use Rattle.crontab.specs.Line.{Timing, FiveTexts, reboot, never, named, Five, Task, Line, blank, comment, setting, job, pattern, refused}

-- the times of a job
abbrev pub times_seen : Times → Timing
times_seen times.Reboot = reboot
times_seen times.Never = never
times_seen (times.Named text both) = named (string_bytes text) both

-- the five words of a job
abbrev pub words_seen : FieldWords → Five
words_seen w = record {
  minutes = w.minutes.now;
  hours = w.hours.now;
  days = w.days.now;
  months = w.months.now;
  weekdays = w.weekdays.now;
  rest = w.rest.now;
}

-- the times, or the fault
abbrev pub read_seen : Result Times Fault → Result Timing Fault
read_seen (Ok t) = Ok (times_seen t)
read_seen (Err fault) = Err fault

abbrev pub job_seen : Job → Task
job_seen j = record { times = times_seen j.times; schedule = j.schedule.now; user = option_map (λ u. u.now) j.user; command = j.command.now }

-- what contracts see of an entry: what its line is
abbrev pub entry_seen : Entry → Line
entry_seen entries.Blank = blank
entry_seen entries.Comment = comment
entry_seen (entries.Setting is_zone) = setting is_zone
entry_seen (entries.Job j) = job (job_seen j)
entry_seen (entries.Pattern text) = pattern text.now
entry_seen (entries.Refused fault start end) = refused fault

-- the place that a refused line names
abbrev pub place_seen : Entry → Option (ℕ × ℕ)
place_seen (entries.Refused fault start end) = Some (start, end)
place_seen other = None

-- the place of a fault lies in a line of this length
abbrev pub LiesIn : ℕ → Entry → Type 0
LiesIn n (entries.Refused fault start end) = (start ≤ end) × (end ≤ n)
LiesIn n other = ⊤

-- a job, or the fault
abbrev pub job_read : Result Job Fault → Line
job_read (Ok j) = job (job_seen j)
job_read (Err fault) = refused fault

-- the texts, or the fault
abbrev pub texts_read : Result Texts Fault → Result FiveTexts Fault
texts_read (Ok t) = Ok (record {
  minutes = string_bytes t.minutes;
  hours = string_bytes t.hours;
  days = string_bytes t.days;
  months = string_bytes t.months;
  weekdays = string_bytes t.weekdays;
})
texts_read (Err fault) = Err fault

-- what was read, or the fault, is so; lack of memory says nothing of the line
abbrev pub IfRead : {X : Type 0} → Result X Stop → (Result X Fault → Type 0) → Type 0
IfRead (Ok x) P = P (Ok x)
IfRead (Err (stops.Refused fault)) P = P (Err fault)
IfRead (Err stops.OutOfMemory) P = ⊤
