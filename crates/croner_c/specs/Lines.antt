-- What a line of a crontab is: what the call answers.
use Rattle.std.specs.Prelude.{◌≡◌, ◌==◌, ◌+◌, ◌-◌, Bool, ℕ, ℤ, pos, List, length, Option, Some, None, Result, Ok, Err, if◌then◌else◌}
use Rattle.std.specs.Ordering.{int_eq}
use Rattle.crontab.specs.Bytes.{text_after}
use Rattle.crontab.specs.Line.{Timing, reboot, never, named, Task, Line, blank, comment, setting, job, pattern, refused, is_system, entry_of}
use Rattle.crontab.specs.Place.{text_from_fault, text_after_fault}
use Rattle.crontab.specs.declared.bytes.Kind.TheVariants as kinds
use Rattle.crontab.specs.declared.line.Dialect.{Dialect}
use Rattle.crontab.specs.declared.line.Dialect.TheVariants as dialects
use Rattle.crontab.specs.declared.line.Fault.{Fault}
use Rattle.crontab.specs.declared.line.Fault.TheVariants as faults
use Rattle.croner_c.specs.Answers.{OrLack, Then}
use Rattle.croner_c.specs.declared.line.Line.{Line as Row}
use Rattle.croner_c.specs.declared.status.Reason.{Reason}
use Rattle.croner_c.specs.declared.status.Reason.TheVariants as reasons

-- the bytes of a line's struct
abbrev pub line_size : ℕ
line_size = 80

-- whose crontab it is, by its number
abbrev pub dialect_of : ℕ → Result Dialect Reason
dialect_of n = if n == 0 then Ok dialects.User else (if n == 1 then Ok dialects.System else Err reasons.BadArgument)

-- a line without parts
abbrev pub row_of_kind : ℤ → Row
row_of_kind kind = record {
  size = line_size;
  schedule_begin = 0;
  schedule_end = 0;
  user_begin = 0;
  user_end = 0;
  command_begin = 0;
  command_end = 0;
  fault_begin = 0;
  fault_end = 0;
  kind = kind;
  fault = pos 0;
}

-- the number of a fault
abbrev pub number_of : Fault → ℤ
number_of faults.Nul = pos 1
number_of faults.Minutes = pos 2
number_of faults.Hours = pos 3
number_of faults.Days = pos 4
number_of faults.Months = pos 5
number_of faults.Weekdays = pos 6
number_of faults.Nickname = pos 7
number_of faults.User = pos 8
number_of faults.Command = pos 9
number_of faults.LongCommand = pos 10

-- the kind of a job, by its times
abbrev pub number_of_times : Timing → ℤ
number_of_times (named text both) = pos 3
number_of_times reboot = pos 4
number_of_times never = pos 5

-- the byte at which a part of a line begins that reaches to its end
abbrev pub begin_of : List ℕ → List ℕ → ℕ
begin_of line part = length line - length part

-- the schedule stands after the line's blanks, and the command at its end
abbrev pub row_of_schedule : List ℕ → Task → Row
row_of_schedule line t =
    let begin = begin_of line (text_after kinds.Blank line) in
    record (row_of_kind (number_of_times t.times)) {
      schedule_begin = begin;
      schedule_end = begin + length t.schedule;
      command_begin = begin_of line t.command;
      command_end = length line;
    }

-- a user's name, where there is one, stands before the command, with a blank between
abbrev pub with_user : ℕ → Option (List ℕ) → Row → Row
with_user command None row = row
with_user command (Some user) row = record row { user_begin = command - 1 - length user; user_end = command - 1 }

-- a job's line
abbrev pub row_of_job : List ℕ → Task → Row
row_of_job line t = with_user (begin_of line t.command) t.user (row_of_schedule line t)

-- a refused line, with the place of its fault
abbrev pub row_with_fault : Fault → ℕ → ℕ → Row
row_with_fault fault start end = record (row_of_kind (pos 6)) { fault_begin = start; fault_end = end; fault = number_of fault }

-- the fault's place in the line
abbrev pub row_of_fault : Bool → List ℕ → Fault → Row
row_of_fault system line fault =
    let text = text_after kinds.Blank line in
    row_with_fault fault (begin_of line (text_from_fault system text fault)) (begin_of line (text_after_fault system text fault))

-- a line by what it is to cron
abbrev pub row_of : Bool → List ℕ → Line → Row
row_of system line blank = row_of_kind (pos 0)
row_of system line comment = row_of_kind (pos 1)
row_of system line (setting is_zone) = row_of_kind (pos 2)
row_of system line (job t) = row_of_job line t
row_of system line (pattern text) = row_of_kind (pos 0)
row_of system line (refused fault) = row_of_fault system line fault

-- the line, or lack of memory
abbrev pub IsRow : Dialect → List ℕ → Result Row Reason → Type 0
IsRow dialect line answer = OrLack (λ row. row ≡ row_of (is_system dialect) line (entry_of dialect line)) answer

-- whose crontab a call means, with a struct of this size
abbrev pub asked_line : ℕ → ℕ → Result Dialect Reason
asked_line table size = if size == line_size then dialect_of table else Err reasons.BadArgument

-- of a call
abbrev pub IsLine : List ℕ → ℕ → ℕ → Result Row Reason → Type 0
IsLine line table size answer = Then (asked_line table size) (λ dialect. IsRow dialect line) answer

-- the line is written, with status 1 where it is refused, and else 0
abbrev pub tell_line : Row → Row → ℤ × Row
tell_line row old = (if int_eq row.kind (pos 6) then pos 1 else pos 0, row)
