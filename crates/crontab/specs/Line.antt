-- What a line of a crontab is to cron(8), and the pattern that says when its job runs. A line is its bytes without the line feed.
use Rattle.std.specs.Prelude.{ℕ, Bool, true, false, ◌||◌, ◌==◌, nat_lt, List, ◌∷◌, ◌++◌, length, codes, Option, Some, None, option_map, Result, Ok, Err, if◌then◌else◌}
use Rattle.std.specs.Str.{bytes_eq}
use Rattle.crontab.specs.declared.bytes.Kind.TheVariants as kinds
use Rattle.crontab.specs.declared.field.Names.TheVariants as names
use Rattle.crontab.specs.declared.field.FieldBounds.{FieldBounds}
use Rattle.crontab.specs.declared.line.Dialect.{Dialect}
use Rattle.crontab.specs.declared.line.Dialect.TheVariants as dialects
use Rattle.crontab.specs.declared.line.Fault.{Fault}
use Rattle.crontab.specs.declared.line.Fault.TheVariants as faults
use Rattle.crontab.specs.Bytes.{front, text_after, begins_with, rest_of, text_before, trim_end}
use Rattle.crontab.specs.List.{field_text}
use Rattle.crontab.specs.Setting.{has, is_setting, sets_zone}

-- ---- when a job runs

-- as the machine starts; at no time, since a field names nothing; or as croner's parser reads a text of five fields, with both day
-- fields to match or either
pub data Timing : Type 0 where
  reboot never : Timing
  named : List ℕ → Bool → Timing

-- the patterns of the nicknames, which are written small
abbrev pub pattern_of_nickname : List ℕ → Option (List ℕ)
pattern_of_nickname word =
    if bytes_eq word (codes "yearly") || bytes_eq word (codes "annually") then Some (codes "0 0 1 1 *")
    else if bytes_eq word (codes "monthly") then Some (codes "0 0 1 * *")
    else if bytes_eq word (codes "weekly") then Some (codes "0 0 * * 0")
    else if bytes_eq word (codes "daily") || bytes_eq word (codes "midnight") then Some (codes "0 0 * * *")
    else if bytes_eq word (codes "hourly") then Some (codes "0 * * * *")
    else None

-- when a job with a nickname runs: at the start of the machine, or by a pattern
abbrev pub nickname_of : List ℕ → Option Timing
nickname_of word =
    if bytes_eq word (codes "reboot") then Some reboot
    else option_map (λ text. named text false) (pattern_of_nickname word)

-- the values of each field
abbrev pub minute_bounds : FieldBounds
minute_bounds = record { first = 0; last = 59; names = names.None }

abbrev pub hour_bounds : FieldBounds
hour_bounds = record { first = 0; last = 23; names = names.None }

abbrev pub day_bounds : FieldBounds
day_bounds = record { first = 1; last = 31; names = names.None }

abbrev pub month_bounds : FieldBounds
month_bounds = record { first = 1; last = 12; names = names.Months }

abbrev pub weekday_bounds : FieldBounds
weekday_bounds = record { first = 0; last = 7; names = names.Weekdays }

-- the five words, and what follows them
pub record Five : Type 0 where
  pub minutes : List ℕ
  pub hours : List ℕ
  pub days : List ℕ
  pub months : List ℕ
  pub weekdays : List ℕ
  pub rest : List ℕ

-- what follows the first word and the blanks after it
abbrev pub next : List ℕ → List ℕ
next text = text_after kinds.Blank (text_after kinds.Word text)

-- what directly follows the fifth word
abbrev pub text_after_fields : List ℕ → List ℕ
text_after_fields text = text_after kinds.Word (next (next (next (next text))))

-- the five words with which a text begins
abbrev pub words_of : List ℕ → Five
words_of text = record {
  minutes = front kinds.Word text;
  hours = front kinds.Word (next text);
  days = front kinds.Word (next (next text));
  months = front kinds.Word (next (next (next text)));
  weekdays = front kinds.Word (next (next (next (next text))));
  rest = next (next (next (next (next text))));
}

-- both day fields must match where one of them begins with a star
abbrev pub are_both : Five → Bool
are_both w = begins_with 42 w.days || begins_with 42 w.weekdays

-- five texts as one
abbrev pub spaced_text : List ℕ → List ℕ → List ℕ → List ℕ → List ℕ → List ℕ
spaced_text a b c d e = a ++ (32 ∷ (b ++ (32 ∷ (c ++ (32 ∷ (d ++ (32 ∷ e)))))))

-- the times of five fields. A day field that names nothing leaves the days to the other where either may match, and else there are none
abbrev pub times_of_fields : Bool → List ℕ → List ℕ → List ℕ → List ℕ → List ℕ → Timing
times_of_fields both minutes hours days months weekdays =
    if length minutes == 0 || (length hours == 0 || length months == 0) then never
    else if length days == 0 then (if both || length weekdays == 0 then never else named (spaced_text minutes hours (codes "*") months weekdays) both)
    else if length weekdays == 0 then (if both then never else named (spaced_text minutes hours days months (codes "*")) both)
    else named (spaced_text minutes hours days months weekdays) both

-- goes on with what was read, or is the fault
abbrev pub with : {X Y : Type 0} → Option X → Fault → (X → Result Y Fault) → Result Y Fault
with None fault then_read = Err fault
with (Some x) fault then_read = then_read x

-- the texts of five fields
pub record FiveTexts : Type 0 where
  pub minutes : List ℕ
  pub hours : List ℕ
  pub days : List ℕ
  pub months : List ℕ
  pub weekdays : List ℕ

-- the texts of five words, or the first word that cron does not take
abbrev pub texts_of : Five → Result FiveTexts Fault
texts_of w =
    with (field_text minute_bounds w.minutes) faults.Minutes (λ minutes.
    with (field_text hour_bounds w.hours) faults.Hours (λ hours.
    with (field_text day_bounds w.days) faults.Days (λ days.
    with (field_text month_bounds w.months) faults.Months (λ months.
    with (field_text weekday_bounds w.weekdays) faults.Weekdays (λ weekdays.
    Ok (record { minutes = minutes; hours = hours; days = days; months = months; weekdays = weekdays }))))))

-- the times of five words whose texts were read; no command may begin with the byte 255, which is the end of the file there
abbrev pub times_of_texts : Five → Result FiveTexts Fault → Result Timing Fault
times_of_texts w (Err fault) = Err fault
times_of_texts w (Ok t) =
    if begins_with 255 w.rest then Err faults.Weekdays
    else Ok (times_of_fields (are_both w) t.minutes t.hours t.days t.months t.weekdays)

-- when a job of five words runs, or the field at fault
abbrev pub times_of : Five → Result Timing Fault
times_of w = times_of_texts w (texts_of w)

-- ---- the line

-- a job: when it runs, its times as they are written, the user's name where the file names one, and the command
pub record Task : Type 0 where
  pub times : Timing
  pub schedule : List ℕ
  pub user : Option (List ℕ)
  pub command : List ℕ

-- what a line is. Of a setting it says whether its variable is `CRON_TZ` or `TZ`; a pattern is a text for croner's parser
pub data Line : Type 0 where
  blank comment : Line
  setting : Bool → Line
  job : Task → Line
  pattern : List ℕ → Line
  refused : Fault → Line

-- the longest command
abbrev pub command_length : ℕ
command_length = 998

-- a job, unless its command is too long
abbrev pub with_command : Timing → List ℕ → Option (List ℕ) → List ℕ → Line
with_command times schedule user command =
    if nat_lt command_length (length command) then refused faults.LongCommand
    else job (record { times = times; schedule = schedule; user = user; command = command })

-- after the times stands the command, which may be empty and may not begin with a star
abbrev pub job_of_user : Timing → List ℕ → List ℕ → Line
job_of_user times schedule rest = if begins_with 42 rest then refused faults.Command else with_command times schedule None rest

-- or a user's name, one blank and the command
abbrev pub job_of_system : Timing → List ℕ → List ℕ → Line
job_of_system times schedule rest =
    if length (front kinds.Word rest) == 0 || length (text_after kinds.Word rest) == 0 then refused faults.User
    else with_command times schedule (Some (front kinds.Word rest)) (rest_of (text_after kinds.Word rest))

-- the rest of a line whose times were read, in a crontab of the system or of a user
abbrev pub job_with_times : Bool → Timing → List ℕ → List ℕ → Line
job_with_times system times schedule rest = if system then job_of_system times schedule rest else job_of_user times schedule rest

-- a line with a nickname: its times are written as `@` and the word
abbrev pub job_of_nickname : Bool → List ℕ → Option Timing → Line
job_of_nickname system text None = refused faults.Nickname
job_of_nickname system text (Some times) = job_with_times system times (front kinds.Word text) (next text)

-- a line with five fields: its times are written up to the end of the fifth
abbrev pub job_of_fields : Bool → List ℕ → Result Timing Fault → Line
job_of_fields system text (Err fault) = refused fault
job_of_fields system text (Ok times) = job_with_times system times (text_before text (text_after_fields text)) (words_of text).rest

-- a line that is no setting
abbrev pub job_of_line : Bool → List ℕ → Line
job_of_line system text =
    if begins_with 64 text then job_of_nickname system text (nickname_of (front kinds.Word (rest_of text)))
    else job_of_fields system text (times_of (words_of text))

-- a line that begins with neither a blank nor a comment's sign
abbrev pub entry_of_text : Bool → List ℕ → Line
entry_of_text system text =
    if has 0 text then refused faults.Nul
    else if is_setting text then setting (sets_zone text)
    else job_of_line system text

-- a crontab of the system
abbrev pub is_system : Dialect → Bool
is_system dialects.System = true
is_system other = false

-- a file of patterns, and no crontab
abbrev pub are_patterns : Dialect → Bool
are_patterns dialects.Patterns = true
are_patterns other = false

-- a line of a file of patterns: its text without the spaces after it, where any is left
abbrev pub entry_of_pattern : List ℕ → Line
entry_of_pattern text = if length (trim_end text) == 0 then blank else pattern (trim_end text)

-- a line, in a dialect
abbrev pub entry_of : Dialect → List ℕ → Line
entry_of dialect line =
    let text = text_after kinds.Blank line in
    if length text == 0 then blank
    else if begins_with 35 text then comment
    else if are_patterns dialect then entry_of_pattern text
    else entry_of_text (is_system dialect) text
