-- What cron makes of a file as a whole. Source: docs/CRONTAB.md, of `no-newline`, `many-lines` and a refused line.
use Rattle.std.specs.Prelude.{ℕ, Bool, true, false, not, ◌&&◌, ◌||◌, List, [], ◌++◌, codes, Option, Some, None, is_some, string_bytes, if◌then◌else◌}
use Rattle.croncheck_report.specs.declared.file_seen.FileSeen.{FileSeen}
use Rattle.crontab.specs.declared.line.Dialect.{Dialect}
use Rattle.crontab.specs.declared.line.Dialect.TheVariants as dialects
use Rattle.croncheck_files.specs.declared.fitness.Unfit.{Unfit}
use Rattle.croncheck_report.specs.declared.report.Report.{Report}
use Rattle.croncheck_report.specs.declared.report.Report.TheVariants as reports
use Rattle.croncheck_report.specs.Report.{is_refused_elsewhere}
use Rattle.crontab.specs.Line.{Line, blank, comment, setting, job, pattern, refused}
use Rattle.croncheck_files.specs.Fitness.{unfit_line}
use Rattle.croncheck_files.specs.Folder.{is_misnamed}
use Rattle.croncheck_files.specs.Names.{is_installed}
use Rattle.croncheck_warnings.specs.Warnings.{are_many_lines, is_after_last, is_continued}

-- a line counts for cron where no line feed ends it: it is neither blank nor a comment
abbrev pub counts : Line → Bool
counts blank = false
counts comment = false
counts (setting is_zone) = true
counts (job task) = true
counts (pattern text) = true
counts (refused fault) = true

-- the line is refused, or is a pattern that the program of a preset refuses
abbrev pub is_refused : Report → Bool
is_refused reports.Silent = false
is_refused (reports.Misnamed name) = false
is_refused (reports.Setting seen has_feed) = false
is_refused (reports.Job j) = is_refused_elsewhere j
is_refused (reports.Refused start end why) = true

-- ---- the file

-- what contracts see of a file: its name as it is shown, that a line of it is refused, that its last line has no line feed and counts, that
-- cron passes over it for its name, that a line which counts stands after the last one that cron itself takes, why
-- cron ignores it by what the file system says of it, if it does, and that its last line seems to go on in the next
pub record File : Type 0 where
  pub name : List ℕ
  pub has_refused : Bool
  pub is_unfed : Bool
  pub is_passed_over : Bool
  pub has_late : Bool
  pub unfit : Option Unfit
  pub is_open : Bool

-- what contracts see of a file
abbrev pub file_seen : FileSeen → File
file_seen f = record {
  name = string_bytes f.name;
  has_refused = f.has_refused;
  is_unfed = f.is_unfed;
  is_passed_over = f.is_passed_over;
  has_late = f.has_late;
  unfit = f.unfit;
  is_open = f.is_open;
}

-- a file of this name, of which no line was read
abbrev pub unread : List ℕ → File
unread name = record { name = name; has_refused = false; is_unfed = false; is_passed_over = false; has_late = false; unfit = None; is_open = false }

-- the same, where cron ignores it for this, if it does
abbrev pub unread_of : List ℕ → Option Unfit → File
unread_of name unfit = record (unread name) { unfit = unfit }

-- the same, where cron passes over it for its name
abbrev pub of_passed_over : List ℕ → File
of_passed_over name = record (unread name) { is_passed_over = true }

-- a job or a setting at this line, counted from 1, stands after the last one that cron itself takes
abbrev pub is_late : ℕ → Line → Bool
is_late number line = counts line && is_after_last number

-- a line seems to go on in the next: it is a job whose command ends in a backslash
abbrev pub is_open : Line → Bool
is_open blank = false
is_open comment = false
is_open (setting is_zone) = false
is_open (job task) = is_continued task.command
is_open (pattern text) = false
is_open (refused fault) = false

-- with one more line, the one of this number, which has its line feed or hasn't
abbrev pub with_line : ℕ → Line → Bool → File → File
with_line number line is_fed f = record f {
  is_unfed = not is_fed && counts line;
  has_late = f.has_late || is_late number line;
  is_open = is_open line;
}

-- with the report of one more line
abbrev pub with_report : Report → File → File
with_report report f = record f { has_refused = is_refused report || f.has_refused }

-- ---- its end

-- a reason for which cron ignores the file of a name
abbrev pub ignored : List ℕ → List ℕ → List ℕ
ignored name reason = name ++ (codes ": cron ignores the whole file: " ++ reason)

-- a text, or none
abbrev pub if_so : Bool → List ℕ → List ℕ
if_so holds text = if holds then text else []

-- `many-lines`: a file of so many lines has too many. `crontab` counts all lines of a user's. Cron itself reads one of the system, and one that is
-- installed: that has to end its jobs and settings in time
abbrev pub has_many_lines : Dialect → ℕ → File → Bool
has_many_lines dialects.User lines f = if is_installed f.name then f.has_late else are_many_lines lines
has_many_lines dialects.System lines f = f.has_late
has_many_lines dialects.Patterns lines f = false

-- what is said of one that cron itself reads
abbrev pub late_text : List ℕ
late_text = codes "a job or a setting stands after line 10003"

-- what is said of it
abbrev pub many_lines_text : Dialect → File → List ℕ
many_lines_text dialects.User f = if is_installed f.name then late_text else codes "it has more than 10000 lines"
many_lines_text dialects.System f = late_text
many_lines_text dialects.Patterns f = []

-- what is said of a file of this name that cron ignores for what the file system says of it, if it does
abbrev pub unfit_reason : List ℕ → Option Unfit → List ℕ
unfit_reason name None = []
unfit_reason name (Some unfit) = ignored name (unfit_line unfit)

-- cron ignores a crontab of so many lines as a whole: for what the file system says of it; or a line is refused, the last one has no line feed,
-- or there are too many
abbrev pub has_reason : Dialect → ℕ → File → Bool
has_reason dialect lines f = is_some f.unfit || ((f.has_refused || f.is_unfed) || has_many_lines dialect lines f)

-- the same of a file, which may be one of patterns: cron doesn't read it
abbrev pub is_ignored : Dialect → ℕ → File → Bool
is_ignored dialects.User lines f = has_reason dialects.User lines f
is_ignored dialects.System lines f = has_reason dialects.System lines f
is_ignored dialects.Patterns lines f = false

-- the reasons for which cron ignores a crontab of so many lines
abbrev pub reasons_of : Dialect → ℕ → File → List ℕ
reasons_of dialect lines f =
    ((unfit_reason f.name f.unfit ++ if_so f.has_refused (ignored f.name (codes "a line is refused\n")))
    ++ if_so f.is_unfed (ignored f.name (codes "its last line has no line feed (no-newline)\n")))
    ++ if_so (has_many_lines dialect lines f) (ignored f.name (many_lines_text dialect f ++ codes " (many-lines)\n"))

-- the same of a file, which may be one of patterns: cron doesn't read it
abbrev pub whole_of : Dialect → ℕ → File → List ℕ
whole_of dialects.User lines f = reasons_of dialects.User lines f
whole_of dialects.System lines f = reasons_of dialects.System lines f
whole_of dialects.Patterns lines f = []

-- `file-name`: what is said of a file of this name, which cron passes over
abbrev pub name_text : List ℕ → List ℕ
name_text name =
    name ++ codes ": warning: file-name: cron passes over a file of this name, and no line of it is read here: write letters, digits, _ and - alone\n"

-- the file is a crontab of the system, which cron ignores for its name
abbrev pub is_misnamed_as : Dialect → File → Bool
is_misnamed_as dialects.User f = false
is_misnamed_as dialects.System f = is_misnamed f.name
is_misnamed_as dialects.Patterns f = false

-- the file has the warning `file-name`, whether its lines were read or not
abbrev pub has_warned_name : Dialect → File → Bool
has_warned_name dialect f = f.is_passed_over || is_misnamed_as dialect f

-- `file-name`: what is said of a file of this name, whose lines were read
abbrev pub misnamed_text : List ℕ → List ℕ
misnamed_text name = name ++ codes ": warning: file-name: cron passes over a file of this name: write letters, digits, _ and - alone\n"

-- what is said of a file of so many lines as a whole, whose lines were read
abbrev pub read_ending_of : Dialect → ℕ → File → List ℕ
read_ending_of dialect lines f = if_so (is_misnamed_as dialect f) (misnamed_text f.name) ++ whole_of dialect lines f

-- what is said of a file of so many lines as a whole
abbrev pub ending_of : Dialect → ℕ → File → List ℕ
ending_of dialect lines f = if f.is_passed_over then name_text f.name else read_ending_of dialect lines f
