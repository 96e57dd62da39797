-- How far the reading of files has come. Source: this crate's documentation of `Progress`.
use Rattle.std.specs.Prelude.{ℕ, Bool, List, [], Option}
use Rattle.croncheck_reading.specs.declared.progress.Line.{Line}
use Rattle.croncheck_reading.specs.declared.progress.Progress.{Progress}
use Rattle.croncheck_files.specs.declared.fitness.Unfit.{Unfit}
use Rattle.croncheck_reading.specs.declared.tally.Tally.{Tally}
use Rattle.croncheck_reading.specs.declared.same.Seen.{Seen}
use Rattle.crontab.specs.declared.line.Dialect.{Dialect}
use Rattle.crontab.specs.Checked.{LineRead, line_seen}
use Rattle.crontab.specs.Line.{Line as Meant}
use Rattle.croncheck_report.specs.Allowed.{names_seen}
use Rattle.croncheck_report.specs.FileSeen.{File, file_seen, is_ignored, has_warned_name, unread_of, of_passed_over, with_line}
use Rattle.croncheck_reading.specs.Tally.{one_more, with_file}

-- how far the reading has come: what was counted, the jobs that were seen, what was seen of the file, its number from 1, how many of its lines
-- were read, and the names that comments allow to the next line
pub record Stand : Type 0 where
  pub tally : Tally
  pub seen : Seen
  pub file : File
  pub files : ℕ
  pub lines : ℕ
  pub allowed : List (List ℕ)

-- what contracts see of how far the reading has come
abbrev pub stand_of : Progress → Stand
stand_of p = record { tally = p.tally; seen = p.seen; file = file_seen p.file; files = p.files; lines = p.lines; allowed = names_seen p.allowed.items }

-- at the begin of the next file, whose name is shown so, and which cron ignores for this by what the file system says of it, if it does
abbrev pub begin_of_file : List ℕ → Option Unfit → Stand → Stand
begin_of_file name unfit s = record s { file = unread_of name unfit; files = one_more s.files; lines = 0; allowed = [] }

-- at the begin of the next file, whose name is shown so, and which cron passes over for it
abbrev pub begin_passed_over : List ℕ → Stand → Stand
begin_passed_over name s = record s { file = of_passed_over name; files = one_more s.files; lines = 0; allowed = [] }

-- at the next line, which is this and has its line feed or hasn't
abbrev pub at_line : Meant → Bool → Stand → Stand
at_line line is_fed s = record s { file = with_line (one_more s.lines) line is_fed s.file; lines = one_more s.lines }

-- at the end of the file: it is counted, if cron ignores it as a whole or for its name
abbrev pub end_of_file : Dialect → Stand → Stand
end_of_file dialect s = record s { tally = with_file (is_ignored dialect s.lines s.file) (has_warned_name dialect s.file) s.tally }

-- what is seen of a line
abbrev pub line_taken : Line → LineRead
line_taken l = line_seen l.text.now l.entry l.is_fed
