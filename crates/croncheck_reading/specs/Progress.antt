-- What a line leaves of how far the reading has come, with its report. Source: this crate's documentation of `Progress`.
use Rattle.std.specs.Prelude.{◌≡◌, ℕ, List, true, false, Option, None, option_map}
use Rattle.crontab.specs.declared.line.Entry.{Entry}
use Rattle.croncheck_report.specs.declared.report.Report.{Report}
use Rattle.croncheck_report.specs.declared.report.Same.{Same}
use Rattle.croncheck_report.specs.declared.settings.Settings.{Settings}
use Rattle.croncheck_reading.specs.declared.same.Seen.{Seen}
use Rattle.crontab.specs.declared.content.Outcome.{Outcome}
use Rattle.crontab.specs.Checked.{LineRead, IsEntryOf}
use Rattle.crontab.specs.Content.{IsOutcome}
use Rattle.crontab.specs.Line.{Line}
use Rattle.croncheck_report.specs.Allowed.{IsLeft, allowed_after}
use Rattle.croncheck_report.specs.FileSeen.{with_line, with_report}
use Rattle.croncheck_report.specs.Report.{IsReportOfLine, earlier_of, file_and_line, place_for, report_after_line}
use Rattle.croncheck_reading.specs.Tally.{added, is_too_many, one_more}
use Rattle.croncheck_reading.specs.Same.{JobKey, IsCompared, FindsAny}
use Rattle.croncheck_reading.specs.Stand.{Stand}

-- what was found at a place of a line of which the parser makes this: the first job that is the same, where the settings compare jobs, and
-- else nothing
pub record IsFound (s : Settings) (line : Line) (outcome : Outcome) (here : List ℕ × ℕ) (old new : Seen) (found : Option Same) : Type 0 where
  pub alone : s.compares_jobs ≡ false → found ≡ None
  pub compared : s.compares_jobs ≡ true → (key : Option JobKey) × IsCompared line outcome key × FindsAny key here old new found

-- the next line of a file has this report: what is left of its whole report, where the words of the call and the comment above it allow
-- something. A refusal after a line that seems to go on says so. It was added to the tally with its warnings
pub record Reports (s : Settings) (old : Stand) (y : LineRead) (report : Report) (new : Stand) : Type 0 where
  pub entry : Entry
  pub outcome : Outcome
  pub found : Option Same
  pub whole : Report
  pub seen : IsEntryOf y entry
  pub reported : IsReportOfLine y.is_fed s y.bytes entry whole
  pub parsed : IsOutcome s.parser y.is outcome
  pub sought : IsFound s y.is outcome (old.file.name, one_more old.lines) old.seen new.seen found
  pub passed : earlier_of whole ≡ place_for whole (option_map file_and_line found)
  pub left : IsLeft s old.allowed (report_after_line old.file.is_open whole) report
  pub allowing : new.allowed ≡ allowed_after y.is y.bytes old.allowed
  pub tallied : new.tally ≡ added (is_too_many s.dialect old.lines y.is old.file) old.tally report
  pub file : new.file ≡ with_report report (with_line (one_more old.lines) y.is y.is_fed old.file)
  pub files : new.files ≡ old.files
  pub next : new.lines ≡ one_more old.lines
