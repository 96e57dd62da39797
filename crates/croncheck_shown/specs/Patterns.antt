-- What is told of patterns that are words of the call. Source: this crate's documentation of `tell_patterns`.
use Rattle.std.specs.Prelude.{◌≡◌, ◌||◌, ℕ, Bool, true, false, List, if◌then◌else◌}
use Rattle.croncheck_shown.specs.declared.patterns.Answer.{Answer}
use Rattle.croncheck_shown.specs.declared.patterns.Answer.TheVariants as answers
use Rattle.croncheck_report.specs.declared.report.Report.{Report}
use Rattle.croncheck_report.specs.declared.settings.Settings.{Settings}
use Rattle.crontab.specs.Bytes.{text_after}
use Rattle.crontab.specs.declared.bytes.Kind.TheVariants as kinds
use Rattle.crontab.specs.Checked.{TakesInTurn}
use Rattle.croncheck_report.specs.FileSeen.{is_refused}
use Rattle.croncheck_findings.specs.Findings.{Found, findings_of_line, described}
use Rattle.croncheck_output.specs.Output.{Written, WritesApart, IsFlushed}
use Rattle.croncheck_report.specs.Report.{IsReportOfPattern}
use Rattle.croncheck_shown.specs.Reported.{EndsWithFound}

-- what is found of it where this is asked
abbrev pub told_by : Answer → List ℕ → Report → List Found
told_by answers.Runs pattern report = findings_of_line pattern report
told_by answers.Description pattern report = described pattern report

-- how far the telling has come: what was written, and whether a pattern was refused
pub record Told : Type 0 where
  pub written : Written
  pub has_refused : Bool

-- nothing is told yet
abbrev pub untold : Written → Told
untold written = record { written = written; has_refused = false }

-- the pattern of a word: what stands after its blanks in front
abbrev pub pattern_in : List ℕ → List ℕ
pattern_in word = text_after kinds.Blank word

-- a word was told: it has its report as the pattern of a line of a file has it, of which lines were written, set apart, and below them
-- what is found of it
pub record TellsPattern (s : Settings) (answer : Answer) (old : Told) (word : List ℕ) (new : Told) : Type 0 where
  pub report : Report
  pub reported : IsReportOfPattern true s 0 (pattern_in word) report
  pub text : List ℕ
  pub below : EndsWithFound s.look (told_by answer (pattern_in word) report) text
  pub written : WritesApart text old.written new.written
  pub refused : new.has_refused ≡ (is_refused report || old.has_refused)

-- all words were told in order, what was written was passed on, and the status is 1 where one is refused, else 0
pub record TellsPatterns (s : Settings) (answer : Answer) (old : Written) (words : List (List ℕ)) (new : Written) (status : ℕ) : Type 0 where
  pub last : Told
  pub told : TakesInTurn (TellsPattern s answer) (untold old) words last
  pub flushed : IsFlushed last.written new
  pub status_is : status ≡ (if last.has_refused then 1 else 0)
