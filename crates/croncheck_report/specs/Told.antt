-- When a job runs, as it is told. Source: this crate's documentation of `Told`.
use Rattle.std.specs.Prelude.{◌≡◌, ◌↔◌, not, ◌&&◌, ◌||◌, ◌==◌, ◌≤ℤ◌, ℕ, Bool, true, false, IsTrue, ℤ, List, length, Option, Result, Ok, string_bytes}
use Rattle.std.specs.declared.string.String.{String}
use Rattle.std.specs.declared.alloc.Global.{Global}
use Rattle.croner_base.specs.declared.time.civil.CivilDateTime.{CivilDateTime}
use Rattle.croner_base.specs.Civil.{wall_second}
use Rattle.croner_base.specs.TableZone.{table_moment}
use Rattle.croner_base.specs.Zone.{reading}
use Rattle.croner_pattern.specs.Meaning.{Meaning}
use Rattle.croner_pattern.specs.Schedule.{is_year_matching}
use Rattle.croner.specs.parser.Grammar.{Refusal, outcome}
use Rattle.croner_summary.specs.declared.summary.Summary.{Summary}
use Rattle.croner_summary.specs.declared.language.SummaryLanguage.{SummaryLanguage}
use Rattle.croner_summary.specs.declared.language.SummaryLanguage.TheVariants as languages
use Rattle.croner_summary.specs.Texts.{text_of}
use Rattle.croner_summary.specs.Summaries.{SaysTheSchedule}
use Rattle.croncheck_often.specs.declared.often.Often.{Often}
use Rattle.croncheck_runs.specs.declared.runs.Runner.{Runner}
use Rattle.croncheck_runs.specs.declared.runs.Runner.TheVariants as runners
use Rattle.croncheck_runs.specs.declared.runs.Runs.{Runs}
use Rattle.croncheck_report.specs.declared.settings.Settings.{Settings}
use Rattle.croncheck_report.specs.declared.settings.Tongue.TheVariants as tongues
use Rattle.croncheck_report.specs.declared.settings.Tongue.{Tongue}
use Rattle.croncheck_report.specs.declared.told.Told.TheVariants as tolds
use Rattle.croncheck_report.specs.declared.told.Told.{Told}
use Rattle.crontab.specs.Line.{Timing, reboot, never, named}
use Rattle.crontab.specs.Parsed.{crontab_settings}
use Rattle.croncheck_often.specs.Often.{AreOften}
use Rattle.croncheck_runs.specs.Previous.{AreBefore}
use Rattle.croncheck_runs.specs.Runs.{listed_by, IsListed, is_over, is_at_end_of_window}
use Rattle.croncheck_report.specs.Settings.{start_of, window_end, asked_of, asked_until}
use Rattle.croncheck_warnings.specs.Starred.{is_starred}

-- the pattern names no year from this one on
abbrev pub NamesNoneFrom : Meaning → ℤ → Type 0
NamesNoneFrom m year = (later : ℤ) → year ≤ℤ later → is_year_matching m later ≡ false

-- the pattern names no year from that on which the clock shows at the start
pub record IsPastAt (m : Meaning) (w : ℤ) (is_past : Bool) : Type 0 where
  pub shown : CivilDateTime
  pub shows : wall_second shown ≡ w
  pub none : IsTrue is_past ↔ NamesNoneFrom m shown.date.year

-- the language in which a summary is told
abbrev pub summary_language : Tongue → SummaryLanguage
summary_language tongues.English = languages.English
summary_language tongues.Swedish = languages.Swedish

-- the words for a meaning: in a language those of a summary that says exactly what is scheduled
abbrev pub IsDescription : Tongue → Meaning → List ℕ → Type 0
IsDescription l m text = (s : Summary) × SaysTheSchedule s m × (text ≡ text_of (summary_language l) s)

-- a meaning is told in words, and by what is listed of it after the start by what runs the line, before it and how often where that is asked, and
-- whether its years are past
pub record IsTold (s : Settings) (runner : Runner) (m : Meaning) (text : String Global) (runs : Runs) (previous : Option Runs) (often : Option Often)
    (is_past : Bool) : Type 0 where
  pub described : IsDescription s.language m (string_bytes text)
  pub listed : IsListed (listed_by runner m (start_of s)) (window_end s) s.listing runs
  pub before : AreBefore (asked_of s) runner m previous
  pub often_told : AreOften (listed_by runner m (start_of s)) (window_end s) (asked_until s) often
  pub past : IsPastAt m (reading (table_moment (start_of s))) is_past

-- what was told of a text for a parser: that of its meaning, so that it has one
abbrev pub TellsMeaning : Settings → Runner → Result Meaning Refusal → Told → Type 0
TellsMeaning s runner read tolds.Reboot = ⊥
TellsMeaning s runner read tolds.Nothing = ⊥
TellsMeaning s runner read (tolds.Runs text runs previous often is_past) = (m : Meaning) × (read ≡ Ok m) × IsTold s runner m text runs previous often is_past

-- what runs the job of a crontab whose times are written so
abbrev pub cron_of : List ℕ → Runner
cron_of schedule = runners.Cron (is_starred schedule)

-- what was told of a job's times, which are written so
abbrev pub TellsTiming : Settings → List ℕ → Timing → Told → Type 0
TellsTiming s schedule reboot told = told ≡ tolds.Reboot
TellsTiming s schedule never told = told ≡ tolds.Nothing
TellsTiming s schedule (named text both) told = TellsMeaning s (cron_of schedule) (outcome (crontab_settings both) text) told

-- ---- never

-- its listing ends where the clock's window does
abbrev pub is_at_window_end : Told → Bool
is_at_window_end tolds.Reboot = false
is_at_window_end tolds.Nothing = false
is_at_window_end (tolds.Runs text runs previous often is_past) = is_at_end_of_window runs.end

-- a field names nothing, or the listing is over and has no run
abbrev pub is_never : Told → Bool
is_never tolds.Reboot = false
is_never tolds.Nothing = true
is_never (tolds.Runs text runs previous often is_past) = is_over runs.end && length runs.items.items == 0

-- no year that it names is left at the start, and its listing doesn't end where the clock's window does
abbrev pub is_told_past : Told → Bool
is_told_past tolds.Reboot = false
is_told_past tolds.Nothing = false
is_told_past (tolds.Runs text runs previous often is_past) = is_past && not (is_at_end_of_window runs.end)

-- no run is left
abbrev pub is_idle : Told → Bool
is_idle told = is_never told || is_told_past told
