-- Worked rows of what is found of lines and of files, computed from the definitions.
use Rattle.std.proofs.Common.{◌≡◌, refl, true, false, ℕ, Bool, List, [], ◌∷◌, None, Some, map}
use Rattle.std.specs.Path.{path_file_name, path_parent, split_last_component, trim_trailing, rsplit_once}
use Rattle.croner_presets.specs.declared.difference.Difference.TheVariants as differences
use Rattle.croner_presets.specs.declared.preset.Preset.TheVariants as presets
use Rattle.croncheck_warnings.specs.declared.warnings.Warning.TheVariants as warnings
use Rattle.croncheck_findings.specs.Findings.{is_of_preset, severity_of, finding_without_field, place_of, findings_of_line, findings_of_file, Said}
use Rattle.croncheck_warnings.specs.Presets.{reading}
use Rattle.std.specs.Prelude.{codes}
use Rattle.croner.specs.declared.parser.fault.PatternField.TheVariants as fields
use Rattle.crontab.specs.declared.line.Dialect.TheVariants as dialects
use Rattle.crontab.specs.declared.line.Fault.TheVariants as faults
use Rattle.croncheck_output.specs.declared.severity.Severity.TheVariants as severities
use Rattle.croncheck_findings.specs.declared.findings.Extent.{Extent}
use Rattle.croncheck_files.specs.declared.fitness.Unfit.TheVariants as unfits
use Rattle.croncheck_report.specs.declared.report.Report.TheVariants as reports
use Rattle.croncheck_report.specs.declared.report.SettingReport.{SettingReport}
use Rattle.croncheck_report.specs.declared.report.Why.TheVariants as whys
use Rattle.croncheck_report.specs.FileSeen.{File, unread}
use Rattle.croncheck_report.specs.Report.{report_after_line}

abbrev extent : ℕ → ℕ → Extent
extent start end = record { start = start; end = end }

-- ---- places

-- the times of a job after two blanks
the_times : place_of (codes "  0 5 * * 1 x") (codes "0 5 * * 1") None ≡ extent 2 11
the_times = refl

the_minutes : place_of (codes "  0 5 * * 1 x") (codes "0 5 * * 1") (Some fields.Minutes) ≡ extent 2 3
the_minutes = refl

-- two blanks in front of the hours
the_hours : place_of (codes "0  */9 * * 1 x") (codes "0  */9 * * 1") (Some fields.Hours) ≡ extent 3 6
the_hours = refl

-- the command isn't a sixth field
the_weekdays : place_of (codes "0 5 * * 1 x y") (codes "0 5 * * 1") (Some fields.Weekday) ≡ extent 8 9
the_weekdays = refl

-- a pattern with seconds in front
the_seconds : place_of (codes "*/7 0 5 * * 1") (codes "*/7 0 5 * * 1") (Some fields.Seconds) ≡ extent 0 3
the_seconds = refl

the_hours_after_seconds : place_of (codes "0 0 */9 * * 1") (codes "0 0 */9 * * 1") (Some fields.Hours) ≡ extent 4 7
the_hours_after_seconds = refl

the_year : place_of (codes "0 0 5 * * 1 */5001") (codes "0 0 5 * * 1 */5001") (Some fields.Year) ≡ extent 12 18
the_year = refl

-- a carriage return after the last field
the_weekdays_of_dos : place_of (codes "0 0 * * 1\r") (codes "0 0 * * 1") (Some fields.Weekday) ≡ extent 8 9
the_weekdays_of_dos = refl

-- ---- lines

a_blank_line : findings_of_line [] reports.Silent ≡ []
a_blank_line = refl

-- a setting that says a zone or doesn't, and nothing else of which something is found
abbrev setting_of : Bool → SettingReport
setting_of is_zone = record { is_zone = is_zone; has_no_effect = false; is_not_expanded = false; sends_no_mail = false; is_hiding = false }

a_setting_without_effect : findings_of_line (codes "DELAY=5") (reports.Setting (record (setting_of false) { has_no_effect = true }) true)
    ≡ finding_without_field severities.Warning (codes "no-effect") (record { start = 0; end = 7 }) ∷ []
a_setting_without_effect = refl

a_zone : findings_of_line (codes " TZ=UTC") (reports.Setting (setting_of true) true) ≡ finding_without_field severities.Warning (codes "no-zone") (extent 1 7) ∷ []
a_zone = refl

-- a setting that changes no time, whose line feed is missing: that is found of the file
a_setting : findings_of_line (codes "A=1") (reports.Setting (setting_of false) false) ≡ []
a_setting = refl

-- one of mail that isn't sent
a_setting_of_mail : findings_of_line (codes "MAILTO=<ops>") (reports.Setting (record (setting_of false) { sends_no_mail = true }) true)
    ≡ finding_without_field severities.Warning (codes "no-mail") (extent 0 12) ∷ []
a_setting_of_mail = refl

-- weekday 7, which Kubernetes refuses; two minutes fewer than five apart, which GitHub reads otherwise
refused_by_the_program : severity_of (warnings.Preset (reading presets.Kubernetes differences.SundayAsSeven)) ≡ severities.Error
refused_by_the_program = refl

read_otherwise : severity_of (warnings.Preset (reading presets.Github differences.Frequent)) ≡ severities.Warning
read_otherwise = refl

-- minutes with an empty part, after a blank: a refusal and a note
a_refused_line : findings_of_line (codes " 5,,10 * * * * x") (reports.Refused 1 6 (whys.Cron faults.Minutes))
    ≡ finding_without_field severities.Error (codes "minutes") (extent 1 6) ∷ finding_without_field severities.Note (codes "empty-part") (extent 1 6) ∷ []
a_refused_line = refl

-- the same after a line that ends in a backslash
after_a_backslash : report_after_line true (reports.Refused 1 6 (whys.Cron faults.Minutes)) ≡ reports.Refused 1 6 (whys.AfterOpenLine faults.Minutes)
after_a_backslash = refl

after_another_line : report_after_line false (reports.Refused 1 6 (whys.Cron faults.Minutes)) ≡ reports.Refused 1 6 (whys.Cron faults.Minutes)
after_another_line = refl

the_same_of_the_latter : findings_of_line (codes " 5,,10 * * * * x") (reports.Refused 1 6 (whys.AfterOpenLine faults.Minutes))
    ≡ findings_of_line (codes " 5,,10 * * * * x") (reports.Refused 1 6 (whys.Cron faults.Minutes))
the_same_of_the_latter = refl

-- ---- files

abbrev names_of : List Said → List (List ℕ)
names_of all = map (λ s. s.found.name) all

-- one with a refused line, and whose last line has no line feed
abbrev broken : File
broken = record (unread (codes "f")) { has_refused = true; is_unfed = true }

a_good_file : findings_of_file dialects.User 3 (unread (codes "f")) ≡ []
unfolding path_file_name path_parent split_last_component trim_trailing rsplit_once
a_good_file = refl

all_of_a_file : names_of (findings_of_file dialects.User 10_001 broken)
    ≡ codes "refused-line" ∷ codes "no-newline" ∷ codes "many-lines" ∷ []
unfolding path_file_name path_parent split_last_component trim_trailing rsplit_once
all_of_a_file = refl

-- of the system the number of the lines says nothing
many_comments_of_the_system : findings_of_file dialects.System 30_000 (unread (codes "f")) ≡ []
unfolding path_file_name path_parent split_last_component trim_trailing rsplit_once
many_comments_of_the_system = refl

a_late_job_of_the_system : names_of (findings_of_file dialects.System 10_004 (record (unread (codes "f")) { has_late = true })) ≡ codes "many-lines" ∷ []
unfolding path_file_name path_parent split_last_component trim_trailing rsplit_once
a_late_job_of_the_system = refl

a_late_job_of_a_user : names_of (findings_of_file dialects.User 3 (record (unread (codes "spool/cron/crontabs/ann")) { has_late = true }))
    ≡ codes "many-lines" ∷ []
unfolding path_file_name path_parent split_last_component trim_trailing rsplit_once
a_late_job_of_a_user = refl

-- what the file system says stands first
another_users_file : names_of (findings_of_file dialects.System 3 (record broken { unfit = Some unfits.Owner }))
    ≡ codes "file-owner" ∷ codes "refused-line" ∷ codes "no-newline" ∷ []
unfolding path_file_name path_parent split_last_component trim_trailing rsplit_once
another_users_file = refl

-- one in `cron.d` whose lines are read, though cron ignores it for its name: that stands first
a_misnamed_file : names_of (findings_of_file dialects.System 3 (record (unread (codes "cron.d/backup.sh")) { has_refused = true }))
    ≡ codes "file-name" ∷ codes "refused-line" ∷ []
unfolding path_file_name path_parent split_last_component trim_trailing rsplit_once
a_misnamed_file = refl

-- cron doesn't read a file of patterns
a_file_of_patterns : findings_of_file dialects.Patterns 3 broken ≡ []
a_file_of_patterns = refl

-- ---- what another program makes otherwise

of_the_preset : is_of_preset (warnings.Preset (reading presets.Kubernetes differences.SundayAsSeven)) ≡ true
of_the_preset = refl

of_the_line : is_of_preset warnings.EitherDay ≡ false
of_the_line = refl
