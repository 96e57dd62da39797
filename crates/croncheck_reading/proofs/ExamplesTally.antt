-- Worked rows of counts and of the status, computed from their definitions.
use Rattle.std.proofs.Common.{◌≡◌, ℕ, Bool, true, false, Some, None, refl}
use Rattle.std.specs.Prelude.{codes}
use Rattle.std.specs.Fmt.{digits}
use Rattle.std.specs.Path.{path_file_name, path_parent, split_last_component, trim_trailing, rsplit_once}
use Rattle.crontab.specs.declared.line.Dialect.{Dialect}
use Rattle.crontab.specs.declared.line.Dialect.TheVariants as dialects
use Rattle.crontab.specs.Line.{Line, blank, comment, setting}
use Rattle.croncheck_report.specs.declared.report.Report.{Report}
use Rattle.croncheck_report.specs.declared.report.Report.TheVariants as reports
use Rattle.croncheck_report.specs.declared.report.SettingReport.{SettingReport}
use Rattle.croncheck_reading.specs.declared.tally.Tally.{Tally}
use Rattle.croncheck_report.specs.FileSeen.{File, is_ignored, unread, with_line}
use Rattle.croncheck_reading.specs.Files.{summary_of}
use Rattle.croncheck_reading.specs.Tally.{none_counted, counted, counted_job, added, is_too_many, with_file, status_of}

-- a tally of this many refused lines, and lines with a warning
abbrev tally : ℕ → ℕ → Tally
tally refused warned = record { lines = 20_000; jobs = 2; refused = refused; warned = warned; ignored = 0 }

-- a setting of which nothing is found but that it says a zone elsewhere, if it does
abbrev zone_found : Bool → SettingReport
zone_found is_zone = record { is_zone = is_zone; has_no_effect = false; is_not_expanded = false; sends_no_mail = false; is_hiding = false }

-- how many lines have a warning with this one after so many of a file, of which nothing else was seen
abbrev warned_with : Dialect → ℕ → Line → Report → ℕ
warned_with dialect lines line report = (added (is_too_many dialect lines line (unread (codes "tab"))) (tally 0 0) report).warned

-- the first line of a user's crontab, which is a setting
abbrev warned_first : Report → ℕ
warned_first report = warned_with dialects.User 0 (setting false) report

-- ---- lines

a_zone : added false none_counted (reports.Setting (zone_found true) true) ≡ record { lines = 1; jobs = 0; refused = 0; warned = 1; ignored = 0 }
a_zone = refl

a_setting_without_its_line_feed : warned_with dialects.System 0 (setting false) (reports.Setting (zone_found false) false) ≡ 1
a_setting_without_its_line_feed = refl

both_count_once : warned_first (reports.Setting (zone_found true) false) ≡ 1
unfolding path_file_name path_parent split_last_component trim_trailing rsplit_once
both_count_once = refl

a_value_that_is_not_expanded : warned_first (reports.Setting (record (zone_found false) { is_not_expanded = true }) true) ≡ 1
unfolding path_file_name path_parent split_last_component trim_trailing rsplit_once
a_value_that_is_not_expanded = refl

a_control_byte_of_a_setting : warned_first (reports.Setting (record (zone_found false) { is_hiding = true }) true) ≡ 1
unfolding path_file_name path_parent split_last_component trim_trailing rsplit_once
a_control_byte_of_a_setting = refl

a_setting : warned_first (reports.Setting (zone_found false) true) ≡ 0
unfolding path_file_name path_parent split_last_component trim_trailing rsplit_once
a_setting = refl

line_10000 : warned_with dialects.User 9_999 blank reports.Silent ≡ 0
unfolding path_file_name path_parent split_last_component trim_trailing rsplit_once
line_10000 = refl

line_10001 : warned_with dialects.User 10_000 blank reports.Silent ≡ 1
unfolding path_file_name path_parent split_last_component trim_trailing rsplit_once
line_10001 = refl

line_10001_counts_once : warned_with dialects.User 10_000 (setting true) (reports.Setting (zone_found true) true) ≡ 1
unfolding path_file_name path_parent split_last_component trim_trailing rsplit_once
line_10001_counts_once = refl

line_10002 : warned_with dialects.User 10_001 blank reports.Silent ≡ 0
unfolding path_file_name path_parent split_last_component trim_trailing rsplit_once
line_10002 = refl

line_10001_of_patterns : warned_with dialects.Patterns 10_000 blank reports.Silent ≡ 0
line_10001_of_patterns = refl

-- of the system a job or a setting at line 10,004 is the first that is too many, and no comment
line_10003_of_the_system : warned_with dialects.System 10_002 (setting false) (reports.Setting (zone_found false) true) ≡ 0
line_10003_of_the_system = refl

line_10004_of_the_system : warned_with dialects.System 10_003 (setting false) (reports.Setting (zone_found false) true) ≡ 1
line_10004_of_the_system = refl

a_comment_at_line_10004_of_the_system : warned_with dialects.System 10_003 comment reports.Silent ≡ 0
a_comment_at_line_10004_of_the_system = refl

a_setting_after_20000_comments : warned_with dialects.System 20_000 (setting false) (reports.Setting (zone_found false) true) ≡ 1
a_setting_after_20000_comments = refl

a_second_at_line_10005 : is_too_many dialects.System 10_004 (setting false) (with_line 10_004 (setting false) true (unread (codes "tab"))) ≡ false
a_second_at_line_10005 = refl

-- of one that is installed, too
abbrev installed : File
installed = unread (codes "/var/spool/cron/crontabs/ann")

line_10001_of_an_installed_one : is_too_many dialects.User 10_000 blank installed ≡ false
unfolding path_file_name path_parent split_last_component trim_trailing rsplit_once
line_10001_of_an_installed_one = refl

line_10003_of_an_installed_one : is_too_many dialects.User 10_002 (setting false) installed ≡ false
unfolding path_file_name path_parent split_last_component trim_trailing rsplit_once
line_10003_of_an_installed_one = refl

line_10004_of_an_installed_one : is_too_many dialects.User 10_003 (setting false) installed ≡ true
unfolding path_file_name path_parent split_last_component trim_trailing rsplit_once
line_10004_of_an_installed_one = refl

a_plan_counts_none : (counted (tally 0 0) (reports.Setting (zone_found true) false)).warned ≡ 0
a_plan_counts_none = refl

-- a pattern that is read, and one that the program of `--for` refuses
a_pattern : counted_job (tally 1 0) false ≡ record (tally 1 0) { lines = 20_001; jobs = 3 }
a_pattern = refl

a_pattern_refused_elsewhere : counted_job (tally 1 0) true ≡ record (tally 2 0) { lines = 20_001 }
a_pattern_refused_elsewhere = refl

-- ---- the status

clean : status_of true (tally 0 0) ≡ 0
clean = refl

warned : status_of false (tally 0 3) ≡ 0
warned = refl

strictly_warned : status_of true (tally 0 3) ≡ 1
strictly_warned = refl

refused : status_of false (tally 1 0) ≡ 1
refused = refl

strictly_refused : status_of true (tally 1 0) ≡ 1
strictly_refused = refl

-- cron ignores a whole file, as one without its last line feed: a finding of any call
ignored : status_of false (with_file true false (tally 0 0)) ≡ 1
ignored = refl

not_ignored : status_of false (with_file false false (tally 0 0)) ≡ 0
not_ignored = refl

passed_over : status_of false (with_file false true (tally 0 0)) ≡ 0
passed_over = refl

strictly_passed_over : status_of true (with_file false true (tally 0 0)) ≡ 1
strictly_passed_over = refl

-- a crontab of so many lines, of which none is refused, and whose last line has its line feed or hasn't
abbrev file_of : Bool → File
file_of is_unfed = record (unread (codes "tab")) { is_unfed = is_unfed }

without_its_line_feed : is_ignored dialects.User 3 (file_of true) ≡ true
unfolding path_file_name path_parent split_last_component trim_trailing rsplit_once
without_its_line_feed = refl

with_its_line_feed : is_ignored dialects.User 3 (file_of false) ≡ false
unfolding path_file_name path_parent split_last_component trim_trailing rsplit_once
with_its_line_feed = refl

of_10001_lines : is_ignored dialects.User 10_001 (file_of false) ≡ true
unfolding path_file_name path_parent split_last_component trim_trailing rsplit_once
of_10001_lines = refl

of_10000_lines : is_ignored dialects.User 10_000 (file_of false) ≡ false
unfolding path_file_name path_parent split_last_component trim_trailing rsplit_once
of_10000_lines = refl

-- a crontab of the system of so many lines, the one of this number as read
abbrev is_ignored_with : ℕ → ℕ → Line → Bool
is_ignored_with lines number line = is_ignored dialects.System lines (with_line number line true (file_of false))

a_setting_at_line_10003 : is_ignored_with 30_000 10_003 (setting false) ≡ false
a_setting_at_line_10003 = refl

a_setting_at_line_10004 : is_ignored_with 10_004 10_004 (setting false) ≡ true
a_setting_at_line_10004 = refl

a_setting_in_front_of_20000_comments : is_ignored dialects.System 20_001 (with_line 20_001 comment true (with_line 1 (setting false) true (file_of false))) ≡ false
a_setting_in_front_of_20000_comments = refl

of_10003_lines_and_installed : is_ignored dialects.User 10_003 (with_line 10_003 (setting false) true installed) ≡ false
unfolding path_file_name path_parent split_last_component trim_trailing rsplit_once
of_10003_lines_and_installed = refl

of_10004_lines_and_installed : is_ignored dialects.User 10_004 (with_line 10_004 (setting false) true installed) ≡ true
unfolding path_file_name path_parent split_last_component trim_trailing rsplit_once
of_10004_lines_and_installed = refl

a_setting_in_front_of_20000_comments_of_an_installed_one :
    is_ignored dialects.User 20_001 (with_line 20_001 comment true (with_line 1 (setting false) true installed)) ≡ false
unfolding path_file_name path_parent split_last_component trim_trailing rsplit_once
a_setting_in_front_of_20000_comments_of_an_installed_one = refl

a_comment_after_a_late_setting : is_ignored dialects.System 10_005 (with_line 10_005 comment true (with_line 10_004 (setting false) true (file_of false))) ≡ true
a_comment_after_a_late_setting = refl

patterns_without_their_line_feed : is_ignored dialects.Patterns 10_001 (file_of true) ≡ false
patterns_without_their_line_feed = refl

-- ---- the summary

none_warned : summary_of None 1 (tally 0 0) ≡ codes "2 jobs, 0 refused\n"
unfolding digits
none_warned = refl

some_warned : summary_of None 1 (tally 1 3) ≡ codes "2 jobs, 1 refused, 3 with warnings\n"
unfolding digits
some_warned = refl

one_ignored : summary_of None 1 (record (tally 1 0) { ignored = 1 }) ≡ codes "2 jobs, 1 refused, 1 file ignored\n"
unfolding digits
one_ignored = refl

some_ignored : summary_of None 1 (record (tally 1 3) { ignored = 2 }) ≡ codes "2 jobs, 1 refused, 3 with warnings, 2 files ignored\n"
unfolding digits
some_ignored = refl

with_the_zone : summary_of (Some (codes "Europe/Paris")) 2 (tally 1 0) ≡ codes "2 files, 2 jobs, 1 refused, zone Europe/Paris\n"
unfolding digits
with_the_zone = refl

one_file_and_the_zone : summary_of (Some (codes "UTC0")) 1 (record (tally 1 3) { ignored = 1 })
    ≡ codes "1 file, 2 jobs, 1 refused, 3 with warnings, 1 file ignored, zone UTC0\n"
unfolding digits
one_file_and_the_zone = refl
