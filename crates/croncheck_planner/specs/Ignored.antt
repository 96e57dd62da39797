-- What is told of a line that has no job in a plan, where the plan is a file. Source: docs/CRONTAB.md ("A plan as a file").
use Rattle.std.specs.Prelude.{◌≡◌, ℕ, Bool, true, false, List, [], ◌++◌, codes, string_bytes, if◌then◌else◌}
use Rattle.std.specs.List.{flat_map}
use Rattle.croncheck_findings.specs.declared.findings.Finding.{Finding}
use Rattle.croncheck_findings.specs.Findings.{findings_seen, findings_of_line}
use Rattle.croncheck_output.specs.declared.severity.Severity.{Severity}
use Rattle.croncheck_output.specs.declared.severity.Severity.TheVariants as severities
use Rattle.croncheck_output.specs.Output.{Written, WritesApart}
use Rattle.croncheck_report.specs.declared.report.Report.{Report}
use Rattle.croncheck_report.specs.declared.report.Report.TheVariants as reports
use Rattle.croncheck_report.specs.declared.told.Told.{Told}
use Rattle.croncheck_report.specs.declared.told.Told.TheVariants as tolds
use Rattle.croncheck_shown.specs.Shown.{place_text}

-- cron makes something else of a line than its writer may think
abbrev pub is_grave : Severity → Bool
is_grave severities.Error = true
is_grave severities.Warning = true
is_grave severities.Note = false

-- a thing that is wrong, as a line
abbrev pub ignored_line : List ℕ → ℕ → Finding → List ℕ
ignored_line file line f = if is_grave f.severity then place_text file line ++ (string_bytes f.text ++ codes "\n") else []

-- it is of a job that starts as the machine does
abbrev pub is_told_at_reboot : Told → Bool
is_told_at_reboot tolds.Reboot = true
is_told_at_reboot tolds.Nothing = false
is_told_at_reboot (tolds.Runs text runs previous often is_past) = false

abbrev pub is_at_reboot : Report → Bool
is_at_reboot reports.Silent = false
is_at_reboot (reports.Misnamed name) = false
is_at_reboot (reports.Setting setting is_fed) = false
is_at_reboot (reports.Job job) = is_told_at_reboot job.times
is_at_reboot (reports.Refused start end why) = false

unfoldable pub reboot_line : List ℕ → ℕ → List ℕ
reboot_line file line = place_text file line ++ codes "starts as the machine does: it has no time in a plan\n"

abbrev pub reboot_text : Bool → List ℕ → ℕ → List ℕ
reboot_text is_so file line = if is_so then reboot_line file line else []

-- all that is wrong with a line, and that its job starts as the machine does, if it does
abbrev pub ignored_text : List ℕ → ℕ → Report → List Finding → List ℕ
ignored_text file line report found = flat_map (ignored_line file line) found ++ reboot_text (is_at_reboot report) file line

-- it was written of a line with this report, by what is found of that
pub record WritesIgnored (file : List ℕ) (line : ℕ) (text : List ℕ) (report : Report) (old new : Written) : Type 0 where
  pub found : List Finding
  pub found_is : findings_seen found ≡ findings_of_line text report
  pub written : WritesApart (ignored_text file line report found) old new
