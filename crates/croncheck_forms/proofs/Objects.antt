-- Objects of lines and of files: that none has a float, and what is written of them.
use Rattle.std.proofs.Common.{◌≡◌, ◌∙◌, ℕ, ℤ, pos, negsuc, List, [], ◌∷◌, ◌++◌, true, false, Option, Some, None, map, ap, sym, subst, refl}
use Rattle.std.specs.Prelude.{option_map}
use Rattle.std.proofs.lemmas.Bool.{true≢false}
use Rattle.std.specs.Io.KnownBytes.{Appends}
use Rattle.jiff_tz.specs.declared.timezone.TimeZone.{TimeZone}
use Rattle.serde_json.specs.Data.{Data}
use Rattle.serde_json.specs.Find.{is_float, of_integer}
use Rattle.serde_json.specs.View.{items_of}
use Rattle.serde_json.specs.Written.{has_float, items_have_float, compact_text}
use Rattle.croncheck_findings.specs.declared.findings.Finding.{Finding}
use Rattle.croncheck_changes.specs.declared.changes.meetings.Met.{Met}
use Rattle.croncheck_often.specs.declared.often.Often.{Often}
use Rattle.croncheck_report.specs.declared.report.JobReport.{JobReport}
use Rattle.croncheck_report.specs.declared.report.Report.{Report}
use Rattle.croncheck_report.specs.declared.report.Report.TheVariants as reports
use Rattle.croncheck_runs.specs.declared.runs.Run.{Run}
use Rattle.croncheck_report.specs.declared.settings.Settings.{Settings}
use Rattle.croncheck_report.specs.declared.told.Told.{Told}
use Rattle.croncheck_report.specs.declared.told.Told.TheVariants as tolds
use Rattle.crontab.specs.Checked.{LineRead}
use Rattle.croncheck_report.specs.FileSeen.{File}
use Rattle.croncheck_findings.specs.Findings.{findings_seen, findings_said, findings_of_line, findings_of_file}
use Rattle.croncheck_forms.specs.Json.{integer_or_null, count_or_null, often_object, kind_of_line, Origin, string_or_null, finding_object, run_object, times_object, change_object, change_objects, job_object, job_data, object_of, WritesObject, next_origin, Writes, WritesIfFound, WritesFound, file_origin, WritesFile}
use Rattle.croncheck_output.specs.Output.{Written}
use Rattle.croncheck_reading.specs.Progress.{Reports}
use Rattle.croncheck_output.specs.Escaped.{exact_text}
use Rattle.croncheck_output.specs.User.{user_shown}
use Rattle.croncheck_report.specs.Offsets.{offset_of}
use Rattle.croncheck_reading.specs.Stand.{Stand}

-- ---- no float

integer_whole : (z : ℤ) → is_float (of_integer z) ≡ false
integer_whole (pos n) = refl
integer_whole (negsuc n) = refl

string_whole : (text : Option (List ℕ)) → has_float (string_or_null text) ≡ false
string_whole None = refl
string_whole (Some text) = refl

finding_whole : (f : Finding) → has_float (finding_object f) ≡ false
finding_whole f = rw (string_whole (option_map (λ field. field.now) f.field)) refl

findings_whole : (found : List Finding) → items_have_float (items_of (map finding_object found)) ≡ false
findings_whole [] = refl
findings_whole (f ∷ fs) = rw (finding_whole f) (findings_whole fs)

second_whole : (second : Option ℤ) → has_float (integer_or_null second) ≡ false
second_whole None = refl
second_whole (Some z) = integer_whole z

run_whole : (zone : TimeZone) (run : Run) → has_float (run_object zone run) ≡ false
run_whole zone run = rw (second_whole run.made_up, integer_whole (offset_of zone run.time.second), integer_whole run.time.second) refl

runs_whole : (zone : TimeZone) (runs : List Run) → items_have_float (items_of (map (run_object zone) runs)) ≡ false
runs_whole zone [] = refl
runs_whole zone (run ∷ runs) = rw (run_whole zone run) (runs_whole zone runs)

distance_whole : (distance : Option ℕ) → has_float (count_or_null distance) ≡ false
distance_whole None = refl
distance_whole (Some n) = refl

often_whole : (o : Often) → has_float (often_object o) ≡ false
often_whole o = rw (integer_whole o.from, distance_whole o.shortest, integer_whole o.until) refl

times_whole : (zone : TimeZone) (times : Told) → has_float (times_object zone times) ≡ false
times_whole zone tolds.Reboot = refl
times_whole zone tolds.Nothing = refl
times_whole zone (tolds.Runs text runs None None is_past) = rw (runs_whole zone runs.items.items)
times_whole zone (tolds.Runs text runs None (Some often) is_past) = rw (often_whole often, runs_whole zone runs.items.items)
times_whole zone (tolds.Runs text runs (Some previous) None is_past) = rw (runs_whole zone previous.items.items, runs_whole zone runs.items.items)
times_whole zone (tolds.Runs text runs (Some previous) (Some often) is_past) =
    rw (often_whole often, runs_whole zone previous.items.items, runs_whole zone runs.items.items)

change_whole : (c : Met) → has_float (change_object c) ≡ false
change_whole c =
    rw (integer_whole c.meeting.change.after, integer_whole c.meeting.change.before, integer_whole c.meeting.second, integer_whole c.meeting.change.instant)

changes_whole : (gap repeated : Option Met) → items_have_float (items_of (change_objects gap ++ change_objects repeated)) ≡ false
changes_whole None None = refl
changes_whole None (Some c) = rw (change_whole c) refl
changes_whole (Some c) None = rw (change_whole c) refl
changes_whole (Some c) (Some d) = rw (change_whole c, change_whole d) refl

job_whole : (zone : TimeZone) (j : JobReport) → has_float (job_object zone j) ≡ false
job_whole zone j =
    rw (changes_whole j.meetings.gap j.meetings.repeated, string_whole (option_map (λ c. exact_text c.now) j.command), times_whole zone j.times, string_whole (option_map (λ name. exact_text name) (user_shown (option_map (λ u. u.now) j.user))))

data_whole : (zone : TimeZone) (report : Report) → has_float (job_data zone report) ≡ false
data_whole zone reports.Silent = refl
data_whole zone (reports.Misnamed name) = refl
data_whole zone (reports.Setting seen is_fed) = refl
data_whole zone (reports.Job j) = job_whole zone j
data_whole zone (reports.Refused start end why) = refl

-- the object of a line has no float
pub object_whole : (o : Origin) (report : Report) (found : List Finding) → has_float (object_of o report found) ≡ false
object_whole o report found = rw (findings_whole found, data_whole o.zone report) refl

-- ---- the text that is written

-- the text of the object of a line was written, and a line feed
pub object_written : (o : Origin) (report : Report) (found : List Finding) (d : Data) (text : List ℕ) (old new : Option (List ℕ)) → d ≡ object_of o report found
    → (has_float d ≡ false → text ≡ compact_text d) → Appends old new (text ++ 10 ∷ []) → WritesObject o report found old new
object_written o report found d text old new is text_is appends =
    let whole : has_float d ≡ false = ap has_float is ∙ object_whole o report found in
    record { appends = subst (λ t. Appends old new (t ++ 10 ∷ [])) (text_is whole ∙ ap compact_text is) appends }

-- where the next line stands
abbrev origin_at : TimeZone → LineRead → List ℕ → ℕ → Origin
origin_at zone y file line = record { zone = zone; kind = kind_of_line y.is; file = file; line = line }

origin_is : (s : Settings) (zone : TimeZone) (old : Stand) (y : LineRead) (new : Stand) (report : Report) → Reports s old y report new
    → origin_at zone y new.file.name new.lines ≡ next_origin zone old y
origin_is s zone old y new report told =
    ap (λ (f : File). origin_at zone y f.name new.lines) told.file ∙ ap (origin_at zone y old.file.name) told.next

-- the object of the next line was written
pub line_written : (s : Settings) (zone : TimeZone) (old : Stand) (before : Written) (y : LineRead) (new : Stand) (after : Written) (report : Report)
    (found : List Finding) → Reports s old y report new → findings_seen found ≡ findings_of_line y.bytes report
    → WritesObject (record { zone = zone; kind = kind_of_line y.is; file = new.file.name; line = new.lines }) report found before.contents after.contents
    → Writes s zone old before y new after
line_written s zone old before y new after report found told are written = record {
  report = report;
  reported = told;
  found = found;
  found_are = are;
  written = subst (λ (o : Origin). WritesObject o report found before.contents after.contents) (origin_is s zone old y new report told) written;
}

-- the object of the next line was written, where something is found of it
pub finding_written : (s : Settings) (zone : TimeZone) (old : Stand) (before : Written) (y : LineRead) (new : Stand) (after : Written) (report : Report)
    (found : List Finding) → Reports s old y report new → findings_seen found ≡ findings_of_line y.bytes report
    → WritesIfFound (record { zone = zone; kind = kind_of_line y.is; file = new.file.name; line = new.lines }) report found before after
    → WritesFound s zone old before y new after
finding_written s zone old before y new after report found told are written = record {
  report = report;
  reported = told;
  found = found;
  found_are = are;
  written = subst (λ (o : Origin). WritesIfFound o report found before after) (origin_is s zone old y new report told) written;
}

-- the object of a file was written
pub file_written : (s : Settings) (zone : TimeZone) (stand : Stand) (old new : Written) (found : List Finding)
    → findings_said found ≡ findings_of_file s.dialect stand.lines stand.file
    → WritesObject (file_origin zone stand) reports.Silent found old.contents new.contents → WritesFile s zone stand old new
file_written s zone stand old new found are written = record { found = found; found_are = are; written = written }

-- ---- what isn't written

-- no value with a float is the object of a line
pub not_with_float : (o : Origin) (report : Report) (found : List Finding) (d : Data) → has_float d ≡ true → ¬ (d ≡ object_of o report found)
not_with_float o report found d has same = true≢false (sym has ∙ ap has_float same ∙ object_whole o report found)

-- what is known after known bytes
known_after : (before text : List ℕ) (after : Option (List ℕ)) → Appends (Some before) after text → after ≡ Some (before ++ text)
known_after before text None h = absurd h
known_after before text (Some after) h = ap Some h

-- of what is found one text alone is written
pub one_text : (o : Origin) (report : Report) (found : List Finding) (before : List ℕ) (after other : Option (List ℕ))
    → WritesObject o report found (Some before) after → WritesObject o report found (Some before) other → after ≡ other
one_text o report found before after other w v =
    let line : List ℕ = compact_text (object_of o report found) ++ 10 ∷ [] in
    known_after before line after w.appends ∙ sym (known_after before line other v.appends)
