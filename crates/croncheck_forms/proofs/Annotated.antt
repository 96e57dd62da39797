-- Findings as lines that a build reads: their escapes, and what is written of a line and of a file.
use Rattle.std.proofs.Common.{◌≡◌, ◌∙◌, ◌&&◌, ℕ, Bool, true, false, List, [], ◌∷◌, ◌++◌, append_assoc, ap, refl}
use Rattle.std.specs.Prelude.{◌==◌, not, unwrap_or}
use Rattle.std.specs.List.{list_all}
use Rattle.std.proofs.lemmas.List.Folds.{list_all-append}
use Rattle.crontab.specs.Checked.{LineRead}
use Rattle.croncheck_forms.specs.declared.annotator.Style.{Style}
use Rattle.croncheck_findings.specs.declared.findings.Finding.{Finding}
use Rattle.croncheck_report.specs.declared.report.Report.{Report}
use Rattle.croncheck_report.specs.declared.settings.Settings.{Settings}
use Rattle.croncheck_forms.specs.Annotations.{message_escape, property_escape, escaped_byte, escaped_bytes, ends_no_line, ends_no_value, ends_nothing, WritesLines, Annotates, AnnotatesFile}
use Rattle.croncheck_findings.specs.Findings.{findings_seen, findings_said, findings_of_line, findings_of_file, last_line}
use Rattle.croncheck_output.specs.Output.{Written}
use Rattle.croncheck_reading.specs.Progress.{Reports}
use Rattle.croncheck_reading.specs.Stand.{Stand}

-- ---- escapes

-- the first byte was put after a line
pub one_escaped : (old new : List ℕ) (is_property : Bool) (b : ℕ) (rest bytes : List ℕ) → new ≡ old ++ escaped_byte is_property b → bytes ≡ b ∷ rest
    → new ++ escaped_bytes is_property rest ≡ old ++ escaped_bytes is_property bytes
one_escaped old new is_property b rest bytes new_is is = rw (new_is, is) (append_assoc old (escaped_byte is_property b) (escaped_bytes is_property rest))

no_line_end : (b : ℕ) → (b == 13) ≡ false → (b == 10) ≡ false → (not (b == 10) && not (b == 13)) ≡ true
no_line_end b r f = rw (f, r) refl

no_value_end : (b : ℕ) → (b == 58) ≡ false → (b == 44) ≡ false → (b == 13) ≡ false → (b == 10) ≡ false
    → ((not (b == 58) && not (b == 44)) && (not (b == 10) && not (b == 13))) ≡ true
no_value_end b c d r f = rw (c, d, f, r) refl

message_closed : (b : ℕ) (percent back feed : Bool) → (b == 37) ≡ percent → (b == 13) ≡ back → (b == 10) ≡ feed
    → list_all ends_no_line (unwrap_or (message_escape b) (b ∷ [])) ≡ true
message_closed b true back feed p r f = rw p refl
message_closed b false true feed p r f = rw (p, r) refl
message_closed b false false true p r f = rw (p, r, f) refl
message_closed b false false false p r f = rw (p, r, f) (ap (λ t. t && true) (no_line_end b r f))

property_closed : (b : ℕ) (colon comma percent back feed : Bool) → (b == 58) ≡ colon → (b == 44) ≡ comma → (b == 37) ≡ percent → (b == 13) ≡ back
    → (b == 10) ≡ feed → list_all ends_no_value (unwrap_or (property_escape b) (b ∷ [])) ≡ true
property_closed b true comma percent back feed c d p r f = rw c refl
property_closed b false true percent back feed c d p r f = rw (c, d) refl
property_closed b false false true back feed c d p r f = rw (c, d, p) refl
property_closed b false false false true feed c d p r f = rw (c, d, p, r) refl
property_closed b false false false false true c d p r f = rw (c, d, p, r, f) refl
property_closed b false false false false false c d p r f = rw (c, d, p, r, f) (ap (λ t. t && true) (no_value_end b c d r f))

byte_closed : (is_property : Bool) (b : ℕ) → list_all (ends_nothing is_property) (escaped_byte is_property b) ≡ true
byte_closed true b = property_closed b _ _ _ _ _ refl refl refl refl refl
byte_closed false b = message_closed b _ _ _ refl refl refl

-- no byte of a text ends its line, and none of a property its value
pub closed : (is_property : Bool) (bytes : List ℕ) → list_all (ends_nothing is_property) (escaped_bytes is_property bytes) ≡ true
closed is_property [] = refl
closed is_property (b ∷ bs) =
    list_all-append (ends_nothing is_property) (escaped_byte is_property b) (escaped_bytes is_property bs)
    ∙ ap (λ t. t && list_all (ends_nothing is_property) (escaped_bytes is_property bs)) (byte_closed is_property b) ∙ closed is_property bs

pub all_closed : (is_property : Bool) (bytes text : List ℕ) → text ≡ escaped_bytes is_property bytes → list_all (ends_nothing is_property) text ≡ true
all_closed is_property bytes text is = rw is (closed is_property bytes)

-- ---- what is written

-- the lines of all that is found of the next line were written
pub line_annotated : (style : Style) (s : Settings) (old : Stand) (before : Written) (y : LineRead) (new : Stand) (after : Written) (report : Report)
    (found : List Finding) → Reports s old y report new → findings_seen found ≡ findings_of_line y.bytes report
    → WritesLines style new.file.name new.lines found before after → Annotates style s old before y new after
line_annotated style s old before y new after report found told are written =
    record { report = report; reported = told; found = found; found_are = are; written = written }

-- the lines of all that is found of a file were written
pub file_annotated : (style : Style) (s : Settings) (stand : Stand) (old new : Written) (found : List Finding)
    → findings_said found ≡ findings_of_file s.dialect stand.lines stand.file
    → WritesLines style stand.file.name (last_line stand.lines) found old new → AnnotatesFile style s stand old new
file_annotated style s stand old new found are written = record { found = found; found_are = are; written = written }
