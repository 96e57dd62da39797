-- Worked rows of annotations, computed from the definitions.
use Rattle.std.proofs.Common.{◌≡◌, ℕ, List, None, Bor, String, Global, string_bytes, true, false, refl}
use Rattle.std.specs.Prelude.{codes}
use Rattle.std.specs.Fmt.{digits}
use Rattle.croncheck_findings.specs.declared.findings.Finding.{Finding}
use Rattle.croncheck_output.specs.declared.severity.Severity.{Severity}
use Rattle.croncheck_output.specs.declared.severity.Severity.TheVariants as severities
use Rattle.croncheck_forms.specs.Annotations.{escaped_bytes, gcc_text, github_line}

-- the name of a file that would forge a command
a_forged_name : escaped_bytes true (codes "a,b:c\n::error::%0A\r") ≡ codes "a%2Cb%3Ac%0A%3A%3Aerror%3A%3A%250A%0D"
a_forged_name = refl

-- in a message a colon and a comma stand for themselves
a_message : escaped_bytes false (codes "a,b:c 5%\r\n") ≡ codes "a,b:c 5%25%0D%0A"
a_message = refl

-- a finding of the second to the fifth byte, which is called `gone`
abbrev gone : Severity → Bor (List ℕ) → String Global → Finding
gone severity name text = record { severity = severity; name = name; field = None; extent = record { start = 1; end = 5 }; text = text }

a_warning_of_gcc : (name : Bor (List ℕ)) (text : String Global) → name.now ≡ codes "gone" → string_bytes text ≡ codes "All past."
    → gcc_text (codes "tab") 12 (gone severities.Warning name text) ≡ codes "tab:12:2: warning: All past. [gone]"
unfolding digits
a_warning_of_gcc name text name_is text_is = rw (name_is, text_is) refl

a_note_of_github : (name : Bor (List ℕ)) (text : String Global) → name.now ≡ codes "gone" → string_bytes text ≡ codes "All, past."
    → github_line (codes "a,b") 12 (gone severities.Note name text)
    ≡ codes "::notice file=a%2Cb,line=12,endLine=12,col=2,endColumn=6,title=gone::All, past.\n"
unfolding digits
a_note_of_github name text name_is text_is = rw (name_is, text_is) refl
