-- The text of what is found of a line.
use Rattle.std.proofs.Common.{◌≡◌, ◌∙◌, ◌<◌, ℕ, List, [], ◌∷◌, ◌++◌, append_assoc, sym, length, arith}
use Rattle.std.proofs.lemmas.List.{append-nil}
use Rattle.croncheck_findings.specs.declared.findings.Finding.{Finding}
use Rattle.croncheck_output.specs.declared.look.Look.{Look}
use Rattle.croncheck_report.specs.declared.report.Report.{Report}
use Rattle.croncheck_findings.specs.Findings.{findings_seen, findings_of_line}
use Rattle.croncheck_shown.specs.Reported.{line_below, text_below, AreLinesFound, IsTextOfFound, IsFinding}
use Rattle.croncheck_shown.specs.Shown.{place_text}

-- the first finding was put after a text
pub one_below : (look : Look) (old new said : List ℕ) (f : Finding) (rest found : List Finding) → new ≡ old ++ said → said ≡ line_below look f → found ≡ f ∷ rest
    → new ++ text_below look rest ≡ old ++ text_below look found
one_below look old new said f rest found new_is said_is is = rw (new_is, said_is, is) (append_assoc old (line_below look f) (text_below look rest))

-- none is left
pub none_below : (look : Look) (done all : List ℕ) (found : List Finding) → length found ≡ 0 → done ++ text_below look found ≡ all → done ≡ all
none_below look done all [] none h = sym (append-nil done) ∙ h
none_below look done all (f ∷ fs) none h = absurd (omega (arith, none))

-- the lines of a report
pub lines_found : (look : Look) (file : List ℕ) (number : ℕ) (line : List ℕ) (report : Report) (head text : List ℕ) (found : List Finding)
    → findings_seen found ≡ findings_of_line line report → text ≡ place_text file number ++ (head ++ (text_below look found ++ 10 ∷ []))
    → AreLinesFound look file number line report text
lines_found look file number line report head text found are is = (head, found, are, is)

-- the lines of findings, of which there are some
pub some_text : (look : Look) (file : List ℕ) (number : ℕ) (head text : List ℕ) (found : List Finding) → 0 < length found
    → text ≡ place_text file number ++ (head ++ (text_below look found ++ 10 ∷ [])) → IsTextOfFound look file number found text
some_text look file number head text [] some is = absurd (omega (arith, some))
some_text look file number head text (f ∷ fs) some is = (head, is)

-- no lines of none
pub no_text : (look : Look) (file : List ℕ) (number : ℕ) (text : List ℕ) (found : List Finding) → length found ≡ 0 → text ≡ [] → IsTextOfFound look file number found text
no_text look file number text [] none is = is
no_text look file number text (f ∷ fs) none is = absurd (omega (arith, none))

-- the text of all that is found
pub is_finding : (look : Look) (file : List ℕ) (number : ℕ) (line : List ℕ) (report : Report) (text : List ℕ) (found : List Finding)
    → findings_seen found ≡ findings_of_line line report → IsTextOfFound look file number found text → IsFinding look file number line report text
is_finding look file number line report text found are is = (found, are, is)
