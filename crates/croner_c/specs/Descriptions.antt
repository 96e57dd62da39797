-- A pattern in words: what the call answers.
use Rattle.std.specs.Prelude.{◌≡◌, ◌==◌, ℕ, ℤ, pos, List, length, Result, Ok, Err, if◌then◌else◌}
use Rattle.croner_pattern.specs.Description.{description}
use Rattle.croner_pattern.specs.Meaning.{Meaning}
use Rattle.croner_words.specs.English.{english}
use Rattle.croner_words.specs.Swedish.{swedish}
use Rattle.croner.specs.parser.Settings.{Settings}
use Rattle.croner_summary.specs.Lengths.{IsShortlySaid}
use Rattle.croner_summary.specs.Order.{IsWrittenInOrder}
use Rattle.croner_summary.specs.Summaries.{SaysTheSchedule}
use Rattle.croner_summary.specs.Texts.{text_of}
use Rattle.croner_summary.specs.declared.language.SummaryLanguage.{SummaryLanguage}
use Rattle.croner_summary.specs.declared.language.SummaryLanguage.TheVariants as languages
use Rattle.croner_summary.specs.declared.summary.Summary.{Summary}
use Rattle.croner_c.specs.Answers.{OrLack, After, Then}
use Rattle.croner_c.specs.Patterns.{IsPattern, settings_of}
use Rattle.croner_c.specs.Written.{written}
use Rattle.croner_c.specs.declared.status.Reason.{Reason}
use Rattle.croner_c.specs.declared.status.Reason.TheVariants as reasons
use Rattle.croner_c.specs.declared.words.Form.{Form}
use Rattle.croner_c.specs.declared.words.Form.TheVariants as forms

-- the form of a number
abbrev pub form_of : ℕ → Result Form Reason
form_of n =
    if n == 0 then Ok forms.English else (if n == 1 then Ok forms.Swedish
    else (if n == 2 then Ok forms.EnglishSummary else (if n == 3 then Ok forms.SwedishSummary else Err reasons.BadArgument)))

-- the text of a summary that says exactly the schedule, shortly and in order
pub record IsSummary (language : SummaryLanguage) (m : Meaning) (text : List ℕ) : Type 0 where
  pub summary : Summary
  pub says : SaysTheSchedule summary m
  pub short : IsShortlySaid summary
  pub ordered : IsWrittenInOrder summary
  pub text_is : text ≡ text_of language summary

-- a text, or lack of memory
abbrev pub IsText : List ℕ → Result (List ℕ) Reason → Type 0
IsText text answer = OrLack (λ found. found ≡ text) answer

-- the text of a summary, or lack of memory
abbrev pub IsSummaryText : SummaryLanguage → Meaning → Result (List ℕ) Reason → Type 0
IsSummaryText language m answer = OrLack (IsSummary language m) answer

-- a pattern in words
abbrev pub AreWords : Form → Meaning → Result (List ℕ) Reason → Type 0
AreWords forms.English m answer = IsText (description english m) answer
AreWords forms.Swedish m answer = IsText (description swedish m) answer
AreWords forms.EnglishSummary m answer = IsSummaryText languages.English m answer
AreWords forms.SwedishSummary m answer = IsSummaryText languages.Swedish m answer

-- of a text with its settings
abbrev pub AreWordsOf : Settings → Form → List ℕ → Result (List ℕ) Reason → Type 0
AreWordsOf s form text answer = After (IsPattern s text) (AreWords form) answer

-- the settings and the form of a call
abbrev pub with_form : Result Settings Reason → Result Form Reason → Result (Settings × Form) Reason
with_form (Ok s) (Ok form) = Ok (s, form)
with_form (Ok s) (Err r) = Err r
with_form (Err r) form = Err r

-- of a call
abbrev pub IsDescribed : List ℕ → ℕ → ℕ → Result (List ℕ) Reason → Type 0
IsDescribed text settings form answer = Then (with_form (settings_of settings) (form_of form)) (λ a. AreWordsOf a.0 a.1 text) answer

-- as much of the text is written as there is room for, and the length of all of it, with status 0
abbrev pub tell_text : List ℕ → List ℕ × ℕ → ℤ × (List ℕ × ℕ)
tell_text text old = (pos 0, (written text old.0, length text))
