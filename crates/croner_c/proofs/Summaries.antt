-- The text of a summary.
use Rattle.std.proofs.Common.{◌≡◌, ℕ, List, Result}
use Rattle.croner_pattern.specs.Meaning.{Meaning}
use Rattle.croner_summary.specs.Lengths.{IsShortlySaid}
use Rattle.croner_summary.specs.Order.{IsWrittenInOrder}
use Rattle.croner_summary.specs.Summaries.{SaysTheSchedule}
use Rattle.croner_summary.specs.Texts.{text_of}
use Rattle.croner_summary.specs.declared.language.SummaryLanguage.{SummaryLanguage}
use Rattle.croner_summary.specs.declared.summary.Summary.{Summary}
use Rattle.croner_c.specs.Answers.{OrLack}
use Rattle.croner_c.specs.Descriptions.{IsSummary, IsSummaryText}
use Rattle.croner_c.specs.declared.status.Reason.{Reason}
use Rattle.croner_c.proofs.Answers.{lack_map}

-- of a summary that says the schedule
pub summarized : (language : SummaryLanguage) (m : Meaning) (s : Summary) (answer : Result (List ℕ) Reason) → SaysTheSchedule s m → IsShortlySaid s → IsWrittenInOrder s
    → OrLack (λ found. found ≡ text_of language s) answer → IsSummaryText language m answer
summarized language m s answer says short ordered h =
    lack_map (λ found. found ≡ text_of language s) (IsSummary language m) answer
    (λ found is. record { summary = s; says = says; short = short; ordered = ordered; text_is = is }) h
