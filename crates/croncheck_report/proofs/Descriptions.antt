-- What the words for a job say.
use Rattle.std.proofs.Common.{Ok, Err, Result}
use Rattle.std.specs.Prelude.{IfOk, string_bytes}
use Rattle.std.specs.declared.alloc.Global.{Global}
use Rattle.std.specs.declared.string.String.{String}
use Rattle.croner_base.specs.declared.errors.CronError.{CronError}
use Rattle.croner_pattern.specs.Meaning.{Meaning}
use Rattle.croner_summary.specs.declared.summary.Summary.{Summary}
use Rattle.croner_summary.specs.Texts.{text_of}
use Rattle.croner_summary.specs.Summaries.{SaysTheSchedule}
use Rattle.croner_words.specs.Writes.{Writes}
use Rattle.croncheck_report.specs.declared.settings.Tongue.{Tongue}
use Rattle.croncheck_report.specs.Told.{IsDescription, summary_language}

pub summary_told : (l : Tongue) (m : Meaning) (s : Summary) (r : Result (String Global) CronError) → SaysTheSchedule s m → Writes (text_of (summary_language l) s) r
    → IfOk r (λ text. IsDescription l m (string_bytes text))
summary_told l m s (Ok text) says is = (s, says, is)
summary_told l m s (Err e) says is = tt
