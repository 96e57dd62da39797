-- The job of a line's times, by what the parser makes of their text.
use Rattle.std.proofs.Common.{◌≡◌, sym, subst, Bool, ℕ, List, Some, Result, Ok, Err}
use Rattle.croner.specs.declared.job.Cron.{Cron}
use Rattle.croner.specs.parser.Grammar.{Refusal, outcome}
use Rattle.croner.specs.parser.Settings.{Settings}
use Rattle.croner.specs.Views.{job_of}
use Rattle.croner_pattern.specs.Meaning.{Meaning}
use Rattle.crontab.specs.Line.{Timing, named}
use Rattle.crontab.specs.Parsed.{crontab_settings}
use Rattle.crontab_runs.specs.Lines.{IsJobOfTimes}
use Rattle.croner_c.specs.Starts.{HaveNoTimes}

-- what the parser makes of the text, by the settings and the bytes that it was handed
read_as : (both : Bool) (text : List ℕ) (s : Settings) (given : List ℕ) (read : Result Meaning Refusal) → s ≡ crontab_settings both → given ≡ text → outcome s given ≡ read
    → outcome (crontab_settings both) text ≡ read
read_as both text s given read settings same is =
    subst (λ (q : Settings). outcome q text ≡ read) settings (subst (λ (bytes : List ℕ). outcome s bytes ≡ read) same is)

-- a text that the parser takes
pub accepted : (times : Timing) (text : List ℕ) (both : Bool) (s : Settings) (given : List ℕ) (cron : Cron) (star starred : Bool) → times ≡ named text both → s ≡ crontab_settings both
    → given ≡ text → outcome s given ≡ Ok (job_of cron) → starred ≡ star → IsJobOfTimes times star (Ok (Some (record { cron = cron; is_starred = starred })))
accepted times text both s given cron star starred is settings same read star_is =
    subst (λ (t : Timing). IsJobOfTimes t star (Ok (Some (record { cron = cron; is_starred = starred })))) (sym is)
    (read_as both text s given (Ok (job_of cron)) settings same read, star_is)

-- and one that it refuses
pub refused : (times : Timing) (text : List ℕ) (both : Bool) (s : Settings) (given : List ℕ) (refusal : Refusal) → times ≡ named text both → s ≡ crontab_settings both → given ≡ text
    → outcome s given ≡ Err refusal → HaveNoTimes times
refused times text both s given refusal is settings same read =
    subst HaveNoTimes (sym is) (refusal, read_as both text s given (Err refusal) settings same read)
