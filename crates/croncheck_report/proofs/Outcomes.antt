-- What the parser makes of a line's times, in the words of its report.
use Rattle.std.proofs.Common.{◌≡◌, ◌∙◌, ℕ, ◌+◌, List, length, Bool, true, false, true≢false, Some, None, Ok, Result, ap, sym, subst, refl}
use Rattle.std.specs.Prelude.{min}
use Rattle.std.proofs.Math.Nat.{min-eq_left}
use Rattle.croner.specs.declared.job.Cron.{Cron}
use Rattle.croner.specs.declared.parser.fault.PatternFault.{PatternFault}
use Rattle.croner.specs.parser.Grammar.{Refusal}
use Rattle.croner.specs.parser.Settings.{Settings as ParserSettings}
use Rattle.croner.specs.Views.{job_of}
use Rattle.croner_pattern.specs.Meaning.{Meaning}
use Rattle.crontab.specs.declared.content.Outcome.{Outcome}
use Rattle.crontab.specs.declared.content.Outcome.TheVariants as outcomes
use Rattle.crontab.specs.Content.{IsOutcomeOfTimes, IsOutcomeOfPattern, IsFaultOf}
use Rattle.crontab.specs.Line.{Timing, reboot, never, named}
use Rattle.croncheck_report.specs.declared.settings.Settings.{Settings}
use Rattle.croncheck_report.specs.declared.told.Told.{Told}
use Rattle.croncheck_report.specs.Report.{meaning_of_timing, meaning_read, IsFaultAfter}
use Rattle.croncheck_report.specs.Told.{cron_of, TellsMeaning, TellsTiming}

abbrev is_no_text : Outcome → Bool
is_no_text outcomes.NoText = true
is_no_text (outcomes.Job found) = false
is_no_text (outcomes.TimesRefused e) = false
is_no_text (outcomes.PatternRefused fault) = false
is_no_text outcomes.NotUtf8 = false

has_text : {X : Type 0} (found : Outcome) → is_no_text found ≡ false → found ≡ outcomes.NoText → X
has_text found has is = absurd (true≢false (sym (ap is_no_text is) ∙ has))

-- the meaning of times of which the parser makes a job
pub meaning_is : (t : Timing) (c : Cron) → IsOutcomeOfTimes t (outcomes.Job c) → meaning_of_timing t ≡ Some (job_of c)
meaning_is reboot c read = has_text (outcomes.Job c) refl read
meaning_is never c read = has_text (outcomes.Job c) refl read
meaning_is (named text both) c read = ap meaning_read read

pub tells_timing : (s : Settings) (schedule : List ℕ) (t : Timing) (c : Cron) (told : Told) → IsOutcomeOfTimes t (outcomes.Job c)
    → TellsMeaning s (cron_of schedule) (Ok (job_of c)) told → TellsTiming s schedule t told
tells_timing s schedule reboot c told read tells = has_text (outcomes.Job c) refl read
tells_timing s schedule never c told read tells = has_text (outcomes.Job c) refl read
tells_timing s schedule (named text both) c told read tells = subst (λ (r : Result Meaning Refusal). TellsMeaning s (cron_of schedule) r told) (sym read) tells

-- times without a text have no meaning
pub no_meaning : (t : Timing) → IsOutcomeOfTimes t outcomes.NoText → meaning_of_timing t ≡ None
no_meaning reboot read = refl
no_meaning never read = refl
no_meaning (named text both) read = absurd read

-- the fault of a pattern that the parser refuses
pub fault_of : (s : ParserSettings) (text : List ℕ) (fault : PatternFault) → IsOutcomeOfPattern s text (outcomes.PatternRefused fault) → IsFaultOf s text fault
fault_of s text fault (utf8, is) = is

-- its place lies in the text
pub fault_after : (s : ParserSettings) (blanks : ℕ) (text : List ℕ) (fault : PatternFault) → IsFaultOf s text fault
    → IsFaultAfter blanks fault (blanks + min fault.start (length text)) (blanks + min fault.end (length text))
fault_after s blanks text fault is =
    (ap (λ (n : ℕ). blanks + n) (min-eq_left is.2.placed.starts.0), ap (λ (n : ℕ). blanks + n) (min-eq_left is.2.placed.ends.0))
