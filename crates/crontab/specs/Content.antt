-- The content of a line, beside what it is: what croner's parser makes of its times, and its notes. Source: docs/CRONTAB.md, 'What the
-- crate's parser is given' and 'Notes'.
use Rattle.std.specs.Prelude.{◌≡◌, ℕ, List, [], Some, None, Result, Ok, Err, IsUtf8}
use Rattle.croner_base.specs.declared.errors.CronError.{CronError}
use Rattle.croner_base.specs.declared.errors.CronError.TheVariants.{OutOfMemory}
use Rattle.croner_pattern.specs.Meaning.{Meaning}
use Rattle.croner.specs.declared.parser.fault.PatternFault.{PatternFault}
use Rattle.croner.specs.parser.Faults.{IsFault}
use Rattle.croner.specs.parser.Gives.{Fails}
use Rattle.croner.specs.parser.Grammar.{Refusal, outcome}
use Rattle.croner.specs.parser.Settings.{Settings}
use Rattle.croner.specs.Views.{job_of as meaning_of_job}
use Rattle.crontab.specs.declared.content.Outcome.{Outcome}
use Rattle.crontab.specs.declared.content.Outcome.TheVariants as outcomes
use Rattle.crontab.specs.declared.notes.Note.{Note}
use Rattle.crontab.specs.Line.{Timing, reboot, never, named, Line, job, pattern, refused}
use Rattle.crontab.specs.Notes.{notes_of}
use Rattle.crontab.specs.Parsed.{crontab_settings}

-- ---- what the parser makes of the times

-- the parser refuses a text with an error of this kind
abbrev pub IsRefusalOf : CronError → Result Meaning Refusal → Type 0
IsRefusalOf e read = Fails e read × ¬ (e ≡ OutOfMemory)

-- of the text that a job's times were made into: a job of its meaning, or an error of its refusal
abbrev pub IsOutcomeOfText : Result Meaning Refusal → Outcome → Type 0
IsOutcomeOfText read outcomes.NoText = ⊥
IsOutcomeOfText read (outcomes.Job found) = read ≡ Ok (meaning_of_job found)
IsOutcomeOfText read (outcomes.TimesRefused e) = IsRefusalOf e read
IsOutcomeOfText read (outcomes.PatternRefused fault) = ⊥
IsOutcomeOfText read outcomes.NotUtf8 = ⊥

-- of a job's times: one that runs as the machine starts, or at no time, has no text
abbrev pub IsOutcomeOfTimes : Timing → Outcome → Type 0
IsOutcomeOfTimes reboot found = found ≡ outcomes.NoText
IsOutcomeOfTimes never found = found ≡ outcomes.NoText
IsOutcomeOfTimes (named text both) found = IsOutcomeOfText (outcome (crontab_settings both) text) found

-- a fault is one of the parser's refusal of a text
abbrev pub IsFaultOf : Settings → List ℕ → PatternFault → Type 0
IsFaultOf s text fault = (refusal : Refusal) × (outcome s text ≡ Err refusal) × IsFault s text refusal fault

-- of a pattern: a job of its meaning, a fault of its refusal, or that it is no UTF-8
abbrev pub IsOutcomeOfPattern : Settings → List ℕ → Outcome → Type 0
IsOutcomeOfPattern s text outcomes.NoText = ⊥
IsOutcomeOfPattern s text (outcomes.Job found) = IsUtf8 text × (outcome s text ≡ Ok (meaning_of_job found))
IsOutcomeOfPattern s text (outcomes.TimesRefused e) = ⊥
IsOutcomeOfPattern s text (outcomes.PatternRefused fault) = IsUtf8 text × IsFaultOf s text fault
IsOutcomeOfPattern s text outcomes.NotUtf8 = ¬ (IsUtf8 text)

-- of a line: only jobs and patterns have a text
abbrev pub IsOutcome : Settings → Line → Outcome → Type 0
IsOutcome s (job task) found = IsOutcomeOfTimes task.times found
IsOutcome s (pattern text) found = IsOutcomeOfPattern s text found
IsOutcome s other found = found ≡ outcomes.NoText

-- ---- the notes

-- the notes of a line: of a job, and of one that cron refuses, for its fault
abbrev pub notes_in : Line → List ℕ → List Note
notes_in (job task) line = notes_of None line
notes_in (refused fault) line = notes_of (Some fault) line
notes_in other line = []
