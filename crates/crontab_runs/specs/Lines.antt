-- The job of a line of a crontab. Source: this crate's documentation.
use Rattle.std.specs.Prelude.{◌≡◌, Bool, Option, Some, None, Result, Ok, Err}
use Rattle.croner_base.specs.declared.errors.CronError.{CronError}
use Rattle.croner_pattern.specs.Meaning.{Meaning}
use Rattle.croner.specs.parser.Gives.{Fails}
use Rattle.croner.specs.parser.Grammar.{Refusal, outcome}
use Rattle.croner.specs.Views.{job_of}
use Rattle.crontab.specs.Line.{Timing, reboot, never, named}
use Rattle.crontab.specs.Parsed.{crontab_settings}
use Rattle.crontab_runs.specs.declared.job.CrontabJob.{CrontabJob}

-- of what a text reads as, and of a mark: a job of that meaning which is starred as the mark says, or an error of its refusal
abbrev pub IsJobOfText : Result Meaning Refusal → Bool → Result (Option CrontabJob) CronError → Type 0
IsJobOfText read starred (Ok None) = ⊥
IsJobOfText read starred (Ok (Some job)) = (read ≡ Ok (job_of job.cron)) × (job.is_starred ≡ starred)
IsJobOfText read starred (Err e) = Fails e read

-- of the times of a line: none where it runs as the machine starts, or at no time
abbrev pub IsJobOfTimes : Timing → Bool → Result (Option CrontabJob) CronError → Type 0
IsJobOfTimes reboot starred found = found ≡ Ok None
IsJobOfTimes never starred found = found ≡ Ok None
IsJobOfTimes (named text both) starred found = IsJobOfText (outcome (crontab_settings both) text) starred found
