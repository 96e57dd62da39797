-- When Debian's cron starts the job of a line: what the call answers.
use Rattle.std.specs.Prelude.{◌≡◌, ◌&&◌, ℕ, nat_le, ℤ, List, length, map, Option, Some, None, Result, Ok, Err, if◌then◌else◌}
use Rattle.croner_base.specs.Zone.{Zone, at_instant}
use Rattle.croner.specs.parser.Grammar.{Refusal, outcome}
use Rattle.crontab.specs.Line.{Timing, reboot, never, named, Line, job, entry_of}
use Rattle.crontab.specs.Parsed.{crontab_settings}
use Rattle.crontab.specs.Star.{has_clock_star}
use Rattle.crontab.specs.declared.line.Dialect.{Dialect}
use Rattle.crontab_runs.specs.Lines.{IsJobOfTimes}
use Rattle.crontab_runs.specs.Listing.{ListsStarts}
use Rattle.crontab_runs.specs.Views.{cron_job_of}
use Rattle.crontab_runs.specs.declared.job.CrontabJob.{CrontabJob}
use Rattle.crontab_runs.specs.declared.job.Start.{Start}
use Rattle.crontab_runs.specs.declared.listing.StartsEnd.{StartsEnd}
use Rattle.crontab_runs.specs.declared.listing.StartsEnd.TheVariants as ends
use Rattle.croner_c.specs.Answers.{OrLack, After, Then}
use Rattle.croner_c.specs.Clocks.{is_accepted, IsZoneAt}
use Rattle.croner_c.specs.Lines.{dialect_of}
use Rattle.croner_c.specs.Listings.{most_items, bound_of, reason_past}
use Rattle.croner_c.specs.Status.{status_of_end}
use Rattle.croner_c.specs.Written.{written}
use Rattle.croner_c.specs.declared.clock.Clock.{Clock}
use Rattle.croner_c.specs.declared.starts.Starts.{Starts}
use Rattle.croner_c.specs.declared.status.Reason.{Reason}
use Rattle.croner_c.specs.declared.status.Reason.TheVariants as reasons

-- the times of a job that has none, or whose text the parser refuses
abbrev pub HaveNoTimes : Timing → Type 0
HaveNoTimes reboot = Unit {0}
HaveNoTimes never = Unit {0}
HaveNoTimes (named text both) = (refusal : Refusal) × (outcome (crontab_settings both) text ≡ Err refusal)

-- the line is that of a job with times, and this is the job
abbrev pub IsJobIn : Line → CrontabJob → Type 0
IsJobIn (job t) found = IsJobOfTimes t.times (has_clock_star t.schedule) (Ok (Some found))
IsJobIn other found = ⊥

-- the line is no job with times
abbrev pub HasNoJob : Line → Type 0
HasNoJob (job t) = HaveNoTimes t.times
HasNoJob other = Unit {0}

-- the job of a line, or why there is none
abbrev pub IsJobOf : Line → Result CrontabJob Reason → Type 0
IsJobOf line (Ok found) = IsJobIn line found
IsJobOf line (Err reasons.Refused) = HasNoJob line
IsJobOf line (Err reasons.OutOfMemory) = Unit {0}
IsJobOf line (Err other) = ⊥

-- the starts at one second
abbrev pub starts_of : Start → Starts
starts_of s = record { second = s.second; times = s.count; reserved = 0 }

-- why a listing ends: with status 0 there is no more room, or the next start comes after the second that was asked for; where that second lies
-- after the window, the next start lies outside; or none is left in the searched years
abbrev pub end_of : ℤ → ℤ → StartsEnd → Option Reason
end_of until last ends.Full = None
end_of until last (ends.Past next) = reason_past until last
end_of until last ends.Over = Some reasons.Limit

-- in a zone: the starts up to the second that was asked for and to the window's last one, as many as there is room for
pub record ListsIn (j : CrontabJob) (c : Clock) (start until : ℤ) (room : ℕ) (z : Zone) (listing : List Starts × Option Reason) : Type 0 where
  pub starts : List Start
  pub end : StartsEnd
  pub lists : ListsStarts (cron_job_of j) (at_instant z start) (Some (bound_of until c.last)) room starts end
  pub starts_are : listing.0 ≡ map starts_of starts
  pub end_is : listing.1 ≡ end_of until c.last end

-- the starts, or lack of memory
abbrev pub AreStartsIn : CrontabJob → Clock → ℤ → ℤ → ℕ → Zone → Result (List Starts × Option Reason) Reason → Type 0
AreStartsIn j c start until room z answer = OrLack (ListsIn j c start until room z) answer

-- on a clock
abbrev pub AreStartsOn : CrontabJob → Clock → ℤ → ℤ → ℕ → Result (List Starts × Option Reason) Reason → Type 0
AreStartsOn j c start until room answer = After (IsZoneAt c start) (AreStartsIn j c start until room) answer

-- of a line
abbrev pub AreStartsOf : Dialect → List ℕ → Clock → ℤ → ℤ → ℕ → Result (List Starts × Option Reason) Reason → Type 0
AreStartsOf dialect line c start until room answer = After (IsJobOf (entry_of dialect line)) (λ j. AreStartsOn j c start until room) answer

-- whose crontab a call means, with so much room and an accepted clock
abbrev pub asked_starts : ℕ → ℕ → Clock → Result Dialect Reason
asked_starts room table c = if nat_le room most_items && is_accepted c then dialect_of table else Err reasons.BadArgument

-- of a call
abbrev pub AreStarts : List ℕ → ℕ → Clock → ℤ → ℤ → ℕ → Result (List Starts × Option Reason) Reason → Type 0
AreStarts line table c start until room answer = Then (asked_starts room table c) (λ dialect. AreStartsOf dialect line c start until room) answer

-- the starts are written to the front of the room, and at how many seconds they are; the status is that of the end
abbrev pub tell_starts : List Starts × Option Reason → List Starts × ℕ → ℤ × (List Starts × ℕ)
tell_starts listing old = (status_of_end listing.1, (written listing.0 old.0, length listing.0))
