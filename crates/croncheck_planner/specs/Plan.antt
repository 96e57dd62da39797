-- Plans: what starts of the jobs of all files after a start. Source: docs/CRONTAB.md ("A plan"), and this crate's documentation of `Found`.
use Rattle.std.specs.Prelude.{◌≡◌, ◌==◌, ◌&&◌, ◌-◌, ◌⊎◌, ℕ, suc, ℤ, pos, ◌+ℤ◌, int_lt, Bool, true, false, not, ◌||◌, nat_lt, List, [], ◌∷◌, length, take, Option, Some, None, if◌then◌else◌}
use Rattle.std.specs.Ordering.{int_eq}
use Rattle.croner_base.specs.Table.{last_instant}
use Rattle.croner_base.specs.Zone.{Zone}
use Rattle.croner.specs.declared.job.Cron.{Cron}
use Rattle.crontab.specs.declared.content.Outcome.{Outcome}
use Rattle.crontab.specs.declared.content.Outcome.TheVariants as outcomes
use Rattle.cronplan_jobs.specs.declared.listing.Schedule.{Schedule}
use Rattle.cronplan.specs.declared.span.Span.{Span}
use Rattle.cronplan.specs.declared.start.JobStart.{JobStart}
use Rattle.cronplan_jobs.specs.Jobs.{IsPlanOf}
use Rattle.croncheck_planner.specs.declared.plan.Ending.{Ending}
use Rattle.croncheck_planner.specs.declared.plan.Ending.TheVariants as endings
use Rattle.croncheck_planner.specs.declared.plan.Found.{Found}
use Rattle.croncheck_runs.specs.declared.runs.Listing.{Listing}
use Rattle.croncheck_runs.specs.declared.runs.Listing.TheVariants as listings
use Rattle.croncheck_runs.specs.Clock.{last_second}
use Rattle.croncheck_often.specs.Often.{span_end}

-- ---- the span

-- the second after a start, which isn't in it
abbrev pub first_after : ℤ → ℤ
first_after start = if int_lt start last_instant then start +ℤ pos 1 else last_instant

-- where it ends that is to end there: it has no second after the last one, and may have none
abbrev pub end_after : ℤ → ℤ → ℤ
end_after start end =
    if int_lt end (first_after start) then first_after start else if int_lt last_instant end then last_instant else end

-- the span after a start up to an end, which isn't in it
pub record IsSpanAfter (start end : ℤ) (span : Span) : Type 0 where
  pub first : span.first ≡ first_after start
  pub end_is : span.end ≡ end_after start end

-- what starts of jobs after a start up to an end, and the jobs that are left out of it: those that start more often than so many times a day,
-- where there is such a number
pub record IsFound (z : Zone) (start end : ℤ) (most : Option ℕ) (jobs : List Schedule) (found : Found) : Type 0 where
  pub span : IsSpanAfter start end found.span
  pub planned : IsPlanOf z found.span most jobs found.plan.starts.items found.plan.span found.frequent.items

-- ---- how much of it a list has

-- a start begins a moment, where this is the second of the one before
abbrev pub is_new : Option ℤ → JobStart → Bool
is_new None s = true
is_new (Some last) s = not (int_eq last s.second)

-- how many moments are left after a start that begins one or doesn't
abbrev pub left_after : ℕ → Bool → ℕ
left_after left begins = if begins then left - 1 else left

-- how many of some starts lie in the first moments, which are so many, where this is the second of the start before
abbrev pub starts_within : ℕ → Option ℤ → List JobStart → ℕ
starts_within left last [] = 0
starts_within left last (s ∷ ss) =
    if is_new last s && left == 0 then 0 else suc (starts_within (left_after left (is_new last s)) (Some s.second) ss)

-- it has starts after its first moments, which are so many
abbrev pub is_more : ℕ → Found → Bool
is_more count f = nat_lt (starts_within count None f.plan.starts.items) (length f.plan.starts.items)

-- it has as many starts as a plan keeps, and ends before it was to
abbrev pub is_cut : Found → Bool
is_cut f = int_lt f.plan.span.end f.span.end

-- it has more than the starts of so many moments, or as many as a plan keeps
abbrev pub is_enough : ℕ → Found → Bool
is_enough count f = is_more count f || is_cut f

-- the end of the window of a clock: after its last second, where it ends before year 5000 does
abbrev pub whole_end : Option ℤ → ℤ
whole_end None = last_second +ℤ pos 1
whole_end (Some last) = if int_lt last last_second then last +ℤ pos 1 else last_second +ℤ pos 1

-- the end of a span whose last second is this one
abbrev pub end_up_to : ℤ → ℤ → ℤ
end_up_to until whole = if int_lt until whole then until +ℤ pos 1 else whole

-- what starts after a start up to an end of the window or before it: all of the window, or more than so many moments, or as many starts as a
-- plan keeps
pub record IsFirst (z : Zone) (start whole : ℤ) (count : ℕ) (jobs : List Schedule) (found : Found) : Type 0 where
  pub end : ℤ
  pub within : int_lt whole end ≡ false
  pub found_is : IsFound z start end None jobs found
  pub enough : (end ≡ whole) ⊎ (is_enough count found ≡ true)

-- what starts after a start, of which a list is made: so many moments, or all up to a second, as far as the clock's window goes
abbrev pub IsListed : Zone → ℤ → Option ℤ → Listing → List Schedule → Found → Type 0
IsListed z start last (listings.Count count) jobs found = IsFirst z start (whole_end last) count jobs found
IsListed z start last (listings.Until until) jobs found = IsFound z start (end_up_to until (whole_end last)) None jobs found

-- the end of what is looked at where a plan is asked something: as far as starts are listed up to a second, else seven days
abbrev pub answered_until : ℤ → Option ℤ → Listing → ℤ
answered_until start last listing = end_up_to (span_end start listing) (whole_end last)

-- the starts that the list has
abbrev pub starts_listed : Listing → Found → List JobStart
starts_listed (listings.Count count) f = take (starts_within count None f.plan.starts.items) f.plan.starts.items
starts_listed (listings.Until until) f = f.plan.starts.items

-- how it ends: there may be more after what was asked for, a plan keeps no more, or none is left in the clock's window
abbrev pub ending_of : Listing → Option ℤ → Found → Ending
ending_of (listings.Count count) last f =
    if is_more count f then endings.More else if is_cut f then endings.Cut else endings.Whole
ending_of (listings.Until until) last f =
    if is_cut f then endings.Cut else if int_lt until (whole_end last) then endings.More else endings.Whole

-- ---- the jobs

-- the job that the parser makes of a line's times, if it makes one
abbrev pub job_found : Outcome → Option Cron
job_found outcomes.NoText = None
job_found (outcomes.Job found) = Some found
job_found (outcomes.TimesRefused e) = None
job_found (outcomes.PatternRefused fault) = None
job_found outcomes.NotUtf8 = None
