-- What changes of a clock do to the seconds that a job schedules. Source: this crate's documentation of `Changes`; for cron, its starts as
-- the crate `crontab_runs` defines them.
use Rattle.std.specs.Prelude.{◌≡◌, ◌<◌, ◌⊎◌, ◌↔◌, ◌&&◌, ◌||◌, ◌==◌, not, IsTrue, ℕ, nat_lt, Bool, true, false, ℤ, pos, neg_ℤ, ◌+ℤ◌, ◌-ℤ◌, ◌<ℤ◌, ◌≤ℤ◌, int_lt, unsigned_abs, List, length, slice_index_or, codes, Option, Some, None, if◌then◌else◌}
use Rattle.std.specs.List.{All}
use Rattle.std.specs.Ordering.{int_eq}
use Rattle.croner_base.specs.declared.errors.CronError.{CronError}
use Rattle.croner_base.specs.declared.errors.CronError.TheVariants.{InvalidTime, OutOfMemory}
use Rattle.croner_base.specs.declared.time.table.TableTime.{TableTime}
use Rattle.croner_base.specs.Calm.{IsChange}
use Rattle.croner_base.specs.Field.{marked_values}
use Rattle.croner_base.specs.Table.{is_table_second}
use Rattle.croner_base.specs.TableZone.{table_moment}
use Rattle.croner_base.specs.Zone.{Zone}
use Rattle.croner_pattern.specs.Meaning.{Meaning}
use Rattle.croner_pattern.specs.Schedule.{IsScheduled, is_fixed_time}
use Rattle.croner.specs.search.PatternJob.{pattern_job}
use Rattle.croner.specs.search.Runs.{CarriedRun}
use Rattle.crontab_runs.specs.Starts.{minute_of, due_after}
use Rattle.croncheck_changes.specs.declared.changes.Change.{Change}
use Rattle.croncheck_changes.specs.declared.changes.Fate.{Fate}
use Rattle.croncheck_changes.specs.declared.changes.Fate.TheVariants as fates
use Rattle.croncheck_changes.specs.declared.changes.Meeting.{Meeting}
use Rattle.croncheck_changes.specs.declared.changes.Range.{Range}
use Rattle.croncheck_changes.specs.declared.changes.Range.TheVariants as ranges
use Rattle.croncheck_changes.specs.declared.changes.meetings.Meetings.{Meetings}
use Rattle.croncheck_changes.specs.declared.changes.meetings.Met.{Met}
use Rattle.croncheck_runs.specs.declared.runs.Runner.{Runner}
use Rattle.croncheck_runs.specs.declared.runs.Runner.TheVariants as runners

-- ---- the changes of a clock

-- so many seconds after a start changes are told: 372 days, since a change on a certain Sunday comes again after 364 or 371
abbrev pub watched_seconds : ℕ
watched_seconds = 32_140_800

-- 0001-01-03T00:00:00 UTC
abbrev pub first_watched : ℤ
first_watched = neg_ℤ (pos 62_135_424_000)

-- 4999-12-30T00:00:00 UTC
abbrev pub end_watched : ℤ
end_watched = pos 95_617_411_200

-- an instant after a start, by no more than 372 days, at which each clock shows a year from 1 to 4999
pub record IsWatched (start instant : ℤ) : Type 0 where
  pub follows : start <ℤ instant
  pub within : instant ≤ℤ (start +ℤ pos watched_seconds)
  pub from : first_watched ≤ℤ instant
  pub before : instant <ℤ end_watched

-- the zone's clock changes at an instant: it shows `after` there, and would have shown `before`
pub record IsJump (z : Zone) (c : Change) : Type 0 where
  pub changes : IsChange z c.instant
  pub before_is : c.before ≡ z.reads (c.instant -ℤ pos 1) +ℤ pos 1
  pub after_is : c.after ≡ z.reads c.instant

-- the list has the watched changes after a start, in order, and none is left out
pub record AreChanges (z : Zone) (start : ℤ) (changes : List Change) : Type 0 where
  pub each : All (λ c. IsJump z c × IsWatched start c.instant) changes
  pub every : (i : ℤ) → IsChange z i → IsWatched start i → ¬ (All (λ c. ¬ (c.instant ≡ i)) changes)
  pub ordered : (j k : ℕ) (d : Change) → j < k → k < length changes → (slice_index_or changes j d).instant <ℤ (slice_index_or changes k d).instant

-- the same of the start's own clock
abbrev pub AreChangesFrom : TableTime → List Change → Type 0
AreChangesFrom start changes = AreChanges (table_moment start).zone (table_moment start).instant changes

-- why a start has no changes: no clock has this second, or memory is wanting
abbrev pub IsNoStart : ℤ → CronError → Type 0
IsNoStart start InvalidTime = is_table_second start ≡ false
IsNoStart start OutOfMemory = is_table_second start ≡ true
IsNoStart start other = ⊥

-- ---- a job at a change

-- a wall second that the change skips, which lies in the gap, or that it shows twice, which lies in the repeated range
abbrev pub LiesIn : Range → Change → ℤ → Type 0
LiesIn ranges.Gap c w = (c.before ≤ℤ w) × (w <ℤ c.after)
LiesIn ranges.Repeated c w = (c.after ≤ℤ w) × (w <ℤ c.before)

-- all 24 hours are named
abbrev pub names_all_hours : Meaning → Bool
names_all_hours m = length (marked_values 1 m.hours) == 24

-- cron runs the job, and it isn't starred: then cron makes up for its minutes that a change skips, and waits for a new one where minutes are
-- shown again
abbrev pub is_starless : Runner → Bool
is_starless (runners.Cron is_starred) = not is_starred
is_starless runners.Croner = false

-- changes don't meet a job of which all hours are named, unless it is starless: it is started in each hour that the clock shows
abbrev pub is_never_met : Runner → Meaning → Bool
is_never_met runner m = names_all_hours m && not (is_starless runner)

-- a change meets a job at a wall second: the second is scheduled and lies in the range
pub record Meets (z : Zone) (start : ℤ) (runner : Runner) (m : Meaning) (range : Range) (c : Change) (w : ℤ) : Type 0 where
  pub hours : is_never_met runner m ≡ false
  pub change : IsJump z c
  pub watched : IsWatched start c.instant
  pub lies : LiesIn range c w
  pub scheduled : IsScheduled m w

-- the first change that meets the job so, at its first such second
pub record MeetsFirst (z : Zone) (start : ℤ) (runner : Runner) (m : Meaning) (range : Range) (c : Change) (w : ℤ) : Type 0 where
  pub meets : Meets z start runner m range c w
  pub first : (d : Change) (v : ℤ) → Meets z start runner m range d v → c.instant ≤ℤ d.instant
  pub least : (v : ℤ) → LiesIn range c v → IsScheduled m v → w ≤ℤ v

-- ---- what becomes of the job's seconds

-- in croner: a second of the gap is moved where the change's instant is a run that is carried over it, and else left out; a second of the
-- repeated range is made once, at the earlier instant, by a fixed-time job, and else twice
abbrev pub IsFate : Zone → Meaning → Range → Change → Fate → Type 0
IsFate z m ranges.Gap c fates.Moved = CarriedRun (pattern_job m z) c.instant
IsFate z m ranges.Gap c fates.LeftOut = ¬ (CarriedRun (pattern_job m z) c.instant)
IsFate z m ranges.Gap c fates.Once = ⊥
IsFate z m ranges.Gap c fates.Twice = ⊥
IsFate z m ranges.Gap c fates.Paused = ⊥
IsFate z m ranges.Repeated c fates.Moved = ⊥
IsFate z m ranges.Repeated c fates.LeftOut = ⊥
IsFate z m ranges.Repeated c fates.Once = is_fixed_time m ≡ true
IsFate z m ranges.Repeated c fates.Twice = is_fixed_time m ≡ false
IsFate z m ranges.Repeated c fates.Paused = ⊥

-- ---- in cron

-- the minute that the clock shows where cron looks at the job for a second of the range: after the gap, or as the second is shown again
abbrev pub minute_there : Range → Change → ℤ → ℤ
minute_there ranges.Gap c w = minute_of c.after
minute_there ranges.Repeated c w = minute_of w

-- at the change the clock shows another minute than a second before; cron doesn't see one within a minute
abbrev pub turns_at : Change → Bool
turns_at c = not (int_eq (minute_of c.after) (minute_of (c.before -ℤ pos 1)))

-- if it looks at the job there, the minute of the second is due, which begins with it
abbrev pub is_due_there : Bool → Range → Change → ℤ → Bool
is_due_there is_starred range c w = int_lt (due_after is_starred (minute_of (c.before -ℤ pos 1)) (minute_there range c w)) (minute_of w)

-- cron starts the job there for that minute
abbrev pub is_started_there : Bool → Range → Change → ℤ → Bool
is_started_there is_starred range c w = turns_at c && is_due_there is_starred range c w

-- what becomes of it
abbrev pub fate_in_cron : Bool → Range → Change → ℤ → Fate
fate_in_cron is_starred ranges.Gap c w = if is_started_there is_starred ranges.Gap c w then fates.Moved else fates.LeftOut
fate_in_cron is_starred ranges.Repeated c w = if is_started_there is_starred ranges.Repeated c w then fates.Twice else fates.Once

-- the same of a job, of which all hours may be named: one that is started once then isn't, for as long as the clock shows minutes again
abbrev pub fate_with_all_hours : Bool → Fate → Fate
fate_with_all_hours true fates.Once = fates.Paused
fate_with_all_hours all fate = fate

-- ---- by what runs the line

abbrev pub IsFateBy : Runner → Zone → Meaning → Range → Change → ℤ → Fate → Type 0
IsFateBy runners.Croner z m range c w fate = IsFate z m range c fate
IsFateBy (runners.Cron is_starred) z m range c w fate = fate ≡ fate_with_all_hours (names_all_hours m) (fate_in_cron is_starred range c w)

-- the first change that meets a job, at its first such second, and what becomes of it
pub record IsMeeting (z : Zone) (start : ℤ) (runner : Runner) (m : Meaning) (range : Range) (g : Meeting) : Type 0 where
  pub range_is : g.range ≡ range
  pub first : MeetsFirst z start runner m range g.change g.second
  pub fate : IsFateBy runner z m range g.change g.second g.fate

-- ---- beside a change

-- so many seconds beside a range a job is looked at: three hours
abbrev pub seconds_beside : ℕ
seconds_beside = 10_800

-- a second is scheduled from a wall second on, before another
abbrev pub IsDueWithin : Meaning → ℤ → ℤ → Type 0
IsDueWithin m from end = (w : ℤ) × (from ≤ℤ w) × (w <ℤ end) × IsScheduled m w

-- a second is scheduled within three hours before a range, or within three hours after it
abbrev pub IsDueAround : Meaning → ℤ → ℤ → Type 0
IsDueAround m first end = IsDueWithin m (first -ℤ pos seconds_beside) first ⊎ IsDueWithin m end (end +ℤ pos seconds_beside)

-- the job is due beside the range of a change
abbrev pub IsDueBeside : Meaning → Range → Change → Type 0
IsDueBeside m ranges.Gap c = IsDueAround m c.before c.after
IsDueBeside m ranges.Repeated c = IsDueAround m c.after c.before

-- ---- what is told

-- the clock is moved by less than twelve hours: more goes to another date, and is no daylight saving
abbrev pub is_within_a_date : Change → Bool
is_within_a_date c = nat_lt (unsigned_abs (c.before -ℤ c.after)) 43_200

-- a run is left out, or made twice
abbrev pub is_harmed : Fate → Bool
is_harmed fates.LeftOut = true
is_harmed fates.Moved = false
is_harmed fates.Once = false
is_harmed fates.Twice = true
is_harmed fates.Paused = true

-- all hours of it are named: that it is due beside the range makes no difference
abbrev pub is_pause : Fate → Bool
is_pause fates.LeftOut = false
is_pause fates.Moved = false
is_pause fates.Once = false
is_pause fates.Twice = false
is_pause fates.Paused = true

-- the first change that meets a job in a range, and whether the job is due beside it
pub record IsMet (z : Zone) (start : ℤ) (runner : Runner) (m : Meaning) (range : Range) (c : Met) : Type 0 where
  pub meeting : IsMeeting z start runner m range c.meeting
  pub beside : IsTrue c.is_due_beside ↔ IsDueBeside m c.meeting.range c.meeting.change

-- there is a warning of it, if a run is left out or made twice, and the job isn't due beside the range; or if all hours are named, and it pauses
abbrev pub is_warned : Met → Bool
is_warned c = is_within_a_date c.meeting.change && (is_pause c.meeting.fate || (is_harmed c.meeting.fate && not c.is_due_beside))

-- the name of the warning: a pause is a gap between two starts
abbrev pub name_of : Range → Fate → List ℕ
name_of ranges.Gap fate = codes "gap"
name_of ranges.Repeated fate = if is_pause fate then codes "gap" else codes "twice"

-- no change meets the job in the range
abbrev pub IsMetByNone : Zone → ℤ → Runner → Meaning → Range → Type 0
IsMetByNone z start runner m range = (c : Change) (w : ℤ) → ¬ (Meets z start runner m range c w)

-- what is told of the first change that meets a job in a range
abbrev pub TellsFirst : Zone → ℤ → Runner → Meaning → Range → Option Met → Type 0
TellsFirst z start runner m range None = IsMetByNone z start runner m range
TellsFirst z start runner m range (Some c) = IsMet z start runner m range c

-- what is told of the changes of a start's own clock after it
pub record AreMeetings (start : TableTime) (runner : Runner) (m : Meaning) (met : Meetings) : Type 0 where
  pub gap : TellsFirst (table_moment start).zone (table_moment start).instant runner m ranges.Gap met.gap
  pub repeated : TellsFirst (table_moment start).zone (table_moment start).instant runner m ranges.Repeated met.repeated

-- nothing is told
abbrev pub none_met : Meetings
none_met = record { gap = None; repeated = None }

-- there is a warning of one that meets a job
abbrev pub has_warning : Option Met → Bool
has_warning None = false
has_warning (Some c) = is_warned c

-- there is a warning of one of them
abbrev pub are_warned : Meetings → Bool
are_warned met = has_warning met.gap || has_warning met.repeated
