-- What is kept of a job: the run that comes next, that none comes in the searched years, or why it is stopped. Source: this crate's
-- documentation.
use Rattle.std.specs.Prelude.{◌≡◌, ⊤, Bool, true, false, ℤ, ◌<ℤ◌, Option, None, Some}
use Rattle.croner_base.specs.declared.errors.CronError.{CronError}
use Rattle.croner_base.specs.declared.errors.CronError.TheVariants.{InvalidDate, InvalidTime}
use Rattle.croner_base.specs.declared.time.Direction.TheVariants.{Forward}
use Rattle.croner_base.specs.Zone.{Zone, Moment, at_instant}
use Rattle.croner.specs.Recurring.{CountsFrom, IsRunFound}
use Rattle.croner.specs.search.Limit.{NoneInSpanWhere}
use Rattle.croner.specs.search.Premises.{IsSearchable, StartsCalm}
use Rattle.croner_scheduler.specs.declared.waiting.Next.{Next}
use Rattle.croner_scheduler.specs.declared.waiting.Next.TheVariants.{Run, Over, Stopped}
use Rattle.croner_scheduler.specs.declared.waiting.Refusal.{Refusal}
use Rattle.croner_scheduler.specs.declared.waiting.Refusal.TheVariants as refusals
use Rattle.croner_scheduler.specs.declared.waiting.Stop.{Stop}
use Rattle.croner_scheduler.specs.declared.waiting.Stop.TheVariants.{Refused, NotLater, Paused}
use Rattle.croner_scheduler.specs.declared.waiting.Waiting.{Waiting}
use Rattle.croner_scheduler.specs.Standing.{Standing}

-- why a job is stopped, if it is
abbrev pub stop_of : Next → Option Stop
stop_of (Stopped stop) = Some stop
stop_of next = None

-- whether it is because it was paused
abbrev pub is_paused : Option Stop → Bool
is_paused (Some Paused) = true
is_paused stop = false

-- the second of the next run, if there is one
abbrev pub second_of : Next → Option ℤ
second_of (Run i) = Some i
second_of next = None

-- what contracts see of a job
abbrev pub standing_of : {J T : Type 0} → (T → Moment) → Waiting J T → Standing J
standing_of moment w = record {
  job = w.job;
  position = moment w.position;
  stop = stop_of w.next;
  next = second_of w.next;
}

-- the error of a refusal
abbrev pub error_of : Refusal → CronError
error_of refusals.InvalidDate = InvalidDate
error_of refusals.InvalidTime = InvalidTime

-- the stops that a search can make at a moment: a run that isn't later only where the moment isn't a whole second in a calm zone; a refusal only
-- where no search is promised from there; none pauses
abbrev pub StopsAt : Moment → Stop → Type 0
StopsAt m NotLater = ¬ (StartsCalm m)
StopsAt m (Refused refusal) = ¬ (IsSearchable m)
StopsAt m Paused = ⊥

-- the stops that can be at a moment: those of a search, and a pause, which needs no reason
abbrev pub CanBeAt : Moment → Stop → Type 0
CanBeAt m NotLater = StopsAt m NotLater
CanBeAt m (Refused refusal) = StopsAt m (Refused refusal)
CanBeAt m Paused = ⊤

-- what comes next from a moment, of what has these runs: a later second, which the zone holds, in a calm zone the nearest run; none, and in a calm
-- zone none is in the span; or a stop
abbrev pub FitsNext : (Zone → ℤ → Type 0) → Moment → Next → Type 0
FitsNext runs m (Run i) = IsRunFound Forward runs m (at_instant m.zone i) × (m.instant <ℤ i) × (m.zone.holds i ≡ true)
FitsNext runs m Over = StartsCalm m → NoneInSpanWhere Forward m.zone.reads (CountsFrom Forward (runs m.zone) m.instant)
FitsNext runs m (Stopped stop) = StopsAt m stop

-- what comes next, or a pause
abbrev pub FitsOrPaused : (Zone → ℤ → Type 0) → Moment → Next → Type 0
FitsOrPaused runs m (Run i) = FitsNext runs m (Run i)
FitsOrPaused runs m Over = FitsNext runs m Over
FitsOrPaused runs m (Stopped stop) = CanBeAt m stop

-- a job stands at a whole second, with what comes next from there, or is paused
pub record Fits {J T : Type 0} (runs : J → Zone → ℤ → Type 0) (moment : T → Moment) (w : Waiting J T) : Type 0 where
  pub whole : (moment w.position).fraction ≡ 0
  pub next : FitsOrPaused (runs w.job) (moment w.position) w.next
