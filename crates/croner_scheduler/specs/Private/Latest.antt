-- What a search backward says of the last run of a job that is due, and what a scheduler then gives. Private contracts alone cite these
-- definitions.
use Rattle.std.specs.Prelude.{◌≡◌, ◌&&◌, ℕ, ℤ, ◌<ℤ◌, ◌≤ℤ◌, int_lt, int_le, if◌then◌else◌, Option, None, Some, Result, Ok, Err, alloc_error, ⊤}
use Rattle.std.specs.declared.alloc.AllocError.{AllocError}
use Rattle.croner_base.specs.declared.errors.CronError.{CronError}
use Rattle.croner_base.specs.declared.errors.CronError.TheVariants.{TimeSearchLimitExceeded, OutOfMemory}
use Rattle.croner_base.specs.declared.time.Direction.TheVariants.{Backward}
use Rattle.croner_base.specs.Zone.{Zone, Moment}
use Rattle.croner.specs.Recurring.{CountsFrom, IsRunFound}
use Rattle.croner.specs.search.Limit.{InSpan}
use Rattle.croner.specs.search.Premises.{StartsCalm}
use Rattle.croner_scheduler.specs.declared.latest.Last.{Last}
use Rattle.croner_scheduler.specs.declared.latest.Last.TheVariants.{Later, Known, Refused}
use Rattle.croner_scheduler.specs.declared.latest.Latest.{Latest}
use Rattle.croner_scheduler.specs.declared.latest.Latest.TheVariants as answers
use Rattle.croner_scheduler.specs.declared.waiting.Next.{Next}
use Rattle.croner_scheduler.specs.declared.waiting.Next.TheVariants.{Run}
use Rattle.croner_scheduler.specs.declared.waiting.Stop.TheVariants as stops
use Rattle.croner_scheduler.specs.Calls.{IsSame, MovesTo}
use Rattle.croner_scheduler.specs.Kept.{StopsAt}
use Rattle.croner_scheduler.specs.Private.Steps.{refusal_of}
use Rattle.croner_scheduler.specs.Standing.{Standing, Held}

-- the second of the next run, if it is no later than now
abbrev pub due_second : ℤ → Next → Option ℤ
due_second now (Run i) = if int_le i now then Some i else None
due_second now other = None

-- what a run that was found is, of what has that run next: the last one, if it is later, and no later than the moment from which it was searched
abbrev pub last_of_run : {T : Type 0} → (T → Moment) → ℤ → T → T → Last T
last_of_run moment next until found =
    if int_lt next (moment found).instant && int_le (moment found).instant (moment until).instant then Later found else Known

-- what a refusal is: the limit says that none is later than the next run
abbrev pub last_of_refusal : {T : Type 0} → CronError → Result (Last T) AllocError
last_of_refusal TimeSearchLimitExceeded = Ok Known
last_of_refusal OutOfMemory = Err alloc_error
last_of_refusal other = Ok (Refused (refusal_of other))

-- the last run up to a moment, of what has these runs and that run next: a later one up to there, in a calm zone the last that counts; or the
-- next run, and in a calm zone none that counts in the span is later; or a refusal, as of a search that stops a job
abbrev pub FitsLast : {T : Type 0} → (Zone → ℤ → Type 0) → (T → Moment) → ℤ → Moment → Last T → Type 0
FitsLast runs moment next m (Later t) =
    IsRunFound Backward runs m (moment t) × (next <ℤ (moment t).instant) × ((moment t).instant ≤ℤ m.instant)
FitsLast runs moment next m Known =
    StartsCalm m → (j : ℤ) → CountsFrom Backward (runs m.zone) m.instant j → InSpan Backward m.zone.reads j → j ≤ℤ next
FitsLast runs moment next m (Refused e) = StopsAt m (stops.Refused e)

-- a later run that is to be given is a whole second of the zone of the job
abbrev pub CanGive : {J T : Type 0} → (T → Moment) → Last T → Standing J → Type 0
CanGive moment (Later t) s = ((moment t).zone ≡ s.position.zone) × ((moment t).fraction ≡ 0)
CanGive moment Known s = ⊤
CanGive moment (Refused e) s = ⊤

-- the later run is given, or the one that is known to be the next; or the search was refused
abbrev pub IsLastGiven : {J T : Type 0} → (T → Moment) → Held J → ℕ → ℤ → Last T → Held J → Latest → Type 0
IsLastGiven moment h id known (Later t) h' (answers.Given i b) = (i ≡ (moment t).instant) × MovesTo h id i h'
IsLastGiven moment h id known Known h' (answers.Given i b) = (i ≡ known) × MovesTo h id i h'
IsLastGiven moment h id known (Refused e) h' (answers.Refused refusal) = (refusal ≡ e) × IsSame h h'
IsLastGiven moment h id known last h' answer = ⊥
