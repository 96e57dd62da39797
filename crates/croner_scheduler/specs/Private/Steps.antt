-- How what is kept of a job comes of its search, and changes when it moves. Private contracts alone cite these definitions.
use Rattle.std.specs.Prelude.{◌≡◌, ℕ, ℤ, pos, ◌-ℤ◌, ◌<ℤ◌, int_lt, Bool, true, false, cond, if◌then◌else◌, is_some, Option, None, Some, IfSome, option_map, Result, Ok, Err, alloc_error}
use Rattle.std.specs.BTreeMap.{is_at}
use Rattle.std.specs.Option.{IsSomeAnd}
use Rattle.std.specs.Ordering.{nat_cmp, int_eq}
use Rattle.std.specs.declared.alloc.AllocError.{AllocError}
use Rattle.croner_base.specs.declared.errors.CronError.{CronError}
use Rattle.croner_base.specs.declared.errors.CronError.TheVariants.{InvalidDate, TimeSearchLimitExceeded, OutOfMemory}
use Rattle.croner_base.specs.Zone.{Moment, at_instant}
use Rattle.croner_scheduler.specs.declared.again.Again.{Again}
use Rattle.croner_scheduler.specs.declared.again.Again.TheVariants.{GoesOn, StillStopped}
use Rattle.croner_scheduler.specs.declared.skip.Skip.{Skip}
use Rattle.croner_scheduler.specs.declared.skip.Skip.TheVariants.{Moved}
use Rattle.croner_scheduler.specs.declared.turns.Turn.{Turn}
use Rattle.croner_scheduler.specs.declared.waiting.Next.{Next}
use Rattle.croner_scheduler.specs.declared.waiting.Next.TheVariants.{Run, Over, Stopped}
use Rattle.croner_scheduler.specs.declared.waiting.Refusal.{Refusal}
use Rattle.croner_scheduler.specs.declared.waiting.Refusal.TheVariants as refusals
use Rattle.croner_scheduler.specs.declared.waiting.Stop.TheVariants.{Refused, NotLater}
use Rattle.croner_scheduler.specs.declared.waiting.Waiting.{Waiting}
use Rattle.croner_scheduler.specs.Calls.{second_before, HasNoneBefore}
use Rattle.croner_scheduler.specs.Kept.{stop_of}
use Rattle.croner_scheduler.specs.Standing.{Held}

-- what a run that was found is to the job that stands at a second: its next one, if it is later
abbrev pub next_of_run : ℤ → ℤ → Next
next_of_run position found = if int_lt position found then Run found else Stopped NotLater

-- how a search was refused whose error is neither the limit nor lack of memory
abbrev pub refusal_of : CronError → Refusal
refusal_of InvalidDate = refusals.InvalidDate
refusal_of other = refusals.InvalidTime

-- what a refusal is: the limit says that the job is over, any other but lack of memory stops it
abbrev pub next_of_refusal : CronError → Result Next AllocError
next_of_refusal TimeSearchLimitExceeded = Ok Over
next_of_refusal OutOfMemory = Err alloc_error
next_of_refusal other = Ok (Stopped (Refused (refusal_of other)))

-- the value names the second before that of a moment; or there is none
abbrev pub IsSecondBefore : {T : Type 0} → (T → Moment) → Moment → Option T → Type 0
IsSecondBefore moment m (Some t) = (moment t ≡ second_before m) × (m.zone.holds (m.instant -ℤ pos 1) ≡ true)
IsSecondBefore moment m None = HasNoneBefore m

-- of the jobs, where the one of an id is changed and the others stay
abbrev pub jobs_with : {J T : Type 0} → ℕ → (Waiting J T → Waiting J T) → ℕ → Option (Waiting J T) → Option (Waiting J T)
jobs_with id change other o = cond (is_at (nat_cmp id) other) (option_map change o) o

-- the next run is at that second
abbrev pub is_next_at : ℤ → Next → Bool
is_next_at second (Run i) = int_eq i second
is_next_at second other = false

abbrev pub is_awaited_at : {J T : Type 0} → ℤ → Option (Waiting J T) → Bool
is_awaited_at second (Some w) = is_next_at second w.next
is_awaited_at second None = false

-- the value names the second of a turn, in the zone of its job
abbrev pub IsRunOf : {J T : Type 0} → (T → Moment) → Held J → Turn → Option T → Type 0
IsRunOf moment h turn found = IsSomeAnd found (λ t. IfSome (h.jobs turn.id) (λ s. moment t ≡ at_instant s.position.zone turn.second))

-- a job at another position, with what comes next from there
abbrev pub job_at_position : {J T : Type 0} → T → Next → Waiting J T → Waiting J T
job_at_position position next w = record { job = w.job; position = position; next = next }

-- a job at another position, with the same next
abbrev pub job_standing_at : {J T : Type 0} → T → Waiting J T → Waiting J T
job_standing_at position w = record { job = w.job; position = position; next = w.next }

-- the next run is later than that second
abbrev pub is_next_after : ℤ → Next → Bool
is_next_after second (Run i) = int_lt second i
is_next_after second other = false

-- the job can stand at that position with its next run: it is later, and the position lies in the zone of the job, no earlier than it stood
pub record CanStand {J T : Type 0} (moment : T → Moment) (position : T) (w : Waiting J T) : Type 0 where
  pub zone : (moment position).zone ≡ (moment w.position).zone
  pub on : (moment w.position).instant <ℤ (moment position).instant
  pub later : is_next_after (moment position).instant w.next ≡ true

-- a job with something else next, where it stands
abbrev pub job_with_next : {J T : Type 0} → Next → Waiting J T → Waiting J T
job_with_next next w = record { job = w.job; position = w.position; next = next }

-- the job and the position are those of what stood there
abbrev pub ArePartsOf : {J T : Type 0} → Option (Waiting J T) → J × T → Type 0
ArePartsOf (Some w) parts = (parts.0 ≡ w.job) × (parts.1 ≡ w.position)
ArePartsOf None parts = ⊥

-- a skip moved its job, which is stopped
abbrev pub is_skip_stopped : Skip → Bool
is_skip_stopped (Moved b) = b
is_skip_stopped other = false

-- how many of one job are stopped
abbrev pub stop_len : {J T : Type 0} → Option (Waiting J T) → ℕ
stop_len (Some w) = if is_some (stop_of w.next) then 1 else 0
stop_len None = 0

-- what became of a job that was searched again, by whether it is stopped
abbrev pub again_of : Bool → Again
again_of true = StillStopped
again_of false = GoesOn
