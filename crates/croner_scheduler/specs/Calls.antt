-- What each call of a scheduler answers, and what it holds after it. Source: this crate's documentation.
use Rattle.std.specs.Prelude.{◌≡◌, ◌⊎◌, pos, neg_ℤ, ◌-ℤ◌, Bool, true, ◌&&◌, int_lt, not, nat_lt, ◌+◌, ◌-◌, ◌^◌, ◌≤◌, ⊤, false, ℕ, ℤ, ◌<ℤ◌, ◌≤ℤ◌, Option, None, Some, IfSome, IsSome, is_some}
use Rattle.std.specs.Int.{int_max}
use Rattle.std.specs.Option.{IsSomeAnd}
use Rattle.croner_base.specs.Calm.{IsCalm}
use Rattle.croner_base.specs.declared.time.Direction.TheVariants.{Backward}
use Rattle.croner_base.specs.Zone.{Zone, Moment, at_instant}
use Rattle.croner.specs.search.Limit.{InSpan}
use Rattle.croner_scheduler.specs.declared.add.AddError.{AddError}
use Rattle.croner_scheduler.specs.declared.add.AddError.TheVariants.{OutOfMemory, NoIdLeft, SecondBeforeNotHeld}
use Rattle.croner_scheduler.specs.declared.add.AddError.TheVariants as errors
use Rattle.croner_scheduler.specs.declared.add.NotAdded.{NotAdded}
use Rattle.croner_scheduler.specs.declared.again.Again.{Again}
use Rattle.croner_scheduler.specs.declared.again.Again.TheVariants.{GoesOn, StillStopped, NotStopped}
use Rattle.croner_scheduler.specs.declared.latest.Latest.{Latest}
use Rattle.croner_scheduler.specs.declared.latest.Latest.TheVariants as latest
use Rattle.croner_scheduler.specs.declared.resume.Resume.{Resume}
use Rattle.croner_scheduler.specs.declared.resume.Resume.TheVariants as resumes
use Rattle.croner_scheduler.specs.declared.skip.Skip.{Skip}
use Rattle.croner_scheduler.specs.declared.skip.Skip.TheVariants.{Moved, AlreadyThere, NoJob, Paused, NotHeld}
use Rattle.croner_scheduler.specs.declared.turns.Due.{Due}
use Rattle.croner_scheduler.specs.declared.turns.Turn.{Turn}
use Rattle.croner_scheduler.specs.declared.waiting.Stop.TheVariants as stops
use Rattle.croner_scheduler.specs.Standing.{Standing, Held, Left, Seen}
use Rattle.croner_scheduler.specs.Kept.{StopsAt, is_paused}

-- both hold the same
pub record IsSame {J : Type 0} (h h' : Held J) : Type 0 where
  pub jobs : (id : ℕ) → h'.jobs id ≡ h.jobs id
  pub count : h'.count ≡ h.count
  pub next_id : h'.next_id ≡ h.next_id

-- i can be given of the job: it isn't stopped, i lies after its position, and in a calm zone it is a run of it, the nearest of all that are
-- left of it
pub record IsGivable {J : Type 0} (runs : J → Zone → ℤ → Type 0) (i : ℤ) (s : Standing J) : Type 0 where
  pub goes : s.stop ≡ None
  pub after : s.position.instant <ℤ i
  pub run : IsCalm s.position.zone → ∥ runs s.job s.position.zone i ∥₁
  pub nearest : IsCalm s.position.zone → (j : ℤ) → Left runs s j → i ≤ℤ j

-- no run that is seen of the job of the id l comes before i of k: none is earlier, and at the same instant l isn't lower. That is said of
-- a job in a calm zone that isn't stopped
abbrev pub ComesAfter : {J : Type 0} → (J → Zone → ℤ → Type 0) → ℕ → ℤ → ℕ → Standing J → Type 0
ComesAfter runs k i l s = s.stop ≡ None → IsCalm s.position.zone → (j : ℤ) → Seen runs s j → (i ≤ℤ j) × (j ≡ i → k ≤ l)

-- i can be given of the job k, and no run that is seen comes before it, of the jobs in calm zones that aren't stopped; of several at one
-- instant that of the lowest id is the first
pub record IsFirst {J : Type 0} (runs : J → Zone → ℤ → Type 0) (h : Held J) (k : ℕ) (i : ℤ) : Type 0 where
  pub givable : IsSomeAnd (h.jobs k) (IsGivable runs i)
  pub first : (l : ℕ) → IfSome (h.jobs l) (ComesAfter runs k i l)

-- no run of the job that is seen lies up to now, if it isn't stopped and stands in a calm zone
abbrev pub IsNotDue : {J : Type 0} → (J → Zone → ℤ → Type 0) → ℤ → Standing J → Type 0
IsNotDue runs now s = s.stop ≡ None → IsCalm s.position.zone → (j : ℤ) → Seen runs s j → now <ℤ j

-- no run of the job is seen, if it isn't stopped and stands in a calm zone
abbrev pub HasNoneSeen : {J : Type 0} → (J → Zone → ℤ → Type 0) → Standing J → Type 0
HasNoneSeen runs s = s.stop ≡ None → IsCalm s.position.zone → (j : ℤ) → ¬ (Seen runs s j)

-- the first run and whose it is; or none, and then no run of a job is seen
abbrev pub IsNearest : {J : Type 0} → (J → Zone → ℤ → Type 0) → Held J → Option Turn → Type 0
IsNearest runs h (Some due) = IsFirst runs h due.id due.second
IsNearest runs h None = (l : ℕ) → IfSome (h.jobs l) (HasNoneSeen runs)

-- the moment of the first run, whosesoever it is; or none
abbrev pub IsWakeUp : {J : Type 0} → (J → Zone → ℤ → Type 0) → Held J → Option ℤ → Type 0
IsWakeUp runs h (Some i) = (k : ℕ) × IsNearest runs h (Some (record { id = k; second = i }))
IsWakeUp runs h None = IsNearest runs h None

-- a job that stands at that whole second of its zone; and if it is stopped, the reason holds there
pub record StandsAt {J : Type 0} (job : J) (zone : Zone) (i : ℤ) (s : Standing J) : Type 0 where
  pub job_is : s.job ≡ job
  pub zone_is : s.position.zone ≡ zone
  pub instant : s.position.instant ≡ i
  pub whole : s.position.fraction ≡ 0
  pub stop : IfSome s.stop (StopsAt s.position)

-- it is told of the job k whether it is stopped
abbrev pub TellsStop : {J : Type 0} → Held J → ℕ → Bool → Type 0
TellsStop h k is_stopped = IsSomeAnd (h.jobs k) (λ s. is_stopped ≡ is_some s.stop)

-- nothing has changed but the job k
pub record IsSameBut {J : Type 0} (k : ℕ) (h h' : Held J) : Type 0 where
  pub others : (id : ℕ) → ¬ (id ≡ k) → h'.jobs id ≡ h.jobs id
  pub count : h'.count ≡ h.count
  pub next_id : h'.next_id ≡ h.next_id

-- the position of the job k has moved to i, and nothing else has changed
pub record MovesTo {J : Type 0} (h : Held J) (k : ℕ) (i : ℤ) (h' : Held J) : Type 0 where
  pub moved : IfSome (h.jobs k) (λ s. IsSomeAnd (h'.jobs k) (StandsAt s.job s.position.zone i))
  pub rest : IsSameBut k h h'

-- a next run that is later than now is kept
abbrev pub KeepsLater : {J : Type 0} → ℕ → ℤ → Held J → Standing J → Type 0
KeepsLater k now h' s = IfSome s.next (λ i. now <ℤ i → IsSomeAnd (h'.jobs k) (λ s'. s'.next ≡ Some i))

-- it stands before now, and isn't paused
abbrev pub IsToSkip : {J : Type 0} → ℤ → Standing J → Type 0
IsToSkip now s = (s.position.instant <ℤ now) × (is_paused s.stop ≡ false)

-- the position of the job k moves on to now, a second that its zone holds; or it stands there already or later, there is no such job, it is
-- paused, or its zone doesn't hold that second
abbrev pub SkipsTo : {J : Type 0} → ℕ → ℤ → Held J → Held J → Skip → Type 0
SkipsTo k now h h' (Moved b) =
    IsSomeAnd (h.jobs k) (λ s. IsToSkip now s × (s.position.zone.holds now ≡ true) × KeepsLater k now h' s) × MovesTo h k now h'
SkipsTo k now h h' AlreadyThere = IsSomeAnd (h.jobs k) (λ s. now ≤ℤ s.position.instant) × IsSame h h'
SkipsTo k now h h' NoJob = (h.jobs k ≡ None) × IsSame h h'
SkipsTo k now h h' Paused = IsSomeAnd (h.jobs k) (λ s. (s.position.instant <ℤ now) × (is_paused s.stop ≡ true)) × IsSame h h'
SkipsTo k now h h' NotHeld = IsSomeAnd (h.jobs k) (λ s. IsToSkip now s × (s.position.zone.holds now ≡ false)) × IsSame h h'

-- a skip that moved the job k tells whether it is stopped
abbrev pub SkipTellsStop : {J : Type 0} → ℕ → Held J → Skip → Type 0
SkipTellsStop k h (Moved is_stopped) = TellsStop h k is_stopped
SkipTellsStop k h AlreadyThere = ⊤
SkipTellsStop k h NoJob = ⊤
SkipTellsStop k h Paused = ⊤
SkipTellsStop k h NotHeld = ⊤

-- a job that is to be moved on to now, a second that its zone holds, and has no later next run
abbrev pub IsToMove : {J : Type 0} → ℤ → Standing J → Type 0
IsToMove now s = IsToSkip now s × (s.position.zone.holds now ≡ true) × IfSome s.next (λ i. i ≤ℤ now)

-- it is behind now: there is a job, which stands before now in a zone that holds now, and isn't paused
abbrev pub is_behind : {J : Type 0} → ℤ → Option (Standing J) → Bool
is_behind now (Some s) = int_lt s.position.instant now && not (is_paused s.stop) && s.position.zone.holds now
is_behind now None = false

-- it stands at now from then on, and a next run that is later than now is kept
abbrev pub StandsOn : {J : Type 0} → ℤ → Standing J → Standing J → Type 0
StandsOn now s s' = StandsAt s.job s.position.zone now s' × IfSome s.next (λ i. now <ℤ i → s'.next ≡ Some i)

-- a job moves on to now, from before it; or what is held of its id is as it was
abbrev pub SkipsIf : {J : Type 0} → Bool → ℤ → Option (Standing J) → Option (Standing J) → Type 0
SkipsIf true now before after = IsSomeAnd before (λ s. (s.position.instant <ℤ now) × IsSomeAnd after (StandsOn now s))
SkipsIf false now before after = after ≡ before

-- these jobs move on to now, and nothing else has changed
pub record SkipsEach {J : Type 0} (moves : ℕ → Bool) (now : ℤ) (h h' : Held J) : Type 0 where
  pub each : (k : ℕ) → SkipsIf (moves k) now (h.jobs k) (h'.jobs k)
  pub count : h'.count ≡ h.count
  pub next_id : h'.next_id ≡ h.next_id

-- each job that is behind now
abbrev pub SkipsAll : {J : Type 0} → ℤ → Held J → Held J → Type 0
SkipsAll now h h' = SkipsEach (λ k. is_behind now (h.jobs k)) now h h'

-- each of an id below n
abbrev pub SkipsBelow : {J : Type 0} → ℕ → ℤ → Held J → Held J → Type 0
SkipsBelow n now h h' = SkipsEach (λ k. nat_lt k n && is_behind now (h.jobs k)) now h h'

-- it is told whether one of the jobs that were behind now is stopped
abbrev pub TellsSkipped : {J : Type 0} → ℤ → Held J → Held J → Bool → Type 0
TellsSkipped now h h' true = (k : ℕ) × (is_behind now (h.jobs k) ≡ true) × IsSomeAnd (h'.jobs k) (λ s. IsSome s.stop)
TellsSkipped now h h' false = (k : ℕ) → is_behind now (h.jobs k) ≡ true → IfSome (h'.jobs k) (λ s. s.stop ≡ None)

-- whether a job was searched again
abbrev pub is_asked : Again → Bool
is_asked GoesOn = true
is_asked StillStopped = true
is_asked NotStopped = false

-- the answer tells whether the job k, if it was searched again, is still stopped
abbrev pub AgainTellsStop : {J : Type 0} → ℕ → Held J → Again → Type 0
AgainTellsStop k h GoesOn = TellsStop h k false
AgainTellsStop k h StillStopped = TellsStop h k true
AgainTellsStop k h NotStopped = ⊤

-- it is stopped, and not because it is paused
abbrev pub IsStoppedBySearch : {J : Type 0} → Standing J → Type 0
IsStoppedBySearch s = IsSome s.stop × (is_paused s.stop ≡ false)

-- a search had stopped the job k, which may from then on be stopped otherwise or go on, from where it stands; or there is no such job, it
-- isn't stopped, or it is paused
abbrev pub AsksAgain : {J : Type 0} → ℕ → Held J → Held J → Bool → Type 0
AsksAgain k h h' true = IsSomeAnd (h.jobs k) (λ s. IsStoppedBySearch s × MovesTo h k s.position.instant h')
AsksAgain k h h' false = IfSome (h.jobs k) (λ s. (s.stop ≡ None) ⊎ (is_paused s.stop ≡ true)) × IsSame h h'

-- the job as it was, but paused
abbrev pub paused : {J : Type 0} → Standing J → Standing J
paused s = record { job = s.job; position = s.position; stop = Some stops.Paused; next = None }

-- the job k is paused from then on, and nothing else has changed; or there is no such job
abbrev pub Pauses : {J : Type 0} → ℕ → Held J → Held J → Bool → Type 0
Pauses k h h' true = IsSomeAnd (h.jobs k) (λ s. h'.jobs k ≡ Some (paused s)) × IsSameBut k h h'
Pauses k h h' false = (h.jobs k ≡ None) × IsSame h h'

-- a paused job that is to go on from a second, or from its position, if that is later: a second that its zone holds
abbrev pub IsToResume : {J : Type 0} → ℤ → Standing J → Type 0
IsToResume from s = (is_paused s.stop ≡ true) × (s.position.zone.holds (int_max s.position.instant from) ≡ true)

-- the pause of the job k ends, and its position moves on to the second, if that is later; or it isn't paused, there is no such job, or its
-- zone doesn't hold the second
abbrev pub Resumes : {J : Type 0} → ℕ → ℤ → Held J → Held J → Resume → Type 0
Resumes k from h h' (resumes.GoesOn b) = IsSomeAnd (h.jobs k) (λ s. IsToResume from s × MovesTo h k (int_max s.position.instant from) h')
Resumes k from h h' resumes.NotPaused = IsSomeAnd (h.jobs k) (λ s. is_paused s.stop ≡ false) × IsSame h h'
Resumes k from h h' resumes.NoJob = (h.jobs k ≡ None) × IsSame h h'
Resumes k from h h' resumes.NotHeld =
    IsSomeAnd (h.jobs k) (λ s. (is_paused s.stop ≡ true) × (s.position.zone.holds (int_max s.position.instant from) ≡ false)) × IsSame h h'

-- one that goes on tells whether the job k is stopped
abbrev pub ResumeTellsStop : {J : Type 0} → ℕ → Held J → Resume → Type 0
ResumeTellsStop k h (resumes.GoesOn is_stopped) = TellsStop h k is_stopped
ResumeTellsStop k h resumes.NotPaused = ⊤
ResumeTellsStop k h resumes.NoJob = ⊤
ResumeTellsStop k h resumes.NotHeld = ⊤

-- whose run is given, and when
abbrev pub turn_of : Due → Turn
turn_of due = record { id = due.id; second = due.second }

-- the first run is given, no later than now, and its job stands there from then on; or nothing is due
abbrev pub TakesDue : {J : Type 0} → (J → Zone → ℤ → Type 0) → ℤ → Held J → Held J → Option Turn → Type 0
TakesDue runs now h h' (Some due) = IsFirst runs h due.id due.second × (due.second ≤ℤ now) × MovesTo h due.id due.second h'
TakesDue runs now h h' None = ((l : ℕ) → IfSome (h.jobs l) (IsNotDue runs now)) × IsSame h h'

-- i can be given as the last run of the job that is due at now: the job isn't stopped, i lies after its position and no later than now, and
-- isn't earlier than its next run; in a calm zone it is a run of it, and of those that are left up to now, in the years that are searched
-- backward, the last
pub record IsLastDue {J : Type 0} (runs : J → Zone → ℤ → Type 0) (now i : ℤ) (s : Standing J) : Type 0 where
  pub goes : s.stop ≡ None
  pub after : s.position.instant <ℤ i
  pub due : i ≤ℤ now
  pub from : IsSomeAnd s.next (λ n. n ≤ℤ i)
  pub run : IsCalm s.position.zone → ∥ runs s.job s.position.zone i ∥₁
  pub last : IsCalm s.position.zone → (j : ℤ) → Left runs s j → j ≤ℤ now → InSpan Backward s.position.zone.reads j → j ≤ℤ i

-- the next run lies no later than now
abbrev pub HasDueRun : {J : Type 0} → ℤ → Standing J → Type 0
HasDueRun now s = IsSomeAnd s.next (λ n. n ≤ℤ now)

-- a job whose next run is due, in whose zone now is held
abbrev pub IsToTake : {J : Type 0} → ℤ → Standing J → Type 0
IsToTake now s = HasDueRun now s × (s.position.zone.holds now ≡ true)

-- the last run of the job k due at now is given, and the job stands there from then on; or nothing of it is due, there is no such job, its
-- zone doesn't hold now, or the search backward from now, which isn't promised there, was refused
abbrev pub TakesLatest : {J : Type 0} → (J → Zone → ℤ → Type 0) → ℕ → ℤ → Held J → Held J → Latest → Type 0
TakesLatest runs k now h h' (latest.Given i b) = IsSomeAnd (h.jobs k) (λ s. IsLastDue runs now i s × (s.position.zone.holds now ≡ true)) × MovesTo h k i h'
TakesLatest runs k now h h' latest.NothingDue = IsSomeAnd (h.jobs k) (λ s. IsNotDue runs now s × IfSome s.next (λ n. now <ℤ n)) × IsSame h h'
TakesLatest runs k now h h' latest.NoJob = (h.jobs k ≡ None) × IsSame h h'
TakesLatest runs k now h h' latest.NotHeld = IsSomeAnd (h.jobs k) (λ s. HasDueRun now s × (s.position.zone.holds now ≡ false)) × IsSame h h'
TakesLatest runs k now h h' (latest.Refused e) =
    IsSomeAnd (h.jobs k) (λ s. IsToTake now s × StopsAt (at_instant s.position.zone now) (stops.Refused e)) × IsSame h h'

-- a run that is given tells whether the job k is stopped
abbrev pub LatestTellsStop : {J : Type 0} → ℕ → Held J → Latest → Type 0
LatestTellsStop k h (latest.Given i is_stopped) = TellsStop h k is_stopped
LatestTellsStop k h latest.NothingDue = ⊤
LatestTellsStop k h latest.NoJob = ⊤
LatestTellsStop k h latest.NotHeld = ⊤
LatestTellsStop k h (latest.Refused e) = ⊤

-- the job is new under the next id, and stands at the whole second of the position
pub record IsAdded {J : Type 0} (job : J) (position : Moment) (h h' : Held J) (id : ℕ) : Type 0 where
  pub id_is : id ≡ h.next_id
  pub unused : h.jobs id ≡ None
  pub added : IsSomeAnd (h'.jobs id) (StandsAt job position.zone position.instant)
  pub others : (other : ℕ) → ¬ (other ≡ id) → h'.jobs other ≡ h.jobs other
  pub count : h'.count ≡ h.count + 1
  pub next_id : h'.next_id ≡ h.next_id + 1

-- what was handed over is handed back
abbrev pub IsHandedBack : {J T : Type 0} → J → T → NotAdded J T → Type 0
IsHandedBack job position refused = (refused.job ≡ job) × (refused.position ≡ position)

-- why a job isn't added: for lack of memory, and then an id is left; or since no id is left
abbrev pub IsAddRefused : {J : Type 0} → Held J → AddError → Type 0
IsAddRefused h OutOfMemory = ¬ (h.next_id ≡ 2 ^ 64 - 1)
IsAddRefused h NoIdLeft = h.next_id ≡ 2 ^ 64 - 1
IsAddRefused h SecondBeforeNotHeld = ⊥
IsAddRefused h errors.NoJob = ⊥

-- the second before that of a moment
abbrev pub second_before : Moment → Moment
second_before m = at_instant m.zone (m.instant -ℤ pos 1)

-- that second isn't held, or lies before all that a position can name
abbrev pub HasNoneBefore : Moment → Type 0
HasNoneBefore m = (m.zone.holds (m.instant -ℤ pos 1) ≡ false) ⊎ (m.instant ≡ neg_ℤ (pos (2 ^ 63)))

-- why a job isn't added from a start on: for lack of memory, and then an id is left and the second before is held; since no id is left; or
-- since that second isn't held
abbrev pub IsAddFromRefused : {J : Type 0} → Moment → Held J → AddError → Type 0
IsAddFromRefused start h OutOfMemory = ¬ (h.next_id ≡ 2 ^ 64 - 1) × (start.zone.holds (start.instant -ℤ pos 1) ≡ true)
IsAddFromRefused start h NoIdLeft = h.next_id ≡ 2 ^ 64 - 1
IsAddFromRefused start h SecondBeforeNotHeld = HasNoneBefore start
IsAddFromRefused start h errors.NoJob = ⊥

-- the job of a standing and its position are given back, if there was one
abbrev pub IsGivenBack : {J T : Type 0} → (T → Moment) → Option (Standing J) → Option (J × T) → Type 0
IsGivenBack moment (Some s) (Some given) = (given.0 ≡ s.job) × (moment given.1 ≡ s.position)
IsGivenBack moment None None = ⊤
IsGivenBack moment standing given = ⊥

-- the job stands under the id k at the whole second of the position, and nothing else has changed
pub record IsPut {J : Type 0} (job : J) (position : Moment) (h : Held J) (k : ℕ) (h' : Held J) : Type 0 where
  pub put : IsSomeAnd (h'.jobs k) (StandsAt job position.zone position.instant)
  pub rest : IsSameBut k h h'

-- the job of the id is given back, and the other one is in its place
abbrev pub Replaces : {J T : Type 0} → (T → Moment) → ℕ → J → Moment → Held J → Held J → J × T → Type 0
Replaces moment k job position h h' given = IsGivenBack moment (h.jobs k) (Some given) × IsPut job position h k h'

-- the same, where the other job stands where the first one stood
abbrev pub ReplacesJob : {J T : Type 0} → (T → Moment) → ℕ → J → Held J → Held J → J × T → Type 0
ReplacesJob moment k job h h' given = IsGivenBack moment (h.jobs k) (Some given) × IsSomeAnd (h.jobs k) (λ s. IsPut job s.position h k h')

-- why no job is put in the place of the one of the id k: there is none; or there is one, and memory is lacking
abbrev pub IsPutRefused : {J : Type 0} → ℕ → Held J → AddError → Type 0
IsPutRefused k h OutOfMemory = IsSome (h.jobs k)
IsPutRefused k h NoIdLeft = ⊥
IsPutRefused k h SecondBeforeNotHeld = ⊥
IsPutRefused k h errors.NoJob = h.jobs k ≡ None

-- the job of the id is gone, if there was one, and the others stay
pub record IsRemoved {J : Type 0} (id : ℕ) (h h' : Held J) : Type 0 where
  pub gone : h'.jobs id ≡ None
  pub others : (other : ℕ) → ¬ (other ≡ id) → h'.jobs other ≡ h.jobs other
  pub next_id : h'.next_id ≡ h.next_id
