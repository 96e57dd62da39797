-- The words of one walk along the wall clock.
-- Private contracts alone cite these definitions.
use Rattle.std.specs.Prelude.{◌≡◌, ⊤, ℕ, ℤ, pos, ◌+ℤ◌, ◌<ℤ◌, ◌≤ℤ◌, ◌⊎◌, Bool, true, false, Option, Some, None}
use Rattle.croner_base.specs.declared.errors.CronError.{CronError}
use Rattle.croner_base.specs.declared.time.Direction.{Direction}
use Rattle.croner_base.specs.declared.time.Direction.TheVariants.{Forward, Backward}
use Rattle.croner_base.specs.declared.time.civil.CivilDateTime.{CivilDateTime}
use Rattle.croner_base.specs.Civil.{wall_second}
use Rattle.croner_base.specs.Zone.{Zone, Moment, reading}
use Rattle.croner_base.specs.Calm.{IsCalm}
use Rattle.croner.specs.search.Limit.{NoneAhead}
use Rattle.croner.specs.Private.search.Held.{HoldsYears, IsBackendError}
use Rattle.croner.specs.search.Runs.{Timetable, Job, Precedes, Reaches, Ahead}
use Rattle.croner.specs.Private.search.Schedule.{NoneScheduled}
use Rattle.croner.specs.search.Premises.{IsCalmStart, HasOneInstantEach, Shows}
use Rattle.croner.specs.declared.search.walk.Passed.{Passed}
use Rattle.croner.specs.declared.search.walk.Passed.TheVariants.{Answer, GoOn, Limit}
pub use Rattle.croner_pattern.specs.Directions.{one_on}

-- the most passes of a walk
abbrev pub pass_limit : ℕ
pass_limit = 31_622_400

-- where a walk begins
abbrev pub walk_start : Direction → Bool → ℤ → ℤ
walk_start direction true w = w
walk_start direction false w = one_on direction w

-- i is the first instant that shows w or more
pub record First (reads : ℤ → ℤ) (w i : ℤ) : Type 0 where
  pub reached : w ≤ℤ reads i
  pub before : (j : ℤ) → j <ℤ i → reads j <ℤ w

-- i is a run of the scheduled second w
abbrev pub RunOf : Job → ℤ → ℤ → Type 0
RunOf job w i =
    ((job.timetable.fixed_time ≡ false) × (job.zone.reads i ≡ w))
    ⊎ ((job.timetable.fixed_time ≡ true) × First job.zone.reads w i × ((job.zone.reads i ≡ w) ⊎ job.timetable.date_matches (job.zone.reads i)))

-- no run of a scheduled second from a wall second on, up to another left out, lies ahead
abbrev pub NoneOf : Direction → Bool → Job → ℤ → ℤ → ℤ → Type 0
NoneOf direction inclusive job s from to =
    (w i : ℤ) → Reaches direction from w → Precedes direction w to → job.timetable.scheduled w → RunOf job w i → ¬ (Ahead direction inclusive s i)

-- t is a run ahead of a scheduled second from a wall second on, and none of these is nearer
pub record Walked (direction : Direction) (inclusive : Bool) (job : Job) (s from t : ℤ) : Type 0 where
  pub second : ℤ
  pub visited : Reaches direction from second
  pub scheduled : job.timetable.scheduled second
  pub run : RunOf job second t
  pub ahead : Ahead direction inclusive s t
  pub nearest : (w i : ℤ) → Reaches direction from w → job.timetable.scheduled w → RunOf job w i → Ahead direction inclusive s i → Reaches direction t i

-- what a walk from s answers
abbrev pub WalkedFrom : Direction → Bool → Job → ℤ → ℤ → Type 0
WalkedFrom direction inclusive job s t = Walked direction inclusive job s (walk_start direction inclusive (job.zone.reads s)) t

-- the walk is out: no second that it has passed has a run ahead, and nothing is scheduled from there on
abbrev pub OutFrom : Direction → Bool → Job → ℤ → Type 0
OutFrom direction inclusive job s =
    (cursor : ℤ)
    × NoneOf direction inclusive job s (walk_start direction inclusive (job.zone.reads s)) cursor
    × NoneScheduled direction job.timetable.fixed_time job.timetable.scheduled cursor

-- the walk from s has come to a wall second
pub record Walking (direction : Direction) (inclusive : Bool) (job : Job) (s : ℤ) (fraction : ℕ) (wall : ℤ) : Type 0 where
  pub reaches : Reaches direction (walk_start direction inclusive (job.zone.reads s)) wall
  pub none : IsCalmStart job.zone fraction → NoneOf direction inclusive job s (walk_start direction inclusive (job.zone.reads s)) wall

-- of a second's two instants the nearer that is not before s, or else the other
abbrev pub NearerOf : {T : Type 0} → (T → Moment) → Direction → ℤ → T → T → Option T → Type 0
NearerOf moment direction s near far (Some t) =
    ((t ≡ near) × Reaches direction s (moment near).instant)
    ⊎ ((t ≡ far) × Precedes direction (moment near).instant s × Reaches direction s (moment far).instant)
NearerOf moment direction s near far None =
    Precedes direction (moment near).instant s × Precedes direction (moment far).instant s

-- the one of a second's two instants that a job takes, where it is not before s
abbrev pub ChosenOf : {T : Type 0} → (T → Moment) → Bool → Direction → ℤ → T → T → Option T → Type 0
ChosenOf moment false Forward s e l chosen = NearerOf moment Forward s e l chosen
ChosenOf moment false Backward s e l chosen = NearerOf moment Backward s l e chosen
ChosenOf moment true direction s e l (Some t) = (t ≡ e) × Reaches direction s (moment e).instant
ChosenOf moment true direction s e l None = Precedes direction (moment e).instant s

-- what was taken is one of the two
abbrev pub IsOneOf : {T : Type 0} → T → T → Option T → Type 0
IsOneOf a b (Some t) = (t ≡ a) ⊎ (t ≡ b)
IsOneOf a b None = ⊤

-- the zone does not hold the instant one second on
abbrev pub CannotMove : Direction → Moment → Type 0
CannotMove direction m = m.zone.holds (one_on direction m.instant) ≡ false

-- no instant shows any of the seconds from one on in the direction, up to another left out
abbrev pub UnreadTo : Direction → (ℤ → ℤ) → ℤ → ℤ → Type 0
UnreadTo direction reads from to =
    (u : ℤ) → Reaches direction from u → Precedes direction u to → (x : ℤ) → ¬ (reads x ≡ u)

-- t is the first instant after the gap that holds w, and shows v
pub record GapEnd (reads : ℤ → ℤ) (w v t : ℤ) : Type 0 where
  pub past : w <ℤ v
  pub unread : UnreadTo Forward reads w v
  pub first : First reads v t
  pub at : reads t ≡ v

-- from a second in a gap the walk goes on, and not past the gap's far side
pub record Onward (direction : Direction) (reads : ℤ → ℤ) (w wall : ℤ) : Type 0 where
  pub on : Precedes direction w wall
  pub within : (p : ℤ) → reads p <ℤ w → w <ℤ reads (p +ℤ pos 1) → (reads p ≤ℤ wall) × (wall ≤ℤ reads (p +ℤ pos 1))

-- the walk goes on from a second in a gap, or from one whose nearer instant lies before s
abbrev pub Paces : Direction → (ℤ → ℤ) → ℤ → ℤ → ℤ → Type 0
Paces direction reads s w wall =
    (((x : ℤ) → ¬ (reads x ≡ w)) × Onward direction reads w wall)
    ⊎ ((wall ≡ one_on direction w) × ((e : ℤ) × (reads e ≡ w) × Precedes direction e s))

-- the value is an answer of a walk
pub record IsWalked {T : Type 0} (moment : T → Moment) (direction : Direction) (inclusive : Bool) (job : Job) (start : Moment) (t : T) : Type 0 where
  pub zone_is : (moment t).zone ≡ job.zone
  pub whole : (moment t).fraction ≡ 0
  pub shows : Shows job (moment t).instant
  pub ahead : ¬ (NoneAhead direction inclusive job.timetable.scheduled (job.zone.reads start.instant))
  pub walked : IsCalmStart job.zone start.fraction → WalkedFrom direction inclusive job start.instant (moment t).instant

-- what one pass of a walk comes to
abbrev pub HasPassed : {T : Type 0} → (T → Moment) → Direction → Bool → Job → Moment → ℤ → Passed T → Type 0
HasPassed moment direction inclusive job start w (Answer t) = IsWalked moment direction inclusive job start t
HasPassed moment direction inclusive job start w (GoOn wall) =
    Walking direction inclusive job start.instant start.fraction (wall_second wall)
    × (IsCalmStart job.zone start.fraction → Paces direction job.zone.reads start.instant w (wall_second wall))
HasPassed moment direction inclusive job start w Limit = ¬ (IsCalm job.zone)

-- a walk that meets no run is out
abbrev pub HasWalked : {T : Type 0} → (T → Moment) → Direction → Bool → Job → Moment → Option T → Type 0
HasWalked moment direction inclusive job start (Some t) = IsWalked moment direction inclusive job start t
HasWalked moment direction inclusive job start None =
    IsCalmStart job.zone start.fraction → OutFrom direction inclusive job start.instant

-- why a walk is refused: the backend's error, and there was something to ask for
pub record IsWalkRefused (lack : Bool) (direction : Direction) (inclusive : Bool) (timetable : Timetable) (start : Moment) (e : CronError) : Type 0 where
  pub error : IsBackendError lack (IsCalm start.zone → ¬ (HoldsYears start.zone)) e
  pub ahead : ¬ (NoneAhead direction inclusive timetable.scheduled (reading start))

-- past the gap that holds a second: where it ends, or further than the search reaches
abbrev pub HasGapEnd : {T : Type 0} → (T → Moment) → Zone → ℤ → Option (CivilDateTime × T) → Type 0
HasGapEnd moment z w (Some found) =
    (w <ℤ wall_second found.0) × ((moment found.1).zone ≡ z) × ((moment found.1).fraction ≡ 0)
    × ¬ (HasOneInstantEach z)
    × (IsCalm z → GapEnd z.reads w (wall_second found.0) (moment found.1).instant)
HasGapEnd moment z w None = ¬ (IsCalm z)

-- before the gap that holds a second: its front, or further than the search reaches
abbrev pub HasGapFront : Zone → ℤ → Option CivilDateTime → Type 0
HasGapFront z w (Some front) =
    Precedes Backward w (wall_second front)
    × (IsCalm z → UnreadTo Backward z.reads w (wall_second front) × ((t : ℤ) × (z.reads t ≡ wall_second front)))
HasGapFront z w None = ¬ (IsCalm z)
