-- The two halves of a repeated range of the wall clock.
-- Private contracts alone cite these definitions.
use Rattle.std.specs.Prelude.{◌≡◌, ◌⊎◌, ⊤, ℕ, ◌+◌, ◌≤◌, ℤ, pos, ◌+ℤ◌, ◌-ℤ◌, Bool, false, Option, Some, None}
use Rattle.croner_base.specs.declared.errors.CronError.{CronError}
use Rattle.croner_base.specs.declared.errors.CronError.TheVariants.{TimeSearchLimitExceeded}
use Rattle.croner_base.specs.declared.time.Direction.{Direction}
use Rattle.croner_base.specs.declared.time.Direction.TheVariants.{Forward, Backward}
use Rattle.croner_base.specs.Zone.{Moment}
use Rattle.croner_base.specs.Limits.{apart_limit}
use Rattle.croner.specs.search.Runs.{Precedes, Reaches}
use Rattle.croner.specs.Private.search.Held.{IsBackendError}
use Rattle.croner.specs.search.Premises.{IsCalmStart, StartsCalm, IsSearchable}
pub use Rattle.croner_pattern.specs.Directions.{offset_from}

-- how many seconds on the edge of the other half is sought
abbrev pub edge_limit : ℕ
edge_limit = 86_400

-- the clock is put forward or back right after the instant p
abbrev pub Break : (ℤ → ℤ) → ℤ → Type 0
Break reads p = ¬ (reads (p +ℤ pos 1) ≡ reads p +ℤ pos 1)

-- another instant, ahead in the direction, shows what i shows
abbrev pub HasTwin : Direction → (ℤ → ℤ) → ℤ → Type 0
HasTwin direction reads i = (x : ℤ) × (reads x ≡ reads i) × Precedes direction i x

-- the clock is put forward or back between e and the instant before it in the direction
abbrev pub BreaksBefore : Direction → (ℤ → ℤ) → ℤ → Type 0
BreaksBefore Forward reads e = Break reads (e -ℤ pos 1)
BreaksBefore Backward reads e = Break reads e

-- e is the nearest instant of the half that s is not on: right past a change, at most a window from s
pub record EdgeOf (direction : Direction) (reads : ℤ → ℤ) (s e : ℤ) : Type 0 where
  pub from : Precedes direction s e
  pub near : Reaches direction e (offset_from direction s (apart_limit + 1))
  pub breaks : BreaksBefore direction reads e

-- the same moment so many seconds on in the direction
abbrev pub moment_from : Direction → Moment → ℕ → Moment
moment_from direction m n = record m { instant = offset_from direction m.instant n }

-- the other half counts too: not so for a fixed-time job forward
abbrev pub CountsBoth : Direction → Bool → Type 0
CountsBoth Forward fixed_time = fixed_time ≡ false
CountsBoth Backward fixed_time = ⊤

-- the value stands at the edge of the other half, or there is none within the margin
abbrev pub IsEdge : {T : Type 0} → (T → Moment) → Direction → Moment → Option T → Type 0
IsEdge moment direction m (Some t) =
    ((moment t).zone ≡ m.zone) × ((moment t).fraction ≡ m.fraction)
    × (IsCalmStart m.zone m.fraction → HasTwin direction m.zone.reads m.instant → EdgeOf direction m.zone.reads m.instant (moment t).instant)
    × ((n : ℕ) × (n ≤ edge_limit) × ((moment t).instant ≡ offset_from direction m.instant n))
IsEdge moment direction m None = IsCalmStart m.zone m.fraction → ¬ (HasTwin direction m.zone.reads m.instant)

-- the other direction
abbrev pub opposite_way : Direction → Direction
opposite_way Forward = Backward
opposite_way Backward = Forward

-- the value stands at the edge of the other half of the range on whose first half m is; none where m is on no first half
abbrev pub HasOtherHalf : {T : Type 0} → (T → Moment) → Direction → Moment → Option T → Type 0
HasOtherHalf moment direction m (Some t) =
    ((moment t).zone ≡ m.zone) × ((moment t).fraction ≡ m.fraction)
    × (StartsCalm m → EdgeOf direction m.zone.reads m.instant (moment t).instant)
    × ((n : ℕ) × (n ≤ edge_limit) × ((moment t).instant ≡ offset_from direction m.instant n))
HasOtherHalf moment direction m None = StartsCalm m → ¬ (HasTwin direction m.zone.reads m.instant)

-- why the other half is not told: the limit, which no calm zone gives, or the backend's error
abbrev pub IsHalfRefused : Bool → Moment → CronError → Type 0
IsHalfRefused lack m e = ((e ≡ TimeSearchLimitExceeded) × ¬ (StartsCalm m)) ⊎ IsBackendError lack (¬ (IsSearchable m)) e
