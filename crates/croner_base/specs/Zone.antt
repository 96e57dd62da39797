-- A zone's clock, the instants that values name in it, and what a backend holds.
use Rattle.std.specs.Prelude.{◌≡◌, ◌⊎◌, ℕ, Bool, true, false, IsTrue, ℤ, pos, ◌+ℤ◌, ◌*ℤ◌, ◌<ℤ◌, Option, Some, None}
use Rattle.croner_base.specs.declared.errors.CronError.{CronError}
use Rattle.croner_base.specs.declared.errors.CronError.TheVariants.{InvalidDate, InvalidTime, OutOfMemory}
use Rattle.croner_base.specs.declared.time.civil.CivilDateTime.{CivilDateTime}
use Rattle.croner_base.specs.Civil.{wall_second}
use Rattle.croner_base.specs.declared.time.value.Resolution.{Resolution}
use Rattle.croner_base.specs.declared.time.value.Resolution.TheVariants.{Single, Ambiguous, Gap}

-- a zone as a backend has it
pub record Zone : Type 0 where
  -- the wall second that the clock shows at each whole-second instant
  pub reads : ℤ → ℤ
  -- the instants that a civil second is resolved to, or nothing where it is not held
  pub resolves : CivilDateTime → Option (Resolution ℤ)
  -- whether the backend has the instant
  pub holds : ℤ → Bool

-- a whole-second instant in a zone, and the nanoseconds after it
pub record Moment : Type 0 where
  pub zone : Zone
  pub instant : ℤ
  pub fraction : ℕ

-- the wall second that a moment's zone shows at its whole second
abbrev pub reading : Moment → ℤ
reading m = m.zone.reads m.instant

-- nanoseconds since the epoch
abbrev pub nanos_of : Moment → ℤ
nanos_of m = m.instant *ℤ pos 1_000_000_000 +ℤ pos m.fraction

-- the whole-second instant i of a zone
abbrev pub at_instant : Zone → ℤ → Moment
at_instant z i = record { zone = z; instant = i; fraction = 0 }

-- the value names a whole-second instant of the zone that shows the wall second
pub record Names {T : Type 0} (moment : T → Moment) (z : Zone) (w : ℤ) (t : T) : Type 0 where
  pub zone_is : (moment t).zone ≡ z
  pub whole : (moment t).fraction ≡ 0
  pub reads_it : z.reads (moment t).instant ≡ w

-- the values name what the zone resolves the wall second to, the earlier first
abbrev pub IsResolved : {T : Type 0} → (T → Moment) → Zone → CivilDateTime → Resolution T → Type 0
IsResolved moment z c (Single t) =
    Names moment z (wall_second c) t × (z.resolves c ≡ Some (Single (moment t).instant))
IsResolved moment z c (Ambiguous a b) =
    Names moment z (wall_second c) a × Names moment z (wall_second c) b × ((moment a).instant <ℤ (moment b).instant)
    × (z.resolves c ≡ Some (Ambiguous (moment a).instant (moment b).instant))
IsResolved moment z c Gap = z.resolves c ≡ Some Gap

-- why a wall second is not resolved
abbrev pub IsUnheld : Bool → Zone → CivilDateTime → CronError → Type 0
IsUnheld lack z c e =
    ((e ≡ OutOfMemory) × IsTrue lack)
    ⊎ (((e ≡ InvalidDate) ⊎ (e ≡ InvalidTime)) × (z.resolves c ≡ None))

-- the moment so many elapsed seconds later
abbrev pub later : Moment → ℤ → Moment
later m s = record m { instant = m.instant +ℤ s }

-- the value is that moment, or the zone does not hold it
abbrev pub IsMoved : {T : Type 0} → (T → Moment) → Moment → ℤ → Option T → Type 0
IsMoved moment m s (Some t) = (moment t ≡ later m s) × (m.zone.holds (m.instant +ℤ s) ≡ true)
IsMoved moment m s None = m.zone.holds (m.instant +ℤ s) ≡ false
