-- What a zone holds for a step of a search, and the error of a backend that does not hold it.
-- Private contracts alone cite these definitions.
use Rattle.std.specs.Prelude.{◌≡◌, ◌⊎◌, ℤ, Bool, true, IsTrue, IsSome}
use Rattle.croner_base.specs.declared.errors.CronError.{CronError}
use Rattle.croner_base.specs.declared.errors.CronError.TheVariants.{InvalidDate, InvalidTime, OutOfMemory}
use Rattle.croner_base.specs.declared.time.civil.CivilDateTime.{CivilDateTime}
use Rattle.croner_base.specs.Calm.{IsInReach}
use Rattle.croner_base.specs.Civil.{wall_second}
use Rattle.croner_base.specs.Zone.{Zone}

-- the zone holds the seconds of the years 0 to 5001, and the instants that show them
pub record HoldsYears (z : Zone) : Type 0 where
  pub seconds : (c : CivilDateTime) → IsInReach (wall_second c) → IsSome (z.resolves c)
  pub instants : (i : ℤ) → IsInReach (z.reads i) → z.holds i ≡ true

-- the zone resolves this wall second
abbrev pub HoldsSecond : Zone → ℤ → Type 0
HoldsSecond z w = (c : CivilDateTime) → wall_second c ≡ w → IsSome (z.resolves c)

-- the backend's error: lack of memory, where it can lack memory, or something that it does not hold
abbrev pub IsBackendError : Bool → Type 0 → CronError → Type 0
IsBackendError lack unheld e = ((e ≡ OutOfMemory) × IsTrue lack) ⊎ (((e ≡ InvalidDate) ⊎ (e ≡ InvalidTime)) × unheld)
