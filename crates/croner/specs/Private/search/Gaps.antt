-- The side of a gap, as a search by doubling and bisection finds it.
-- Private contracts alone cite these definitions.
use Rattle.std.specs.Prelude.{◌≡◌, ◌⊎◌, ℕ, ◌<◌, ◌≤◌, ℤ, Bool, Option, Some, None, Result, Ok, Err}
use Rattle.croner_base.specs.declared.errors.CronError.{CronError}
use Rattle.croner_base.specs.declared.time.Direction.{Direction}
use Rattle.croner_base.specs.declared.time.civil.CivilDateTime.{CivilDateTime}
use Rattle.croner_base.specs.Civil.{wall_second}
use Rattle.croner_base.specs.Zone.{Zone, Moment}
use Rattle.croner_base.specs.Calm.{IsCalm}
use Rattle.croner_base.specs.Limits.{gap_limit}
use Rattle.croner.specs.Private.search.Held.{HoldsYears, IsBackendError}
use Rattle.croner.specs.search.Limit.{IsWithin}
use Rattle.croner.specs.search.Runs.{Precedes}
use Rattle.croner.specs.declared.search.gap.Around.{Around}
use Rattle.croner.specs.Private.search.Halves.{offset_from}
use Rattle.croner.specs.Private.search.Walk.{First, one_on, UnreadTo}

-- in a calm zone no instant shows the second
abbrev pub IsSkipped : Zone → ℤ → Type 0
IsSkipped z w = IsCalm z → (x : ℤ) → ¬ (z.reads x ≡ w)

-- the value is the first instant that shows the second
pub record IsFirstShown {T : Type 0} (moment : T → Moment) (z : Zone) (found : CivilDateTime × T) : Type 0 where
  pub zone_is : (moment found.1).zone ≡ z
  pub whole : (moment found.1).fraction ≡ 0
  pub first : IsCalm z → First z.reads (wall_second found.0) (moment found.1).instant
  pub at : IsCalm z → z.reads (moment found.1).instant ≡ wall_second found.0

-- what is answered for the second w outside a gap: the first instant that shows it, or the backend's error
abbrev pub IsBeyond : {T : Type 0} → (T → Moment) → Bool → Zone → ℤ → Result (CivilDateTime × T) CronError → Type 0
IsBeyond moment lack z w (Ok found) = (wall_second found.0 ≡ w) × IsFirstShown moment z found
IsBeyond moment lack z w (Err e) = IsBackendError lack (¬ (HoldsYears z)) e

-- a second that is skipped and one that is not, within the limit of the search
pub record IsAround {T : Type 0} (moment : T → Moment) (lack : Bool) (direction : Direction) (z : Zone) (w : ℤ) (around : Around T) : Type 0 where
  pub ordered : around.inside < around.outside
  pub near : around.outside ≤ gap_limit
  pub skipped : IsSkipped z (offset_from direction w around.inside)
  pub beyond : IsBeyond moment lack z (offset_from direction w around.outside) around.answer

-- the nearest second outside the gap that holds one, or the second at the limit is skipped too
abbrev pub HasGapSide : {T : Type 0} → (T → Moment) → Direction → ℕ → Zone → ℤ → Option (CivilDateTime × T) → Type 0
HasGapSide moment direction limit z w (Some found) =
    Precedes direction w (wall_second found.0) × IsFirstShown moment z found
    × (IsCalm z → UnreadTo direction z.reads w (wall_second found.0))
HasGapSide moment direction limit z w None = IsSkipped z (offset_from direction w limit)

-- from a second in a gap in one step to the nearest second outside it: none on the way there is read, and both lie in the years
-- that are searched whole
pub record CrossesGap (direction : Direction) (z : Zone) (w side : ℤ) : Type 0 where
  pub on : Precedes direction w side
  pub from : IsWithin direction w
  pub to : IsWithin direction side
  pub unread : IsCalm z → UnreadTo direction z.reads w side
  pub reached : IsCalm z → (x : ℤ) × (z.reads x ≡ side)

-- where the walk of an interval job goes on from a second in a gap: at the next second, or across the gap
abbrev pub GoesPast : Direction → Zone → ℤ → ℤ → Type 0
GoesPast direction z w wall = (wall ≡ one_on direction w) ⊎ CrossesGap direction z w wall
