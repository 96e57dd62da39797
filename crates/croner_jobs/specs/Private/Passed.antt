-- From a run of a job on to the nearest one on a date that is kept.
use Rattle.std.specs.Prelude.{◌≡◌, ℤ, Option, Some, None}
use Rattle.croner.specs.Calm.{IsCalm}
use Rattle.croner.specs.Zone.{Zone, Moment}
use Rattle.croner.specs.search.Runs.{Precedes, Reaches}
use Rattle.croner_base.specs.declared.time.Direction.{Direction}
use Rattle.croner_jobs.specs.Runs.{on_dates}
use Rattle.croner_jobs.specs.Served.{IsServed}
use Rattle.croner_jobs.specs.declared.dates.Dates.{Dates}

-- f is a run beyond s, and no served run lies between
pub record IsNext (direction : Direction) (runs : ℤ → Type 0) (s f : ℤ) : Type 0 where
  pub past : Precedes direction s f
  pub run : runs f
  pub nearest : (i : ℤ) → IsServed i → Precedes direction s i → runs i → Reaches direction f i

-- the next run beyond a second; or no served one lies there
abbrev pub IsBeyond : {T : Type 0} → (T → Moment) → Direction → (Zone → ℤ → Type 0) → Zone → ℤ → Option T → Type 0
IsBeyond moment direction runs z s (Some t) =
    ((moment t).zone ≡ z) × ((moment t).fraction ≡ 0) × (IsCalm z → IsNext direction (runs z) s (moment t).instant)
IsBeyond moment direction runs z s None = IsCalm z → (i : ℤ) → IsServed i → Precedes direction s i → ¬ (runs z i)

-- f is a run from s on, s included, and no served one of these comes before it
pub record IsFirstOn (direction : Direction) (runs : ℤ → Type 0) (s f : ℤ) : Type 0 where
  pub on : Reaches direction s f
  pub run : runs f
  pub nearest : (i : ℤ) → IsServed i → Reaches direction s i → runs i → Reaches direction f i

-- where the passing over ends that begins at a run
abbrev pub IsPassedTo : {T : Type 0} → (T → Moment) → Direction → (Zone → ℤ → Type 0) → Dates → Zone → ℤ → Option T → Type 0
IsPassedTo moment direction runs dates z first (Some t) =
    ((moment t).zone ≡ z) × ((moment t).fraction ≡ 0)
    × (IsCalm z → runs z first → IsFirstOn direction (on_dates dates runs z) first (moment t).instant)
IsPassedTo moment direction runs dates z first None =
    IsCalm z → runs z first → (i : ℤ) → IsServed i → Reaches direction first i → ¬ (on_dates dates runs z i)
