-- Which dates are kept. Source: this crate's documentation.
use Rattle.std.specs.Prelude.{◌≡◌, ℤ, Contains}
use Rattle.croner.specs.Civil.{wall_second}
use Rattle.croner_base.specs.declared.time.civil.CivilDate.{CivilDate}
use Rattle.croner_base.specs.declared.time.civil.CivilDateTime.{CivilDateTime}
use Rattle.croner_jobs.specs.declared.dates.Dates.{Dates}
use Rattle.croner_jobs.specs.declared.dates.Dates.TheVariants.{Only, AllBut}

-- a date is kept
abbrev pub Keeps : Dates → CivilDate → Type 0
Keeps (Only dates) d = Contains dates.items d
Keeps (AllBut dates) d = ¬ (Contains dates.items d)

-- a wall second lies on a date that is kept
abbrev pub IsKept : Dates → ℤ → Type 0
IsKept dates w = (c : CivilDateTime) × (wall_second c ≡ w) × Keeps dates c.date
