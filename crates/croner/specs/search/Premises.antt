-- What the promises of a search rest on.
use Rattle.std.specs.Prelude.{◌≡◌, ◌⊎◌, ℕ, ℤ, false, Some, IsSome}
use Rattle.croner_base.specs.declared.time.civil.CivilDateTime.{CivilDateTime}
use Rattle.croner_base.specs.declared.time.value.Resolution.TheVariants.{Single}
use Rattle.croner_base.specs.Zone.{Zone, Moment}
use Rattle.croner_base.specs.Calm.{IsCalm, HoldsAround}
use Rattle.croner.specs.search.Runs.{Job}

-- a whole second in a calm zone
pub record IsCalmStart (z : Zone) (fraction : ℕ) : Type 0 where
  pub calm : IsCalm z
  pub whole : fraction ≡ 0

-- a search from this moment is from a whole second in a calm zone
abbrev pub StartsCalm : Moment → Type 0
StartsCalm m = IsCalmStart m.zone m.fraction

-- a search from this moment is refused for no want of the backend: it is from a whole second in a calm zone, and the backend
-- holds what the search needs
pub record IsSearchable (m : Moment) : Type 0 where
  pub starts : StartsCalm m
  pub held : HoldsAround m

-- each second that the zone holds is resolved to one instant
abbrev pub HasOneInstantEach : Zone → Type 0
HasOneInstantEach z = (c : CivilDateTime) → IsSome (z.resolves c) → (i : ℤ) × (z.resolves c ≡ Some (Single i))

-- an answer of an interval job shows a scheduled second, and so does each answer where every held second is resolved to
-- one instant
abbrev pub Shows : Job → ℤ → Type 0
Shows job i = (job.timetable.fixed_time ≡ false) ⊎ HasOneInstantEach job.zone → job.timetable.scheduled (job.zone.reads i)
