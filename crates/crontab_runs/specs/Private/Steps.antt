-- One step of a search over the stretches of a clock.
-- Private contracts alone cite these definitions.
use Rattle.std.specs.Prelude.{◌≡◌, ◌↔◌, ℤ, pos, ◌+ℤ◌, ◌-ℤ◌, ◌<ℤ◌, ◌≤ℤ◌}
use Rattle.croner_base.specs.declared.time.Direction.{Direction}
use Rattle.croner_base.specs.declared.time.Direction.TheVariants.{Forward, Backward}
use Rattle.croner_base.specs.TableZone.{table_zone}
use Rattle.croner_pattern.specs.Directions.{Reaches}
use Rattle.croner_pattern.specs.Meaning.{Meaning}
use Rattle.croner.specs.search.Limit.{IsWithin, InSpan}
use Rattle.crontab_runs.specs.declared.search.Step.{Step}
use Rattle.crontab_runs.specs.declared.search.Step.TheVariants.{Found, Over, GoOn}
use Rattle.crontab_runs.specs.declared.stretch.Stretch.{Stretch}
use Rattle.crontab_runs.specs.Searches.{IsStartOf}
use Rattle.crontab_runs.specs.Starts.{CronJob, Starts}
use Rattle.crontab_runs.specs.Private.Known.{IsKnown}
use Rattle.crontab_runs.specs.Private.Parts.{IsIn, IsNearestStart}

-- a second from which a search comes to the stretch
abbrev pub ComesTo : Direction → Stretch → ℤ → Type 0
ComesTo Forward s from = from <ℤ s.end
ComesTo Backward s from = s.begin ≤ℤ from

-- of the stretch, what lies from the one second on lies from the other
abbrev pub SameFrom : Direction → Stretch → ℤ → ℤ → Type 0
SameFrom direction s from other = (i : ℤ) → s.begin ≤ℤ i → i <ℤ s.end → Reaches direction other i ↔ Reaches direction from i

-- what the clock shows at the last second of the stretch in the direction
abbrev pub far_wall : Direction → Stretch → ℤ
far_wall Forward s = s.end -ℤ pos 1 +ℤ s.offset
far_wall Backward s = s.begin +ℤ s.offset

-- an instant of the stretch, from a second on
abbrev pub InStretch : Direction → Stretch → ℤ → ℤ → Type 0
InStretch direction s from = IsIn direction s.begin s.end from

-- an instant of the stretch or beyond it in the direction, from a second on
abbrev pub FromStretch : Direction → Stretch → ℤ → ℤ → Type 0
FromStretch Forward s from i = (s.begin ≤ℤ i) × Reaches Forward from i
FromStretch Backward s from i = (i <ℤ s.end) × Reaches Backward from i

-- nothing is started in the stretch, and the searched years go on beyond it
pub record GoesOn (direction : Direction) (job : CronJob) (s : Stretch) (from : ℤ) : Type 0 where
  pub none : (i : ℤ) → InStretch direction s from i → ¬ (Starts job (table_zone s.table.now) i)
  pub within : IsWithin direction (far_wall direction s)

-- what a step comes to: the nearest start in the stretch; that none is left in the searched years; or to go on, with what is known
abbrev pub StepsTo : Direction → CronJob → Meaning → Stretch → ℤ → Step → Type 0
StepsTo direction job m s from (Found start) =
    IsNearestStart direction job (table_zone s.table.now) (InStretch direction s from) start.second × IsStartOf job (table_zone s.table.now) start
StepsTo direction job m s from Over = (i : ℤ) → FromStretch direction s from i → InSpan direction (table_zone s.table.now).reads i → ¬ (Starts job (table_zone s.table.now) i)
StepsTo direction job m s from (GoOn known) = GoesOn direction job s from × IsKnown m known × (known.direction ≡ direction)
