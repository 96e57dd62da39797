-- What a search promises from a whole second of a calm zone, taken from its answer.
use Rattle.std.proofs.Common.{◌≡◌, ℤ, Bool, Result, Ok, Err, IfOk, IfErr}
use Rattle.croner_base.specs.declared.errors.CronError.{CronError}
use Rattle.croner_base.specs.declared.errors.CronError.TheVariants.{TimeSearchLimitExceeded}
use Rattle.croner_base.specs.declared.time.Direction.{Direction}
use Rattle.croner_base.specs.declared.time.Direction.TheVariants.{Forward, Backward}
use Rattle.croner_base.specs.Zone.{Zone, Moment}
use Rattle.croner.specs.search.Limit.{NoneInSpan}
use Rattle.croner.specs.search.Premises.{IsSearchable, StartsCalm}
use Rattle.croner.specs.search.Refusal.{IsLimitOrMemory}
use Rattle.croner.specs.search.Runs.{Timetable, job_in, Nearest}
use Rattle.croner.specs.search.Searches.{IsFound, IsRefused}
use Rattle.croner_backends.specs.Narrow.{narrow}

module _ {T : Type 0} (moment : T → Moment) (direction : Direction) (inclusive : Bool) (timetable : Timetable) (start : Moment) where
  pub found_nearest : (r : Result T CronError) → IfOk r (λ t. IsFound direction inclusive timetable start (moment t)) → StartsCalm start → IfOk r (λ t. Nearest direction inclusive (job_in start.zone timetable) start.instant (moment t).instant)
  found_nearest (Ok t) found calm = found.nearest calm
  found_nearest (Err e) found calm = tt

  pub limit_means : (lack : Bool) (r : Result T CronError) → IfErr r (IsRefused lack direction inclusive timetable start) → StartsCalm start → IfErr r (λ e. e ≡ TimeSearchLimitExceeded → NoneInSpan direction inclusive (job_in start.zone timetable) start.instant)
  limit_means lack (Ok t) refused calm = tt
  limit_means lack (Err e) refused calm = refused.limit calm

  pub limit_or_memory : (lack : Bool) (r : Result T CronError) → IfErr r (IsRefused lack direction inclusive timetable start) → IsSearchable start → IfErr r (IsLimitOrMemory lack)
  limit_or_memory lack (Ok t) refused held = tt
  limit_or_memory lack (Err e) refused held = refused.promised held

-- ---- runs go by what the clock shows, and not by what is held

module _ (inclusive : Bool) (timetable : Timetable) (z : Zone) (low high s : ℤ) where
  nearest_same : (direction : Direction) (t : ℤ) → Nearest direction inclusive (job_in (narrow z low high) timetable) s t → Nearest direction inclusive (job_in z timetable) s t
  nearest_same Forward t n = record { counts = n.counts; nearest = n.nearest }
  nearest_same Backward t n = record { counts = n.counts; nearest = n.nearest }

  none_same : (direction : Direction) → NoneInSpan direction inclusive (job_in (narrow z low high) timetable) s → NoneInSpan direction inclusive (job_in z timetable) s
  none_same Forward none = none
  none_same Backward none = none

  pub nearest_shown : {T : Type 0} (moment : T → Moment) (direction : Direction) (r : Result T CronError) → IfOk r (λ t. Nearest direction inclusive (job_in (narrow z low high) timetable) s (moment t).instant) → IfOk r (λ t. Nearest direction inclusive (job_in z timetable) s (moment t).instant)
  nearest_shown moment direction (Ok t) found = nearest_same direction (moment t).instant found
  nearest_shown moment direction (Err e) found = tt

  pub limit_shown : {T : Type 0} (direction : Direction) (r : Result T CronError) → IfErr r (λ e. e ≡ TimeSearchLimitExceeded → NoneInSpan direction inclusive (job_in (narrow z low high) timetable) s) → IfErr r (λ e. e ≡ TimeSearchLimitExceeded → NoneInSpan direction inclusive (job_in z timetable) s)
  limit_shown direction (Ok t) means = tt
  limit_shown direction (Err e) means = λ is. none_same direction (means is)
