-- What the clock shows at a moment of a plan.
use Rattle.std.proofs.Common.{◌≡◌, ℤ, Result}
use Rattle.std.specs.Prelude.{IfOk, string_bytes}
use Rattle.std.specs.declared.alloc.Global.{Global}
use Rattle.std.specs.declared.string.String.{String}
use Rattle.jiff.specs.ZoneView.{plain_zone}
use Rattle.croner_base.specs.declared.time.table.ClockTable.{ClockTable}
use Rattle.croner_base.specs.declared.time.table.TableTime.{TableTime}
use Rattle.croncheck_report.specs.declared.shared.Shared.{Shared}
use Rattle.croncheck_planner.specs.PlanList.{IsClockAt}
use Rattle.croncheck_shown.specs.Shown.{IsClockText}
use Rattle.croncheck_output.proofs.OkResults.{if_value}

-- at a time of its table
pub clock_at : {E : Type 0} (r : Result (String Global) E) (shared : Shared) (table : ClockTable) (second : ℤ) (time : TableTime) → time.second ≡ second → time.table.now ≡ table
    → IfOk r (λ text. IsClockText (plain_zone shared.zone) time (string_bytes text)) → IfOk r (λ text. IsClockAt shared table second (string_bytes text))
clock_at r shared table second time is at h = if_value r (λ text shown. λ inside. (time, is, at, shown)) h
