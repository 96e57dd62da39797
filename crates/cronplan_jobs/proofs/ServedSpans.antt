-- From a span on that is served no search is refused for its clock.
use Rattle.std.proofs.Common.{◌≡◌, ◌-ℤ◌, ℤ, pos, refl, sym, subst}
use Rattle.croner_base.specs.declared.time.table.TableTime.{TableTime}
use Rattle.croner_base.specs.Calm.{IsStart}
use Rattle.croner_base.specs.TableZone.{table_moment, table_zone}
use Rattle.croner_base.proofs.tables.TableCalm.{clock_calm, table_holds}
use Rattle.croner.specs.search.Premises.{IsSearchable}
use Rattle.cronplan.specs.declared.span.Span.{Span}
use Rattle.cronplan_jobs.specs.Listed.{IsServed}

pub served : (t : TableTime) (span : Span) → t.second ≡ span.first -ℤ pos 1 → IsServed (table_zone t.table.now) span → IsSearchable (table_moment t)
served t span at is =
    let here : IsStart ((table_zone t.table.now).reads t.second) = subst (λ (i : ℤ). IsStart ((table_zone t.table.now).reads i)) (sym at) is in
    record {
      starts = record { calm = clock_calm t.table.now.first_offset t.table.now.changes.items t.table.now.calm; whole = refl };
      held = table_holds t here.0 here.1;
    }
