use Rattle.std.proofs.Common.{ℤ, List, Option, subst}
use Rattle.croner_base.specs.TableZone.{table_zone}
use Rattle.cronplan_jobs.specs.declared.listing.Schedule.{Schedule}
use Rattle.croncheck_report.specs.Settings.{start_of, window_end}
use Rattle.croncheck_planner.specs.Plan.{IsFound, answered_until}
use Rattle.croncheck_output.proofs.OkResults.{if_value}
use Rattle.croncheck_planner.proofs.planner.Planner.found_starts.Goals as goal

pub returns : goal.returns
returns c =
    let s = c.args.terms.now.settings.now in
    let asked = c.args.self.now.asked in
    let start = start_of s in
    if_value c.answered_plan.result
    (λ found is. subst (λ (jobs : List Schedule). IsFound (table_zone start.table.now) start.second (answered_until start.second (window_end s) s.listing) asked.most_a_day jobs found)
    c.as_slice.ensures.value
    (subst (λ (last : Option ℤ). IsFound (table_zone start.table.now) start.second (answered_until start.second last s.listing) asked.most_a_day c.as_slice.result.now found)
    c.last.ensures is))
    c.answered_plan.ensures
