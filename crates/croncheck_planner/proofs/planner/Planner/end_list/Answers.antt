use Rattle.std.proofs.Common.{◌∙◌, ℕ, ℤ, List, Option, ap, subst}
use Rattle.croner_base.specs.TableZone.{table_zone}
use Rattle.cronplan_jobs.specs.declared.listing.Schedule.{Schedule}
use Rattle.croncheck_planner.specs.declared.planner.Planned.{Planned}
use Rattle.croncheck_output.specs.Output.{written_of}
use Rattle.croncheck_planner.specs.Plan.{IsListed}
use Rattle.croncheck_planner.specs.PlanList.{labels, whose_text, WritesList}
use Rattle.croncheck_report.specs.Settings.{start_of, window_end}
use Rattle.croncheck_output.proofs.OkResults.{if_ok}
use Rattle.croncheck_planner.proofs.planner.Planner.end_list.Goals as goal

pub returns : goal.returns
returns g c =
    let s = c.args.terms.now.settings.now in
    let shared = c.args.terms.now.shared.now in
    let found = c.in-Ok.found in
    let start = start_of s in
    let old = written_of g.W.Write.contents c.args.output.now in
    let new = written_of g.W.Write.contents c.write_list.new.output in
    if_ok c.write_list.result
    (λ writes. record {
      found = found;
      listed = subst (λ (jobs : List Schedule). IsListed (table_zone start.table.now) start.second (window_end s) s.listing jobs found) c.as_slice.ensures.value
          (subst (λ (last : Option ℤ). IsListed (table_zone start.table.now) start.second last s.listing c.as_slice.result.now found) c.last.ensures c.in-Ok.ensures);
      written = subst (λ (front : List ℕ). WritesList s shared front (labels c.args.self.now.jobs.items) found old new)
          (c.whose_text-whose.ensures ∙ ap whose_text c.as_slice-2.ensures.value)
          (subst (λ (jobs : List Planned). WritesList s shared c.whose_text-whose.result.now (labels jobs) found old new) c.as_slice-3.ensures.value writes);
    })
    c.write_list.ensures
