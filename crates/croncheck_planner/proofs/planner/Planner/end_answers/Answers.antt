use Rattle.std.proofs.Common.{List, subst}
use Rattle.cronplan_jobs.specs.declared.listing.Schedule.{Schedule}
use Rattle.croncheck_planner.specs.declared.planner.Planned.{Planned}
use Rattle.croncheck_output.specs.Output.{written_of}
use Rattle.croncheck_planner.specs.PlanAnswers.{WritesAnswers}
use Rattle.croncheck_output.proofs.OkResults.{if_ok}
use Rattle.croncheck_planner.proofs.planner.Planner.end_answers.Goals as goal

pub returns : goal.returns
returns g c =
    let s = c.args.terms.now.settings.now in
    let shared = c.args.terms.now.shared.now in
    let asked = c.args.self.now.asked in
    let names = c.args.self.now.names in
    let found = c.in-Ok.found in
    let old = written_of g.W.Write.contents c.args.output.now in
    let new = written_of g.W.Write.contents c.write_answers.new.output in
    if_ok c.write_answers.result
    (λ writes. record {
      found = found;
      found_is = c.in-Ok.ensures;
      written = subst (λ (schedules : List Schedule). WritesAnswers s shared names schedules c.args.self.now.jobs.items found asked.questions old new) c.as_slice.ensures.value
          (subst (λ (jobs : List Planned). WritesAnswers s shared names c.as_slice.result.now jobs found asked.questions old new) c.as_slice-2.ensures.value writes);
    })
    c.write_answers.ensures
