use Rattle.std.proofs.Common.{◌∙◌, ℕ, List, Option, ap, subst, sym, refl}
use Rattle.std.specs.Prelude.{option_map, unwrap_or}
use Rattle.std.specs.declared.alloc.Global.{Global}
use Rattle.std.specs.declared.vec.Vec.{Vec}
use Rattle.cronplan_jobs.specs.declared.listing.Schedule.{Schedule}
use Rattle.croncheck_findings.specs.declared.findings.Finding.{Finding}
use Rattle.croncheck_output.proofs.OkResults.{if_ok}
use Rattle.croncheck_planner.specs.declared.planner.Planned.{Planned}
use Rattle.croncheck_planner.specs.declared.planner.Planner.{Planner}
use Rattle.croncheck_planner.specs.Planner.{jobs_seen}
use Rattle.croncheck_planner.proofs.PageLines.{kept_same, tells_same}
use Rattle.croncheck_reading.specs.Progress.{Reports}
use Rattle.croncheck_reading.specs.Stand.{line_taken, stand_of}
use Rattle.croncheck_report.specs.declared.settings.Settings.{Settings}
use Rattle.croncheck_planner.specs.declared.plan.title.Heading.{Heading}
use Rattle.croncheck_planner.specs.Titles.{HeadingSeen, heading, heading_seen}
use Rattle.croncheck_planner.proofs.planner.page.PagePlannerForm.take.Goals as goal

pub returns : goal.returns
returns g c =
    let s = c.args.terms.now.settings.now in
    let y = line_taken c.args.line in
    let lines : ℕ = c.args.progress.now.lines in
    let before = c.args.self.now.planner in
    let begun = c.begin_file.new.self in
    let kept = c.take_job.new.self in
    let titled = c.take_heading.new.self in
    let after = c.tell.new.self in
    if_ok c.tell.result
    (λ told. record {
      entry = c.args.line.entry;
      outcome = c.in_ok-outcome.outcome;
      is_planned = c.in_ok-is_planned.is_planned;
      report = c.in_ok-report.report;
      found = c.in_ok-found.found;
      entry_is = refl;
      read = c.in_ok-outcome.ensures;
      kept = kept_same s _ _ _ _ _ _ _ _ _ y.is _ _ (jobs_seen begun.schedules begun.jobs) _ (jobs_seen kept.planner.schedules kept.planner.jobs) _
          c.begin_file.ensures.asked (ap (λ (above : HeadingSeen). above.title) c.begin_file.ensures.above) c.name.ensures c.one_more.ensures
          (ap (λ (schedules : Vec Schedule Global). jobs_seen schedules begun.jobs) c.begin_file.ensures.schedules ∙ ap (λ (jobs : Vec Planned Global). jobs_seen before.schedules jobs) c.begin_file.ensures.jobs)
          (sym (ap (λ (p : Planner). jobs_seen p.schedules p.jobs) c.tell.ensures.planner
          ∙ ap (λ (schedules : Vec Schedule Global). jobs_seen schedules titled.jobs) c.take_heading.ensures.schedules ∙ ap (λ (jobs : Vec Planned Global). jobs_seen kept.planner.schedules jobs) c.take_heading.ensures.jobs))
          c.in_ok-is_planned.ensures.kept;
      reported = subst (λ (b : Settings). Reports b (stand_of c.args.progress.now) y c.in_ok-report.report (stand_of c.report.new.self)) (c.new-brief.ensures.settings ∙ c.brief_of-settings.ensures) c.in_ok-report.ensures;
      found_is = c.in_ok-found.ensures;
      told = tells_same _ _ _ _ _ _ _ _ _ _ _ _ c.place.ensures.file c.place.ensures.line (ap (λ (found : Vec (Vec Finding Global) Global). found.items) c.in_ok-is_planned.ensures.found) told;
      above = ap (λ (p : Planner). heading_seen p.above) c.tell.ensures.planner ∙ c.take_heading.ensures.above
          ∙ ap (λ (above : Heading). unwrap_or (option_map heading_seen c.in_ok-heading.heading) (heading_seen above)) c.in_ok-is_planned.ensures.above
          ∙ c.in_ok-heading.ensures ∙ ap (λ (above : HeadingSeen). heading above y.is y.bytes) c.begin_file.ensures.above;
      asked = ap (λ (p : Planner). p.asked) c.tell.ensures.planner ∙ c.take_heading.ensures.asked ∙ c.in_ok-is_planned.ensures.asked ∙ c.begin_file.ensures.asked;
      names = ap (λ (p : Planner). p.names) c.tell.ensures.planner ∙ c.take_heading.ensures.names ∙ c.in_ok-is_planned.ensures.names ∙ c.begin_file.ensures.names;
    })
    c.tell.ensures.told
