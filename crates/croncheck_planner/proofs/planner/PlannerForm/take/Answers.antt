use Rattle.std.proofs.Common.{◌∙◌, ℕ, ap, option_map, refl}
use Rattle.std.specs.declared.alloc.Global.{Global}
use Rattle.std.specs.declared.vec.Vec.{Vec}
use Rattle.croncheck_reading.specs.Sink.{state_of}
use Rattle.croncheck_reading.specs.Stand.{line_taken, stand_of}
use Rattle.croncheck_planner.specs.declared.plan.title.Heading.{Heading}
use Rattle.croncheck_planner.specs.Planner.{ignored_after}
use Rattle.croncheck_planner.specs.Titles.{heading_seen}
use Rattle.croncheck_planner.proofs.ToldLines.{takes_line}
use Rattle.croncheck_planner.proofs.planner.PlannerForm.take.Goals as goal

pub returns : goal.returns
returns g c =
    let s = c.args.terms.now.settings.now in
    let contents = g.W.Write.contents in
    takes_line s (state_of contents c.args.self.now c.args.progress.now c.args.output.now) (line_taken c.args.line) c.args.line.entry c.in_ok-outcome.outcome
    (stand_of c.next_line.new.self) (option_map heading_seen c.in_ok-heading.heading) c.begin_file.new.self c.plan_line.new.self (state_of contents c.judge_file.new.self c.plan_line.new.progress c.plan_line.new.output)
    refl c.in_ok-outcome.ensures
    (record {
      begun_above = c.begin_file.ensures.above;
      begun_schedules = c.begin_file.ensures.schedules;
      begun_jobs = c.begin_file.ensures.jobs;
      begun_ignored = c.begin_file.ensures.ignored;
      begun_asked = c.begin_file.ensures.asked;
      begun_names = c.begin_file.ensures.names;
      here_is = c.next_line.ensures;
      title_is = c.in_ok-heading.ensures;
      taken_above = c.in_ok-plan_line.ensures.above;
      taken_ignored = c.in_ok-plan_line.ensures.ignored;
      taken_asked = c.in_ok-plan_line.ensures.asked;
      taken_names = c.in_ok-plan_line.ensures.names;
      new_above = ap (λ (above : Heading). heading_seen above) c.in_ok-judge_file.ensures.above ∙ c.take_heading.ensures.above;
      new_schedules = c.in_ok-judge_file.ensures.schedules ∙ c.take_heading.ensures.schedules;
      new_jobs = c.in_ok-judge_file.ensures.jobs ∙ c.take_heading.ensures.jobs;
      new_ignored = c.in_ok-judge_file.ensures.ignored ∙ ap (λ (ignored : Vec ℕ Global). ignored_after s.dialect (stand_of c.plan_line.new.progress) ignored.items) c.take_heading.ensures.ignored;
      new_asked = c.in_ok-judge_file.ensures.asked ∙ c.take_heading.ensures.asked;
      new_names = c.in_ok-judge_file.ensures.names ∙ c.take_heading.ensures.names;
    })
    (c.in_ok-plan_line.ensures.plans c.in_ok-outcome.ensures)
