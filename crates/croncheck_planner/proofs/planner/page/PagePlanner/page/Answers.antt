use Rattle.std.proofs.Common.{◌∙◌, ℕ, List, ap, map, refl}
use Rattle.std.specs.declared.alloc.Global.{Global}
use Rattle.std.specs.declared.vec.Vec.{Vec}
use Rattle.cronplan_forms.specs.declared.job.Job.{Job}
use Rattle.cronplan_page.specs.declared.about.Warnings.{Warnings}
use Rattle.cronplan_page.specs.declared.markup.Line.{Line}
use Rattle.croncheck_findings.specs.declared.findings.Finding.{Finding}
use Rattle.croncheck_output.specs.Escaped.{spaced}
use Rattle.croncheck_planner.specs.declared.planner.Planned.{Planned}
use Rattle.croncheck_planner.specs.PagePlans.{lines_told, warnings_of}
use Rattle.croncheck_planner.specs.PlanAnswers.{jobs_planned, jobs_told}
use Rattle.croncheck_planner.proofs.planner.page.PagePlanner.page.Goals as goal

pub returns : goal.returns
returns c = record {
  found = c.in_ok-found.found;
  view = c.view_beside-view.result;
  about = _;
  found_is = c.in_ok-found.ensures;
  is_view = c.view_beside-view.ensures.view c.args.self.now.planner.jobs.items
      (ap (λ (jobs : List Job). jobs_told jobs) c.as_slice-4.ensures.value ∙ c.in_ok-told.ensures ∙ ap (λ (jobs : List Planned). jobs_planned jobs) c.as_slice.ensures.value);
  zone_is = c.view_beside-view.ensures.zone;
  other_is = c.view_beside-view.ensures.other c.in_ok-table.ensures;
  title_is = c.as_str.ensures.value ∙ c.in_ok-title.ensures ∙ ap (λ (title : List ℕ). spaced title) c.as_bytes.ensures.value;
  ignored_are = refl;
  warnings_are = ap (λ (warnings : List Warnings). map (λ (w : Warnings). lines_told w.lines.now) warnings) c.as_slice-warnings.ensures.value ∙ c.in_ok-warned.ensures
      ∙ ap (λ (all : List (Vec Line Global)). map (λ (lines : Vec Line Global). lines_told lines.items) all) c.as_slice-3.ensures.value ∙ c.in_ok-lines.ensures
      ∙ ap (λ (found : List (Vec Finding Global)). warnings_of found) c.as_slice-2.ensures.value;
  is_page = c.in_ok-text.ensures;
}
