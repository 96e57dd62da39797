use Rattle.std.proofs.Common.{◌∙◌, ℕ, List, map, string_bytes, ap}
use Rattle.cronplan_forms.specs.declared.job.Job.{Job}
use Rattle.croncheck_planner.specs.declared.planner.Planned.{Planned}
use Rattle.croncheck_planner.specs.PlanAnswers.{jobs_planned, jobs_told}
use Rattle.croncheck_planner.specs.Planner.{is_numbered}
use Rattle.croncheck_planner.proofs.planner.Planner.json.Goals as goal

pub returns : goal.returns
unfolding lib.Utf8.encode
returns c = record {
  found = c.in_ok-found.found;
  view = c.view_beside-view.result;
  object = string_bytes c.in_ok-text.text;
  found_is = c.in_ok-found.ensures;
  is_view = c.view_beside-view.ensures.view c.args.self.now.jobs.items
      (ap (λ (jobs : List Job). jobs_told jobs) c.as_slice.ensures.value ∙ c.in_ok-told.ensures.told ∙ ap (λ (jobs : List Planned). jobs_planned jobs) c.as_slice-jobs.ensures.value);
  are_marked = ap (λ (jobs : List Job). map (λ (j : Job). j.is_ignored) jobs) (c.view_beside-view.ensures.jobs ∙ c.as_slice.ensures.value) ∙ c.in_ok-told.ensures.marked
      ∙ ap (λ (ignored : List ℕ). map (λ (job : Planned). is_numbered ignored job.number) c.as_slice-jobs.result.now) c.as_slice-ignored.ensures.value
      ∙ ap (λ (jobs : List Planned). map (λ (job : Planned). is_numbered c.args.self.now.ignored.items job.number) jobs) c.as_slice-jobs.ensures.value;
  zone_is = c.view_beside-view.ensures.zone;
  other_is = c.view_beside-view.ensures.other c.in_ok-table.ensures;
  is_json = c.in_ok-text.ensures;
  text_is = c.in_ok-push.ensures.bytes;
}
