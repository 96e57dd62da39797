use Rattle.std.proofs.Common.{◌∙◌, ℕ, List, length, map, nat_lt, ap, refl}
use Rattle.cronplan.specs.declared.start.JobStart.{JobStart}
use Rattle.cronplan_forms.specs.declared.job.Job.{Job}
use Rattle.croncheck_output.specs.Escaped.{spaced}
use Rattle.croncheck_planner.specs.declared.planner.Planned.{Planned}
use Rattle.croncheck_planner.specs.PlanAnswers.{jobs_planned, jobs_told}
use Rattle.croncheck_planner.specs.Planner.{is_numbered}
use Rattle.croncheck_planner.proofs.planner.Planner.calendar.Goals as goal

pub returns : goal.returns
returns c =
    let text = c.in_ok-text.ensures in record {
      found = c.in_ok-found.found;
      naming = _;
      view = c.view_of-view.result;
      calendar = text.0;
      events = text.1;
      found_is = c.in_ok-found.ensures;
      is_view = c.view_of-view.ensures.view c.args.self.now.jobs.items
          (ap (λ (jobs : List Job). jobs_told jobs) c.as_slice.ensures.value ∙ c.in_ok-told.ensures.told ∙ ap (λ (jobs : List Planned). jobs_planned jobs) c.as_slice-jobs.ensures.value);
      are_marked = ap (λ (jobs : List Job). map (λ (j : Job). j.is_ignored) jobs) (c.view_of-view.ensures.jobs ∙ c.as_slice.ensures.value) ∙ c.in_ok-told.ensures.marked
          ∙ ap (λ (ignored : List ℕ). map (λ (job : Planned). is_numbered ignored job.number) c.as_slice-jobs.result.now) c.as_slice-ignored.ensures.value
          ∙ ap (λ (jobs : List Planned). map (λ (job : Planned). is_numbered c.args.self.now.ignored.items job.number) jobs) c.as_slice-jobs.ensures.value;
      naming_is = record {
        name_is = c.as_str-2.ensures.value ∙ c.in_ok-name.ensures ∙ ap (λ (name : List ℕ). spaced name) c.as_bytes.ensures.value;
        stamp_is = refl;
        lasts_is = refl;
      };
      is_calendar = text.2;
      text_is = text.3;
      cut = ap (λ (starts : List JobStart). nat_lt 2_000 (length starts)) c.as_slice-starts.ensures.value;
    }
