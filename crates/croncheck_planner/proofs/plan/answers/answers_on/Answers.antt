use Rattle.std.proofs.Common.{◌∙◌, List, ap, string_bytes}
use Rattle.cronplan_forms.specs.declared.job.Job.{Job}
use Rattle.cronplan_forms.specs.Questions.{IsAnswers}
use Rattle.croncheck_planner.specs.PlanAnswers.{AreAnswersOn, jobs_told}
use Rattle.croncheck_planner.proofs.OtherClocks.{each_ok}
use Rattle.croncheck_planner.proofs.plan.answers.answers_on.Goals as goal

pub returns : goal.returns
returns c =
    each_ok (λ text. IsAnswers c.other_view-view.result c.args.questions (string_bytes text)) (λ text. AreAnswersOn c.args.table.now c.args.name.now c.args.jobs.now c.args.found.now c.args.questions (string_bytes text)) c.answers_text.result
    (λ text answers. record {
      told = c.as_slice.result.now;
      shown = c.in_ok-shown.shown;
      view = c.other_view-view.result;
      told_is = ap (λ (jobs : List Job). jobs_told jobs) c.as_slice.ensures.value ∙ c.in_ok-told.ensures;
      on_clock = c.in_ok-shown.ensures;
      is_view = c.other_view-view.ensures.view;
      answers = answers;
    })
    c.answers_text.ensures
