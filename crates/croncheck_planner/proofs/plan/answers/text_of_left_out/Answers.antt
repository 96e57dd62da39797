use Rattle.std.proofs.Common.{◌≡◌, ◌∙◌, List, ap, string_bytes}
use Rattle.cronplan_forms.specs.declared.job.Job.{Job}
use Rattle.cronplan_forms.specs.Answers.{left_out_text}
use Rattle.croncheck_planner.specs.PlanAnswers.{IsLeftOut, jobs_told}
use Rattle.croncheck_planner.proofs.OtherClocks.{each_ok}
use Rattle.croncheck_planner.proofs.plan.answers.text_of_left_out.Goals as goal

pub returns : goal.returns
returns c =
    each_ok (λ text. string_bytes text ≡ left_out_text c.view_of-view.result) (λ text. IsLeftOut c.args.terms.now.settings.now c.args.jobs.now c.args.found.now (string_bytes text)) c.left_out_text.result
    (λ text is.
    (c.view_of-view.result, c.view_of-view.ensures.view c.args.jobs.now (ap (λ (jobs : List Job). jobs_told jobs) c.as_slice.ensures.value ∙ c.in_ok-told.ensures), is))
    c.left_out_text.ensures
