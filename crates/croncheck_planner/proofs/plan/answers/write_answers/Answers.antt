use Rattle.std.proofs.Common.{◌∙◌, ℕ, List, Bool, length, ap, subst}
use Rattle.std.specs.Prelude.{◌==◌}
use Rattle.cronplan.specs.declared.start.JobStart.{JobStart}
use Rattle.croncheck_output.specs.Output.{written_of, WritesApart}
use Rattle.croncheck_planner.specs.PlanAnswers.{WritesOwnAnswers, WritesOtherAnswers}
use Rattle.croncheck_planner.specs.PlanList.{head_text, whose_text}
use Rattle.croncheck_output.proofs.OkResults.{if_ok}
use Rattle.croncheck_planner.proofs.plan.answers.write_answers.Goals as goal

pub returns : goal.returns
returns g c =
    let s = c.args.terms.now.settings.now in
    let shared = c.args.terms.now.shared.now in
    let schedules = c.args.schedules.now in
    let jobs = c.args.jobs.now in
    let found = c.args.found.now in
    let asked = c.args.questions in
    let old = written_of g.W.Write.contents c.args.output.now in
    let begun = written_of g.W.Write.contents c.write_apart.new.self in
    let told = written_of g.W.Write.contents c.write_left_out.new.output in
    let answered = written_of g.W.Write.contents c.write_own_answers.new.output in
    let new = written_of g.W.Write.contents c.write_other_answers.new.output in
    if_ok c.write_other_answers.result
    (λ other. record {
      begun = begun;
      told = told;
      answered = answered;
      head = subst (λ (head : List ℕ). WritesApart head old begun)
          (c.head_text.ensures ∙ ap (λ (whose : List ℕ). head_text whose c.is_empty.result) c.whose_text.ensures
          ∙ ap (λ (empty : Bool). head_text (whose_text schedules) empty) (c.is_empty.ensures ∙ ap (λ (starts : List JobStart). length starts == 0) c.as_slice-starts.ensures.value)) c.in_ok-write_apart.ensures.written;
      left_out = c.in_ok-write_left_out.ensures;
      own = subst (λ (name : List ℕ). WritesOwnAnswers s name schedules jobs found asked told answered) c.as_str-zone.ensures.value c.in_ok-write_own_answers.ensures;
      other = subst (λ (name : List ℕ). WritesOtherAnswers shared name jobs found asked answered new) c.as_str.ensures.value other;
    })
    c.write_other_answers.ensures
