use Rattle.std.proofs.Common.{ℕ, List, string_bytes, subst}
use Rattle.croncheck_output.specs.Output.{written_of}
use Rattle.croncheck_planner.specs.PlanAnswers.{WritesOnClock}
use Rattle.croncheck_output.proofs.OkResults.{if_ok}
use Rattle.croncheck_planner.proofs.plan.answers.write_answers_on.Goals as goal

pub returns : goal.returns
returns g c =
    let old = written_of g.W.Write.contents c.args.output.now in
    let new = written_of g.W.Write.contents c.write_on_clock.new.output in
    if_ok c.write_on_clock.result
    (λ writes. record {
      text = string_bytes c.in_ok-text.text;
      answers = c.in_ok-text.ensures;
      written = subst (λ (text : List ℕ). WritesOnClock c.args.name.now text old new) c.as_str.ensures.value writes;
    })
    c.write_on_clock.ensures
