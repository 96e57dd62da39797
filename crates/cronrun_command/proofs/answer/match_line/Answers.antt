use Rattle.std.proofs.lemmas.Result.{IfOk-weaker}
use Rattle.cronrun_command.proofs.answer.match_line.Goals as goal

pub returns-clause-value : goal.returns-clause-value
returns-clause-value c =
    let value = c.in_ok-matching.ensures.value in
    let opened = c.in_ok-matching.ensures.opened in
    IfOk-weaker c.boolean_line.result _ _ (λ line is. record {
      meaning = value.0;
      start = opened.1;
      opens = (value.1, opened.2.1);
      held = c.in_ok-matching.matching;
      scheduled = value.2;
      line = is;
    }) c.boolean_line.ensures.value
