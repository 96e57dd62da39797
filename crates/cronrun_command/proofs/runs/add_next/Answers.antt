use Rattle.std.proofs.Common.{inr}
use Rattle.std.proofs.lemmas.Result.{on_ok_weaker, IfErr-weaker}
use Rattle.croner.specs.iterator.Listing.{standing_of}
use Rattle.cronrun_command.specs.Line.{line_text}
use Rattle.cronrun_command.proofs.runs.add_next.Goals as goal

pub returns-in-Some-clause-adds : goal.returns-in-Some-clause-adds
returns-in-Some-clause-adds g c =
    let line = c.of.result in
    on_ok_weaker c.add_line.result (λ added. record {
      run = g.T.CronDateTime.moment c.in-Some.run';
      gives = c.in-Some.ensures.steps;
      text = line_text line.civil line.second;
      line = (line.civil, c.of.ensures.civil, cc);
      added = added;
    }) c.add_line.ensures.adds

pub returns-in-Some-clause-ends : goal.returns-in-Some-clause-ends
returns-in-Some-clause-ends g c =
    IfErr-weaker c.add_line.result _ _ (λ e is. inr (record {
      run = g.T.CronDateTime.moment c.in-Some.run';
      new = standing_of g.T.CronDateTime.moment c.next.new.self;
      gives = c.in-Some.ensures.steps;
      reason = is;
    })) c.add_line.ensures.err
