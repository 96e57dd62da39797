use Rattle.croner_base.specs.Zone.{nanos_of}
use Rattle.croner.proofs.crontable.DueOrder.{apart}
use Rattle.croner.proofs.crontable.kept.Kept.is_tied.Goals as goal

pub returns-in-Some-clause-apart : goal.returns-in-Some-clause-apart
returns-in-Some-clause-apart g c = λ level some.
    let moment = g.T.CronDateTime.moment in
    record {
      due = c.in-Some.due.now;
      first = c.in-Some.ensures.lookup;
      above = c.in-Some.ensures.greatest c.args.self.now.ordered;
      other = apart (nanos_of (moment c.in-Some.due.now.run)) (nanos_of (moment c.args.run.now)) c.cmp_instant.result c.is_eq.result c.cmp_instant.ensures c.is_eq.ensures level;
    }
