use Rattle.croner.proofs.compact.RunYears.{same_run}
use Rattle.croner.proofs.compact.years.Years.of.Goals as goal

pub returns-in-Some-clause-ok : goal.returns-in-Some-clause-ok
returns-in-Some-clause-ok c =
    let run = c.in-Some.run' in
    same_run c.args.field.now run.first run.last c.requires run.from run.to c.in-Some.ensures
