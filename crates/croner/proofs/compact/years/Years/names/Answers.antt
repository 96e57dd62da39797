use Rattle.std.proofs.Common.{◌∙◌}
use Rattle.croner.proofs.compact.RunYears.{run_names}
use Rattle.croner.proofs.compact.years.Years.names.Goals as goal

pub returns-in-Run : goal.returns-in-Run
returns-in-Run c = rw c.in-Run.is (c.names.ensures ∙ run_names _ _ c.args.year c.requires)
