use Rattle.croner.proofs.compact.years.Years.nearest.Goals as goal

pub returns-in-Run : goal.returns-in-Run
returns-in-Run c = rw c.in-Run.is c.nearest.ensures
