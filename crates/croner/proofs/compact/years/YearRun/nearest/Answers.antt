use Rattle.croner.proofs.compact.RunYears.{run_forward, run_backward}
use Rattle.croner.proofs.compact.years.YearRun.nearest.Goals as goal

pub returns-in-Forward : goal.returns-in-Forward
returns-in-Forward c =
    rw (c.in-Forward.is, c.in_run.ensures, c.max.ensures) (run_forward c.args.self.first c.args.self.last c.args.year c.args.self.from c.args.self.to)

pub returns-in-Backward : goal.returns-in-Backward
returns-in-Backward c =
    rw (c.in-Backward.is, c.in_run-in-Backward.ensures, c.min.ensures) (run_backward c.args.self.first c.args.self.last c.args.year c.args.self.from c.args.self.to)
