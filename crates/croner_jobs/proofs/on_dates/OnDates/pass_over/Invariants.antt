use Rattle.std.proofs.Common.{pos, ◌-ℤ◌, ◌^◌, unsigned_abs}
use Rattle.croner.proofs.zone.Ahead.{along}
use Rattle.croner_jobs.proofs.Passing.{Passes}
use Rattle.croner_jobs.proofs.on_dates.OnDates.pass_over.Given as goal

abbrev pub invariant-passed : goal.invariant-passed
invariant-passed g l =
    Passes l.direction (g.J.Recurring.runs l.self.job) l.self.dates (g.T.CronDateTime.moment l.start).zone (g.T.CronDateTime.moment l.initial.run).instant
    (g.T.CronDateTime.moment l.run)

abbrev pub decreases-passed : goal.decreases-passed
decreases-passed g l = unsigned_abs (pos (2 ^ 63) -ℤ along l.direction (g.T.CronDateTime.moment l.run).instant)
