use Rattle.std.proofs.Common.{w64, FitsSigned}
use Rattle.std.proofs.lemmas.Int.{to_z-of_z}
use Rattle.croner.specs.Views.{job_of}
use Rattle.crontab_runs.specs.Private.Known.{Serves}
use Rattle.crontab_runs.proofs.KnownMinutes.{served}
use Rattle.crontab_runs.proofs.minutes.NearestMinute.nearest_from.Goals as goal

pub returns-then-serves : goal.returns-then-serves
returns-then-serves c =
    let from : FitsSigned w64 c.args.from = c.ranges.from in
    let serves : Serves c.args.self.now c.args.from = simp to_z-of_z at (c.serves.ensures c.if-serves.true) in
    served (job_of c.args.cron.now) c.args.self.now c.args.from c.requires serves

pub returns-else-serves : goal.returns-else-serves
returns-else-serves c =
    let from : FitsSigned w64 c.args.from = c.ranges.from in
    simp to_z-of_z at c.nearest_named.ensures
