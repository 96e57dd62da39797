use Rattle.std.proofs.Common.{rules}
use Rattle.cronplan.proofs.FoundOnce.{count_more}
use Rattle.cronplan.proofs.job_dates.count_start.Goals as goal

pub returns-in_ok-insert : goal.returns-in_ok-insert
returns-in_ok-insert c =
    count_more c.args.dates c.args.start.now c.unwrap_or-had.result c.args.counts.now c.insert.new.self (search rules) (search rules) c.in_ok-insert.ensures.updates.0
