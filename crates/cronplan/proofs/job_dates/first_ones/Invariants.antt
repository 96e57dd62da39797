use Rattle.std.proofs.Common.{◌≡◌, take}
use Rattle.cronplan.specs.JobDates.{first_ones}
use Rattle.cronplan.specs.Private.Once.{is_like, AreSeen}
use Rattle.cronplan.proofs.job_dates.first_ones.Given as goal

abbrev pub invariant-loop-start : goal.invariant-loop-start
invariant-loop-start l = record {
  found : l.found.items ≡ first_ones (is_like l.per) (take l.start-index l.starts);
  seen : AreSeen l.per l.seen l.found.items;
}
