use Rattle.std.proofs.Common.{◌-◌}
use Rattle.croner_scheduler.proofs.Skips.{SkipsUpTo, TellsUpTo}
use Rattle.croner_scheduler.specs.Views.{held_of, KeepsRoom}
use Rattle.croner_scheduler.proofs.scheduler.Scheduler.skip_all_to.Given as goal

abbrev pub invariant-loop-id : goal.invariant-loop-id
invariant-loop-id g l =
    SkipsUpTo l.fn.now (held_of g.T.CronDateTime.moment l.fn.self) l.from (held_of g.T.CronDateTime.moment l.self)
    × TellsUpTo l.fn.now (held_of g.T.CronDateTime.moment l.fn.self) l.from (held_of g.T.CronDateTime.moment l.self) l.has_stopped
    × KeepsRoom l.fn.self l.self

abbrev pub decreases-loop-id : goal.decreases-loop-id
decreases-loop-id g l = l.self.jobs.next_id - l.from
