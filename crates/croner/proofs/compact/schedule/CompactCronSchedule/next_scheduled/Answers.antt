use Rattle.croner.specs.compact.Compact.{compact_meaning}
use Rattle.croner.proofs.zone.WallSeconds.{search_answer}
use Rattle.croner.proofs.compact.schedule.CompactCronSchedule.next_scheduled.Goals as goal

pub returns : goal.returns
returns c =
    search_answer (compact_meaning c.args.self.now) c.args.direction c.args.from c.next_scheduled.result c.requires c.next_scheduled.ensures.reached c.next_scheduled.ensures.nearest
