use Rattle.croner_pattern.specs.Meaning.{meaning_of}
use Rattle.croner.proofs.zone.WallSeconds.{search_answer}
use Rattle.croner.proofs.search.pattern.CronPatternSchedule.next_scheduled.Goals as goal

pub returns : goal.returns
returns c =
    search_answer (meaning_of c.args.self.now) c.args.direction c.args.from c.next_scheduled.result c.requires c.next_scheduled.ensures.reached c.next_scheduled.ensures.nearest
