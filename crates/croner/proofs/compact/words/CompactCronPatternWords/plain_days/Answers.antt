use Rattle.croner.proofs.compact.WordMarks.{shows_days}
use Rattle.croner.proofs.compact.words.CompactCronPatternWords.plain_days.Goals as goal

pub returns : goal.returns
returns c = shows_days c.args.self.now.days c.args.self.now.nearest_days c.args.self.now.last_day
