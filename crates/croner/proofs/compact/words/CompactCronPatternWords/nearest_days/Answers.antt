use Rattle.croner.proofs.compact.WordMarks.{shows_nearest}
use Rattle.croner.proofs.compact.words.CompactCronPatternWords.nearest_days.Goals as goal

pub returns : goal.returns
returns c = shows_nearest c.args.self.now.days c.args.self.now.nearest_days c.args.self.now.last_day
