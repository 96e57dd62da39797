use Rattle.std.proofs.Common.{true, not}
use Rattle.croner_pattern.specs.Shapes.{sixty_shape, hour_shape, month_shape}
use Rattle.croner.proofs.compact.WordMarks.{shows_plain}
use Rattle.croner.proofs.compact.words.CompactCronPatternWords.plain.Goals as goal

pub returns-in-Second : goal.returns-in-Second
returns-in-Second c = rw c.in-Second.is (shows_plain sixty_shape (not c.args.self.now.is_fixed_time) c.args.self.now.seconds)

pub returns-in-Minute : goal.returns-in-Minute
returns-in-Minute c = rw c.in-Minute.is (shows_plain sixty_shape (not c.args.self.now.is_fixed_time) c.args.self.now.minutes)

pub returns-in-Hour : goal.returns-in-Hour
returns-in-Hour c = rw (c.in-Hour.is, c.from.ensures) (shows_plain hour_shape (not c.args.self.now.is_fixed_time) c.args.self.now.hours)

pub returns-in-Month : goal.returns-in-Month
returns-in-Month c = rw (c.in-Month.is, c.from-in-Month.ensures) (shows_plain month_shape true c.args.self.now.months)
