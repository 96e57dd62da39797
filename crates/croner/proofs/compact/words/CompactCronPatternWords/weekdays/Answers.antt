use Rattle.std.proofs.Common.{ap, slice_index, ◌∙◌}
use Rattle.croner_pattern.specs.Words.{has_bit}
use Rattle.croner_pattern.proofs.days.DayBits.{has-cut}
use Rattle.croner.proofs.compact.WeekMarks.{shows_week}
use Rattle.croner.proofs.compact.words.CompactCronPatternWords.weekdays.Goals as goal

pub returns-clause-shows : goal.returns-clause-shows
returns-clause-shows c weekday low =
    let rows = c.args.self.now.weekdays in
    has-cut c.from-2.result 7 weekday low
    ∙ ap (λ n. has_bit n weekday) c.from-2.ensures
    ∙ ap (λ k. has_bit (slice_index rows k) weekday) c.from.ensures
    ∙ shows_week rows c.args.modifier weekday c.requires low
