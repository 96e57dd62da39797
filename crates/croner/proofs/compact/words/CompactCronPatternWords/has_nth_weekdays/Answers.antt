use Rattle.croner.proofs.compact.WeekMarks.{none_nth, zero_of}
use Rattle.croner.proofs.compact.words.CompactCronPatternWords.has_nth_weekdays.Goals as goal

pub returns : goal.returns
returns c last weekday low =
    none_nth c.args.self.now.weekdays weekday low c.if-self-ne0.false c.if-self-ne0-2.false c.if-self-ne0-3.false c.if-self-ne0-4.false (zero_of _ last)
