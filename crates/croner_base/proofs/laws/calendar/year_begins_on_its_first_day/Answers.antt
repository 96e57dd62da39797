use Rattle.croner_base.proofs.calendar.Chronology.{year_reached}
use Rattle.croner_base.proofs.laws.calendar.year_begins_on_its_first_day.Goals as goal

pub returns : goal.returns
returns c = λ year. year_reached c.args.civil year
