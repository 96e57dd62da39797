use Rattle.croner_base.proofs.calendar.Chronology.{weekday_of_day-epoch, weekday_of_day-next}
use Rattle.croner_base.proofs.laws.calendar.weekdays_follow_days.Goals as goal

pub returns-clause-epoch : goal.returns-clause-epoch
returns-clause-epoch c = weekday_of_day-epoch

pub returns-clause-next_day : goal.returns-clause-next_day
returns-clause-next_day c = λ day. weekday_of_day-next day
