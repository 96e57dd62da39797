use Rattle.std.proofs.Common.{refl}
use Rattle.croner_base.proofs.calendar.DayNumbers.{day_number-epoch, day_number-day, day_number-next_month, day_number-next_year}
use Rattle.croner_base.proofs.laws.calendar.day_numbers_count_dates.Goals as goal

pub returns-clause-epoch : goal.returns-clause-epoch
returns-clause-epoch c = day_number-epoch

pub returns-clause-next_day : goal.returns-clause-next_day
returns-clause-next_day c = λ year month day. day_number-day year month day 1

pub returns-clause-next_month : goal.returns-clause-next_month
returns-clause-next_month c = λ year month h. day_number-next_month year month _ h refl

pub returns-clause-next_year : goal.returns-clause-next_year
returns-clause-next_year c = λ year. day_number-next_year year
