use Rattle.croner_base.proofs.calendar.Chronology.{searched_years, needed_years, start_years}
use Rattle.croner_base.proofs.laws.calendar.years_of_the_limits.Goals as goal

pub returns-clause-searched : goal.returns-clause-searched
returns-clause-searched c = searched_years c.args.civil

pub returns-clause-needed : goal.returns-clause-needed
returns-clause-needed c = needed_years c.args.civil

pub returns-clause-start : goal.returns-clause-start
returns-clause-start c = start_years c.args.civil
