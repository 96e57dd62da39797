use Rattle.croner_pattern.specs.Meaning.{meaning_of}
use Rattle.croner_summary.proofs.Scheduled.{says_exactly}
use Rattle.croner_summary.proofs.Shortness.{short_of}
use Rattle.croner_summary.proofs.summary.Summary.of_pattern.Goals as goal

pub returns-clause-ok : goal.returns-clause-ok
returns-clause-ok c =
    says_exactly (meaning_of c.args.pattern.now)
    (record { seconds = c.in_ok-seconds.seconds; minutes = c.in_ok-minutes.minutes; hours = c.in_ok-hours.hours; days = c.in_ok-days.days; months = c.in_ok-months.months; years = c.in_ok-years.years })
    (record {
      seconds = c.in_ok-seconds.ensures.ok;
      minutes = c.in_ok-minutes.ensures.ok;
      hours = c.in_ok-hours.ensures.ok;
      days = c.in_ok-days.ensures.ok;
      months = c.in_ok-months.ensures.ok;
      years = c.in_ok-years.ensures.ok;
    })

pub returns-clause-short : goal.returns-clause-short
returns-clause-short c = record {
  seconds = short_of 0 59 (meaning_of c.args.pattern.now).seconds c.in_ok-seconds.seconds c.in_ok-seconds.ensures.ok c.in_ok-seconds.ensures.short;
  minutes = short_of 0 59 (meaning_of c.args.pattern.now).minutes c.in_ok-minutes.minutes c.in_ok-minutes.ensures.ok c.in_ok-minutes.ensures.short;
  hours = short_of 0 23 (meaning_of c.args.pattern.now).hours c.in_ok-hours.hours c.in_ok-hours.ensures.ok c.in_ok-hours.ensures.short;
  days = c.in_ok-days.ensures.short;
  months = short_of 1 12 (meaning_of c.args.pattern.now).months c.in_ok-months.months c.in_ok-months.ensures.ok c.in_ok-months.ensures.short;
  years = short_of 1 5000 (meaning_of c.args.pattern.now).years c.in_ok-years.years c.in_ok-years.ensures.ok c.in_ok-years.ensures.short;
}
