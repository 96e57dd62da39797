use Rattle.croner_summary.proofs.ExactDays.{month_days_exact}
use Rattle.croner_summary.proofs.Shortness.{short_of}
use Rattle.croner_summary.proofs.day_phrases.month_days.Goals as goal

pub returns-clause-ok : goal.returns-clause-ok
returns-clause-ok c = month_days_exact c.args.days.now (record { numbers = c.in_ok-numbers.numbers; from_end = c.from_end.result; nearest = c.in_ok-nearest.nearest }) c.in_ok-numbers.ensures.ok c.from_end.ensures c.in_ok-nearest.ensures.ok

pub returns-clause-short : goal.returns-clause-short
returns-clause-short c = short_of 1 31 c.args.days.now c.in_ok-numbers.numbers c.in_ok-numbers.ensures.ok c.in_ok-numbers.ensures.short
