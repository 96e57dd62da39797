use Rattle.croner_summary.proofs.ExactDays.{weekdays_exact}
use Rattle.croner_summary.proofs.Shortness.{short_of}
use Rattle.croner_summary.proofs.day_phrases.weekdays.Goals as goal

pub returns-clause-ok : goal.returns-clause-ok
returns-clause-ok c =
    weekdays_exact c.args.weekdays.now
    (record { each = c.in_ok-each.each; first = c.in_ok-first.first; second = c.in_ok-second.second; third = c.in_ok-third.third; fourth = c.in_ok-fourth.fourth; fifth = c.in_ok-fifth.fifth; last = c.in_ok-last.last })
    (record {
      each = c.in_ok-each.ensures.ok;
      first = c.in_ok-first.ensures.ok;
      second = c.in_ok-second.ensures.ok;
      third = c.in_ok-third.ensures.ok;
      fourth = c.in_ok-fourth.ensures.ok;
      fifth = c.in_ok-fifth.ensures.ok;
      last = c.in_ok-last.ensures.ok;
    })

pub returns-clause-short : goal.returns-clause-short
returns-clause-short c = short_of 0 6 c.args.weekdays.now c.in_ok-each.each c.in_ok-each.ensures.ok c.in_ok-each.ensures.short
