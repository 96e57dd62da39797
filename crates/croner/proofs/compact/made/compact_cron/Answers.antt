use Rattle.croner.specs.Views.{job_of}
use Rattle.croner.proofs.compact.SameWords.{kind_same, hours_shown, months_shown, made_alike}
use Rattle.croner.proofs.compact.made.compact_cron.Goals as goal

pub invariant_of-result : goal.invariant_of-result
invariant_of-result c =
    let m = job_of c.args.cron.now in
    let shaped = c.args.cron.now.shaped in
    record {
      kind = kind_same m shaped c.is_fixed_time.result c.plain.result c.plain-2.result c.hours_of.result c.is_fixed_time.ensures c.plain.ensures c.plain-2.ensures
          (hours_shown m shaped c.hours_of.result c.hours_of.ensures);
    }

pub returns : goal.returns
returns c =
    let m = job_of c.args.cron.now in
    let shaped = c.args.cron.now.shaped in
    made_alike m shaped c.is_fixed_time.result c.plain.result c.plain-2.result c.hours_of.result c.plain_days.result c.nearest_days.result c.of.result c.months_of.result
    c.weeks_of.result c.args.years c.is_dom_wildcard.result c.is_dow_wildcard.result c.matches_dom_and_dow.result
    c.is_fixed_time.ensures c.plain.ensures c.plain-2.ensures (hours_shown m shaped c.hours_of.result c.hours_of.ensures) c.plain_days.ensures c.nearest_days.ensures
    c.of.ensures.last c.of.ensures.working (months_shown m shaped c.months_of.result c.months_of.ensures) c.weeks_of.ensures c.requires
    c.is_dom_wildcard.ensures c.is_dow_wildcard.ensures c.matches_dom_and_dow.ensures
