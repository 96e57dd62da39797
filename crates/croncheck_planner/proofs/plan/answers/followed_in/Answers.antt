use Rattle.std.proofs.Common.{◌-ℤ◌, pos, rules}
use Rattle.jiff.specs.ZoneView.{plain_zone}
use Rattle.croncheck_planner.proofs.OtherClocks.{not_calm}
use Rattle.croncheck_planner.proofs.plan.answers.followed_in.Goals as goal

pub returns-in-Err-InvalidTime : goal.returns-in-Err-InvalidTime
returns-in-Err-InvalidTime c = not_calm (plain_zone c.args.zone.now) (c.args.span.first -ℤ pos 1) c.args.span.end c.in-Err-InvalidTime.field-0 (search rules) c.in-Err-InvalidTime.ensures.err
