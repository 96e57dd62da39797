use Rattle.std.proofs.Common.{◌-ℤ◌, pos, inl, inr, rules}
use Rattle.jiff.specs.ZoneView.{plain_zone}
use Rattle.croncheck_output.proofs.OkResults.{if_ok}
use Rattle.croncheck_planner.proofs.OtherClocks.{not_calm}
use Rattle.croncheck_planner.proofs.plan.answers.write_answers_in.Goals as goal

pub returns-in-Ok : goal.returns-in-Ok
returns-in-Ok g c = if_ok c.write_answers_on.result (λ writes. inl (c.in-Ok.table, c.in-Ok.ensures.table, writes)) c.write_answers_on.ensures

pub returns-in-Err-InvalidTime : goal.returns-in-Err-InvalidTime
returns-in-Err-InvalidTime g c = if_ok c.write_unfollowed.result (λ writes. inr (not_calm (plain_zone c.args.zone.now) (c.args.found.now.plan.span.first -ℤ pos 1) c.args.found.now.plan.span.end c.in-Err-InvalidTime.field-0 (search rules) c.in-Err-InvalidTime.ensures.err, writes)) c.write_unfollowed.ensures
