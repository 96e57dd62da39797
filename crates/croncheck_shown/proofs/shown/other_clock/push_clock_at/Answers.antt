use Rattle.jiff.specs.ZoneView.{plain_zone}
use Rattle.croncheck_output.proofs.OkResults.{if_ok}
use Rattle.croncheck_shown.proofs.ClockTexts.{other_said}
use Rattle.croncheck_shown.proofs.shown.other_clock.push_clock_at.Goals as goal

pub returns : goal.returns
returns c = λ second is.
    if_ok c.write.result
    (λ wrote. other_said c.args.language (plain_zone c.args.zone.now) c.to_datetime-shown.result second c.args.instant.nanosecond c.to_civil.result _ _ _ _ _ is
    c.args.instant.in_range c.to_datetime-shown.ensures c.to_civil.ensures c.civil_weekday.ensures c.weekday_text.ensures c.ahead_in.ensures wrote)
    c.write.ensures.bytes
