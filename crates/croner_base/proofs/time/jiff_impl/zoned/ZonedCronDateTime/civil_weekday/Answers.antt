use Rattle.std.proofs.Common.{◌∙◌, ap, ◌+◌, ◌%◌}
use Rattle.croner_base.specs.Civil.{weekday_of_second}
use Rattle.croner_base.proofs.calendar.JiffSeconds.{weekday-civil_seconds}
use Rattle.croner_base.proofs.time.jiff_impl.zoned.ZonedCronDateTime.civil_weekday.Goals as goal

pub returns : goal.returns
returns c =
    c.to_weekday.ensures ∙ ap (λ n. (n + 1) % 7) c.weekday.ensures ∙ weekday-civil_seconds c.shown_date_time.result
    ∙ ap weekday_of_second c.shown_date_time.ensures
