use Rattle.std.proofs.Common.{◌∙◌, ℤ, w64, FitsSigned, to_z, of_z, ap, rules, sym, subst}
use Rattle.std.proofs.lemmas.Int.{to_z-of_z}
use Rattle.jiff.specs.ZoneView.{plain_zone}
use Rattle.jiff_core.specs.Time.{time_nanos}
use Rattle.croncheck_moments.specs.Moment.{IsBegin}
use Rattle.croncheck_moments.proofs.Dates.{begin_over, begin_shown}
use Rattle.croncheck_moments.proofs.date.begin_of.Goals as goal

pub returns-in-Some : goal.returns-in-Some
returns-in-Some c =
    let tz = plain_zone c.args.zone.now in
    let second = c.in-Some.second in
    let fits : FitsSigned w64 second = search rules in
    subst (λ (s : ℤ). IsBegin tz c.args.date s) (sym (to_z-of_z w64 second fits))
    (begin_shown tz c.args.date c.to_datetime.result c.second_shown.result second c.to_datetime.ensures.date
    (ap time_nanos c.to_datetime.ensures.time ∙ c.midnight.ensures) c.second_shown.ensures c.in-Some.is)

pub returns-in-None : goal.returns-in-None
returns-in-None c =
    let midnight = c.midnight_of.result in
    let fits : FitsSigned w64 midnight = search rules in
    begin_over (plain_zone c.args.zone.now) c.args.date c.to_datetime.result c.second_shown.result c.first_over.result (to_z w64 (of_z w64 midnight))
    c.to_datetime.ensures.date (ap time_nanos c.to_datetime.ensures.time ∙ c.midnight.ensures) c.second_shown.ensures c.in-None.is
    (to_z-of_z w64 midnight fits ∙ c.midnight_of.ensures.value) c.first_over.ensures
