use Rattle.std.proofs.Common.{◌∙◌, w64, FitsSigned, to_z, of_z, ap, rules}
use Rattle.std.proofs.lemmas.Int.{to_z-of_z}
use Rattle.jiff.specs.ZoneView.{plain_zone}
use Rattle.croncheck_moments.specs.Moment.{shown_at}
use Rattle.croncheck_moments.proofs.Dates.{hides_where}
use Rattle.croncheck_moments.proofs.date.shows_date.Goals as goal

pub returns-clause-hides : goal.returns-clause-hides
returns-clause-hides c =
    let shown = c.shown_at.result in
    let midnight = c.midnight_of.result in
    let shown_fits : FitsSigned w64 shown = search rules in
    let second_fits : FitsSigned w64 c.args.second = search rules in
    let midnight_fits : FitsSigned w64 midnight = search rules in
    hides_where (plain_zone c.args.zone.now) c.args.date c.args.second (to_z w64 (of_z w64 shown)) (to_z w64 (of_z w64 midnight)) c.lies_in_day.result
    (to_z-of_z w64 shown shown_fits ∙ c.shown_at.ensures ∙ ap (shown_at (plain_zone c.args.zone.now)) (to_z-of_z w64 c.args.second second_fits))
    (to_z-of_z w64 midnight midnight_fits ∙ c.midnight_of.ensures.value) c.lies_in_day.ensures.outside
