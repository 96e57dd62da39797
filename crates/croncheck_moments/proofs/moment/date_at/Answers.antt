use Rattle.std.proofs.Common.{rules, ◌∙◌, ◌*ℤ◌, pos, ap, ℤ, SFits, w64, subst, sym}
use Rattle.std.proofs.lemmas.Int.{to_z-of_z}
use Rattle.jiff.specs.ZoneView.{plain_zone}
use Rattle.jiff_core.specs.Timestamp.{IsTimestampNanos}
use Rattle.jiff_core.specs.declared.civil.date.Date.{Date}
use Rattle.croncheck_moments.specs.Moment.{ShowsDate}
use Rattle.croncheck_moments.proofs.DatesAfter.{date_shown}
use Rattle.croncheck_moments.proofs.moment.date_at.Goals as goal

pub returns-in-Ok : goal.returns-in-Ok
returns-in-Ok c =
    let fits : SFits w64 c.args.second = search rules in
    let same = to_z-of_z w64 c.args.second fits in
    let held : IsTimestampNanos (c.args.second *ℤ pos 1_000_000_000) = search rules in
    subst (λ (date : Date). ShowsDate (plain_zone c.args.zone.now) date c.args.second) (sym c.date.ensures)
    (date_shown (plain_zone c.args.zone.now) c.to_datetime.result c.args.second c.in-Ok.instant.nanosecond
    (c.in-Ok.ensures.value ∙ ap (λ (i : ℤ). i *ℤ pos 1_000_000_000) same) c.to_datetime.ensures held)
