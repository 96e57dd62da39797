use Rattle.std.proofs.Common.{inr, rules, ℤ, SFits, w64, subst}
use Rattle.std.proofs.lemmas.Int.{to_z-of_z}
use Rattle.jiff.specs.ZoneView.{plain_zone}
use Rattle.croncheck_moments.specs.Moment.{ShowsDate}
use Rattle.croncheck_moments.proofs.moment.last_of_month.Goals as goal

pub returns-in-Some : goal.returns-in-Some
returns-in-Some c =
    let today = c.in-Some.today in
    let fits : SFits w64 c.args.second = search rules in
    let shown : ShowsDate (plain_zone c.args.zone.now) today c.args.second =
    subst (λ (second : ℤ). ShowsDate (plain_zone c.args.zone.now) today second) (to_z-of_z w64 c.args.second fits) c.in-Some.ensures in
    inr (today, c.last_of_month.result, shown, c.last_of_month.ensures, c.last_before_next.ensures)
