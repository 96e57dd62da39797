use Rattle.std.proofs.Common.{◌≡◌, ℤ, pos, ◌-ℤ◌, to_z, of_z, w64, sym, subst, rules}
use Rattle.jiff.specs.ZoneView.{plain_zone}
use Rattle.croncheck_runs.specs.Past.{IsFollowedFrom}
use Rattle.croncheck_runs.proofs.past.first_followed.Goals as goal

pub returns-clause-followed : goal.returns-clause-followed
returns-clause-followed c =
    let tz = plain_zone c.args.zone.now in
    let at : to_z w64 (of_z w64 c.second_before.result) ≡ (c.args.last -ℤ pos c.in_ok-seconds.seconds) = search rules in
    let followed : IsFollowedFrom tz c.args.last (c.args.last -ℤ pos c.in_ok-seconds.seconds) = search rules in
    subst (λ (first : ℤ). IsFollowedFrom tz c.args.last first) (sym at) followed
