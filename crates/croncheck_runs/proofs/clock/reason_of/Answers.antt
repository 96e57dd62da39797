use Rattle.std.proofs.Common.{◌≡◌, ◌+◌, pos, ◌-ℤ◌, true, refl, w32, w64, FitsSigned, rules}
use Rattle.std.proofs.lemmas.Int.{to_z-of_z}
use Rattle.jiff.specs.ZoneView.{plain_zone}
use Rattle.croner_base.specs.Table.{is_offset}
use Rattle.croner_base.specs.ZoneTable.{ahead_at}
use Rattle.croncheck_runs.specs.Clock.{two_days_before, skipped_with, IsReasonBy}
use Rattle.croncheck_runs.proofs.Stops.{reasons_at, calm_until}
use Rattle.croncheck_runs.proofs.clock.reason_of.Goals as goal

pub skipped_up_to-requires : goal.skipped_up_to-requires
skipped_up_to-requires c =
    let last = c.args.second -ℤ pos 1 in
    let last_fits : FitsSigned w64 last = search rules in
    let first = to_z-of_z w64 c.args.first c.ranges.first in
    let second = to_z-of_z w64 c.args.second c.ranges.second in
    let other : ¬ (c.args.second ≡ c.args.first) = search rules in
    rw (first, second, to_z-of_z w64 last last_fits) (calm_until (plain_zone c.args.zone.now) c.args.first c.args.second c.requires other)

pub returns : goal.returns
returns c =
    let tz = plain_zone c.args.zone.now in
    let last = c.args.second -ℤ pos 1 in
    let last_fits : FitsSigned w64 last = search rules in
    let first_fits : FitsSigned w64 c.args.first = c.ranges.first in
    let second_fits : FitsSigned w64 c.args.second = c.ranges.second in
    let there_fits : FitsSigned w32 c.ahead_at-there.result = search rules in
    let before_fits : FitsSigned w32 c.ahead_at-before.result = search rules in
    let there_is : c.ahead_at-there.result ≡ ahead_at tz c.args.second = search rules in
    let before_is : c.ahead_at-before.result ≡ ahead_at tz (c.args.second -ℤ pos 1) = search rules in
    let earlier_is : c.ahead_at-earlier.result ≡ ahead_at tz (two_days_before c.args.first c.args.second) = search rules in
    let near : is_offset c.ahead_at-there.result ≡ true = search rules in
    let before_stop = simp to_z-of_z at c.in_ok-skipped.ensures.value in
    let at_stop = simp to_z-of_z at c.skipped_at.ensures.value in
    let skipped_is : c.in_ok-skipped.skipped + c.skipped_at.result ≡ skipped_with tz c.args.first c.args.second =
    rw (before_stop, at_stop, there_is, before_is) refl in
    let by : IsReasonBy c.ahead_at-earlier.result c.ahead_at-before.result c.ahead_at-there.result (c.in_ok-skipped.skipped + c.skipped_at.result) c.reason_by.result = search rules in
    reasons_at tz c.args.first c.args.second c.ahead_at-earlier.result c.ahead_at-before.result c.ahead_at-there.result (c.in_ok-skipped.skipped + c.skipped_at.result)
    c.reason_by.result there_is before_is earlier_is skipped_is near by
