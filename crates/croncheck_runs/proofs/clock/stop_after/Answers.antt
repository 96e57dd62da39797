use Rattle.std.proofs.Common.{◌≡◌, pos, ◌+ℤ◌, ◌-ℤ◌, ◌<ℤ◌, to_z, of_z, w64, rules}
use Rattle.jiff.specs.ZoneView.{plain_zone}
use Rattle.croner_base.specs.ZoneTable.{IsCalmWindow}
use Rattle.croncheck_runs.specs.Clock.{last_second, seconds_before, start_after, IsStop}
use Rattle.croncheck_runs.proofs.Stops.{no_stop_late, no_stop_after, again_at}
use Rattle.croncheck_runs.proofs.clock.stop_after.Goals as goal

pub returns-then-first : goal.returns-then-first
returns-then-first c =
    let late : (last_second -ℤ pos seconds_before) <ℤ c.args.first = search rules in
    no_stop_late (plain_zone c.args.zone.now) c.args.first late

pub returns-then-not-branch : goal.returns-then-not-branch
returns-then-not-branch c =
    let tz = plain_zone c.args.zone.now in
    let not_calm : ¬ (IsCalmWindow tz c.args.first (c.args.first +ℤ pos 0)) = search rules in
    no_stop_after tz c.args.first not_calm

pub returns : goal.returns
returns c =
    let tz = plain_zone c.args.zone.now in
    let calm : IsCalmWindow tz c.args.first (c.args.first +ℤ pos 0) = search rules in
    let stop : IsStop tz c.args.first (start_after c.args.first) (c.args.first +ℤ pos c.in_ok-seconds.seconds) = search rules in
    let at : to_z w64 (of_z w64 c.second_after.result) ≡ (c.args.first +ℤ pos c.in_ok-seconds.seconds) = search rules in
    again_at tz c.args.first c.in_ok-seconds.seconds _ calm stop at
