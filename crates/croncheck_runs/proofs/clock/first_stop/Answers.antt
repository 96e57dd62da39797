use Rattle.std.proofs.Common.{◌≤◌, ◌+◌, ℤ, pos, ◌+ℤ◌, w64, FitsSigned, subst, rules, arith}
use Rattle.std.proofs.lemmas.Int.{to_z-of_z}
use Rattle.jiff.specs.ZoneView.{plain_zone}
use Rattle.croner_base.specs.ZoneTable.{IsCalmWindow}
use Rattle.croncheck_runs.proofs.Stops.{stop_at}
use Rattle.croncheck_runs.proofs.clock.first_stop.Goals as goal

pub returns : goal.returns
returns c =
    let small : c.loop-gap.gap ≤ 1 = omega arith in
    let kept = c.loop-gap.invariant in
    let zone = plain_zone c.args.zone.now in
    let fits : FitsSigned w64 c.args.first = search rules in
    let same = to_z-of_z w64 c.args.first fits in
    stop_at zone c.args.first c.args.to_last c.loop-gap.calm c.loop-gap.gap c.requires.window kept.within small
    (subst (λ (f : ℤ). IsCalmWindow zone f (f +ℤ pos c.loop-gap.calm)) same kept.is_calm)
    (subst (λ (f : ℤ). ¬ (IsCalmWindow zone f (f +ℤ pos (c.loop-gap.calm + c.loop-gap.gap)))) same kept.not_calm)
