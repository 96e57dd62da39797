use Rattle.std.proofs.Common.{◌≤◌, ◌+◌, ◌/◌, ℕ, ℤ, pos, ◌-ℤ◌, to_z, of_z, w64, FitsSigned, sym, subst, rules, arith}
use Rattle.std.proofs.lemmas.Int.{to_z-of_z}
use Rattle.jiff.specs.ZoneView.{plain_zone}
use Rattle.croner_base.specs.ZoneTable.{IsCalmWindow}
use Rattle.croncheck_runs.proofs.PastClocks.{followed_back, halved}
use Rattle.croncheck_runs.proofs.past.last_calm.Goals as goal

pub loop-gap-preserved-then-branch : goal.loop-gap-preserved-then-branch
loop-gap-preserved-then-branch c =
    let zone = plain_zone c.args.zone.now in
    let last = to_z w64 (of_z w64 c.args.last) in
    let less : c.loop-gap.gap / 2 ≤ c.loop-gap.gap = omega arith in
    let calm : IsCalmWindow zone (last -ℤ pos (c.loop-gap.calm + c.loop-gap.gap / 2)) last = search rules in
    let same = halved c.loop-gap.calm c.loop-gap.gap (c.loop-gap.gap / 2) less in
    record {
      within = subst (λ (n : ℕ). n ≤ c.args.most) (sym same) c.loop-gap.invariant.within;
      is_calm = calm;
      not_calm = subst (λ (n : ℕ). ¬ (IsCalmWindow zone (last -ℤ pos n) last)) (sym same) c.loop-gap.invariant.not_calm;
    }

pub returns-clause-followed : goal.returns-clause-followed
returns-clause-followed c =
    let small : c.loop-gap.gap ≤ 1 = omega arith in
    let kept = c.loop-gap.invariant in
    let zone = plain_zone c.args.zone.now in
    let last = c.args.last in
    let fits : FitsSigned w64 last = search rules in
    let same = to_z-of_z w64 last fits in
    followed_back zone last c.args.most c.loop-gap.calm c.loop-gap.gap c.requires.reach kept.within small
    (subst (λ (l : ℤ). IsCalmWindow zone (l -ℤ pos c.loop-gap.calm) l) same kept.is_calm)
    (subst (λ (l : ℤ). ¬ (IsCalmWindow zone (l -ℤ pos (c.loop-gap.calm + c.loop-gap.gap)) l)) same kept.not_calm)

pub returns-clause-window : goal.returns-clause-window
returns-clause-window c =
    let zone = plain_zone c.args.zone.now in
    let last = c.args.last in
    let fits : FitsSigned w64 last = search rules in
    (subst (λ (l : ℤ). IsCalmWindow zone (l -ℤ pos c.loop-gap.calm) l) (to_z-of_z w64 last fits) c.loop-gap.invariant.is_calm).window
