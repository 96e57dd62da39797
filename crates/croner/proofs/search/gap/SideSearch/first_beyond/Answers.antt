use Rattle.std.proofs.Common.{arith, ◌≡◌, ℕ, subst, sym}
use Rattle.croner_base.specs.Civil.{wall_second}
use Rattle.croner.specs.Private.search.Gaps.{IsSkipped}
use Rattle.croner.specs.Private.search.Halves.{offset_from}
use Rattle.croner.proofs.zone.Ahead.{zero_on}
use Rattle.croner.proofs.zone.GapSides.{next_skipped}
use Rattle.croner.proofs.search.gap.SideSearch.first_beyond.Goals as goal

pub loop-inside-init : goal.loop-inside-init
loop-inside-init g c = record {
  near = omega arith;
  skipped = next_skipped (g.T.CronDateTime.moment c.args.self.now.time.now).zone _ c.args.self.now.skipped (sym (zero_on c.args.self.now.direction (wall_second c.args.self.now.skipped))) c.requires.in_gap;
}

pub returns-in-Some : goal.returns-in-Some
returns-in-Some g c =
    let answered = rw c.in-Some.is at c.probe_beyond.ensures in
    let farther = c.double-outside.ensures.farther in
    let near = c.double-outside.ensures.near in
    let most = c.requires.near in
    record { ordered = farther; near = omega arith; skipped = c.loop-inside.invariant.skipped; beyond = answered }

pub loop-inside-preserved : goal.loop-inside-preserved
loop-inside-preserved g c =
    let skipped = rw c.in-None.is at c.probe_beyond.ensures in
    record { near = c.double-outside.ensures.near; skipped = skipped }

pub returns : goal.returns
returns g c =
    let t = c.loop-inside-test.false in
    let near = c.loop-inside.invariant.near in
    let same : c.loop-inside.inside ≡ c.args.limit = omega arith in
    subst (λ (n : ℕ). IsSkipped (g.T.CronDateTime.moment c.args.self.now.time.now).zone (offset_from c.args.self.now.direction (wall_second c.args.self.now.skipped) n)) same c.loop-inside.invariant.skipped
