use Rattle.croner_base.specs.Civil.{wall_second}
use Rattle.croner_base.specs.Limits.{gap_limit}
use Rattle.croner.proofs.zone.GapSides.{crosses_gap}
use Rattle.croner.specs.Private.search.Sought.{start_of}
use Rattle.croner.proofs.search.Search.across_gap.Goals as goal

pub returns-then-is_within : goal.returns-then-is_within
returns-then-is_within g c =
    let side = rw (c.in-Ok-Some.is, c.in-Ok-Some.field-0-is) at c.gap_side.ensures in
    crosses_gap g.T.CronDateTime.moment c.args.self.now.direction gap_limit (start_of g.T.CronDateTime.moment c.args.self.now).zone (wall_second c.args.skipped) _ side.value
    (c.is_within.ensures.0 c.if-not-is_within.false) (c.is_within-in-Ok-Some.ensures.0 c.if-is_within.true)
