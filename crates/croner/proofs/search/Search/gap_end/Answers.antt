use Rattle.std.proofs.lemmas.Result.{IfOk-weaker}
use Rattle.croner_base.specs.declared.time.Direction.TheVariants.{Forward}
use Rattle.croner_base.specs.Civil.{wall_second}
use Rattle.croner_base.specs.Limits.{gap_limit}
use Rattle.croner.specs.Private.search.Gaps.{HasGapSide}
use Rattle.croner.specs.Private.search.Walk.{HasGapEnd}
use Rattle.croner.proofs.zone.GapSides.{gap_end_or_none}
use Rattle.croner.proofs.search.Search.gap_end.Goals as goal

pub returns-clause-value : goal.returns-clause-value
returns-clause-value g c =
    let moment = g.T.CronDateTime.moment in
    let z = (moment c.args.self.now.start.now).zone in
    IfOk-weaker c.gap_side.result (HasGapSide moment Forward gap_limit z (wall_second c.args.skipped)) (HasGapEnd moment z (wall_second c.args.skipped))
    (λ found side. gap_end_or_none moment g.T.CronDateTime.can_lack_memory z c.args.skipped c.requires.in_gap found side) c.gap_side.ensures.value
