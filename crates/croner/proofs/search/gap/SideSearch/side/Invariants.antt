use Rattle.std.proofs.Common.{◌-◌}
use Rattle.croner_base.specs.Civil.{wall_second}
use Rattle.croner.specs.Private.search.Gaps.{IsAround}
use Rattle.croner.proofs.search.gap.SideSearch.side.Given as goal

abbrev pub invariant-loop-around : goal.invariant-loop-around
invariant-loop-around g l =
    IsAround g.T.CronDateTime.moment g.T.CronDateTime.can_lack_memory l.self.direction (g.T.CronDateTime.moment l.self.time.now).zone (wall_second l.self.skipped) l.around

abbrev pub decreases-loop-around : goal.decreases-loop-around
decreases-loop-around g l = l.around.outside - l.around.inside
