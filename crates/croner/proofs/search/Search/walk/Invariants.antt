use Rattle.croner.specs.Private.search.Sought.{start_of, HasComeTo}
use Rattle.croner.specs.search.Premises.{StartsCalm}
use Rattle.croner_base.specs.Civil.{wall_second}
use Rattle.croner.proofs.zone.GapSides.{Paced}
use Rattle.croner.proofs.search.Search.walk.Given as goal

abbrev pub invariant-loop-passed : goal.invariant-loop-passed
invariant-loop-passed g l =
    let start = start_of g.T.CronDateTime.moment l.self in
    record {
      walking : HasComeTo g.T.CronDateTime.moment g.S.Schedule.timetable l.self (wall_second l.wall);
      paced : StartsCalm start → Paced l.self.direction start.zone start.instant (wall_second l.wall) l.passed;
    }
