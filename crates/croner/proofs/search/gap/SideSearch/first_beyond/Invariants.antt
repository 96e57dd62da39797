use Rattle.std.proofs.Common.{◌≤◌, ◌-◌}
use Rattle.croner_base.specs.Civil.{wall_second}
use Rattle.croner.specs.Private.search.Gaps.{IsSkipped}
use Rattle.croner.specs.Private.search.Halves.{offset_from}
use Rattle.croner.proofs.search.gap.SideSearch.first_beyond.Given as goal

abbrev pub invariant-loop-inside : goal.invariant-loop-inside
invariant-loop-inside g l = record {
  near : l.inside ≤ l.fn.limit;
  skipped : IsSkipped (g.T.CronDateTime.moment l.self.time.now).zone (offset_from l.self.direction (wall_second l.self.skipped) l.inside);
}

abbrev pub decreases-loop-inside : goal.decreases-loop-inside
decreases-loop-inside g l = l.fn.limit - l.inside
