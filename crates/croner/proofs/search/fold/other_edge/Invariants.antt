use Rattle.std.proofs.Common.{◌-◌}
use Rattle.croner.proofs.zone.HalfEdges.{Bisected}
use Rattle.croner.proofs.search.fold.other_edge.Given as goal

abbrev pub invariant-loop-outside : goal.invariant-loop-outside
invariant-loop-outside g l =
    let m = g.T.CronDateTime.moment l.start in
    Bisected l.fn.direction m.zone m.instant m.fraction l.inside l.outside

abbrev pub decreases-loop-outside : goal.decreases-loop-outside
decreases-loop-outside g l = l.outside - l.inside
